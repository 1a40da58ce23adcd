use Rattle.subdivision.specs.Subdivide.{packed, subdivided}
use Rattle.subdivision.proofs.CutLaws.{Dividing}
use Rattle.subdivision.proofs.cuts.cut_bands.Given as goal

abbrev pub invariant-loop-b : goal.invariant-loop-b
invariant-loop-b l = Dividing l.x l.fn.bands l.c.intervals l.c.left l.b-index (packed (subdivided l.x l.fn.bands))
