use Rattle.subdivision.specs.Subdivide.{cut_from}
use Rattle.subdivision.proofs.CutLaws.{Underway}
use Rattle.subdivision.proofs.cuts.cut_band.Given as goal

abbrev pub invariant-loop-k : goal.invariant-loop-k
invariant-loop-k l = Underway l.x l.begin l.end l.made l.k (cut_from l.x l.initial.begin l.end l.fn.c)
