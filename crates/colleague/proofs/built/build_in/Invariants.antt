use mathlib.Core.Path.{◌≡◌}
use lib.ListN.{set}
use Rattle.numbers.proofs.LoopLaws.{Going}
use Rattle.colleague.specs.Built.{row_of, built_of}
use Rattle.colleague.specs.Lent.{over_leading, Blank}
use Rattle.colleague.proofs.built.build_in.Given as goal

abbrev pub invariant-loop-j : goal.invariant-loop-j
invariant-loop-j l = (l.scale ≡ over_leading l.ck l.s) × Blank l.j l.a × Going (λ i a. set a i (row_of l.ck l.s i)) l.s l.j l.a (built_of l.ck l.s)
