use Prim.Native.Nat.{◌-◌}
use mathlib.Core.Path.{◌≡◌}
use lib.ListN.{length}
use Rattle.cases.specs.Cases.{numbers_at}
use Rattle.cases.proofs.ReadLaws.{Underway}
use Rattle.cases.proofs.numbers_into.Given as goal

abbrev pub invariant-loop-i : goal.invariant-loop-i
invariant-loop-i l = (length l.out ≡ length l.initial.out) × Underway l.s l.at l.count l.i l.from l.out (numbers_at l.s l.at l.count l.initial.out)
