use Prim.Native.Nat.{ℕ}
use mathlib.Core.Path.{◌≡◌}
use lib.ListN.{length}
use lib.Ieee.{Float}
use Rattle.numbers.specs.Outcome.{Outcome, gather, fill}
use Rattle.numbers.specs.Refusals.{Gives}
use Rattle.numbers.proofs.OutcomeLaws.{Gathering, Filling}
use Rattle.numbers.proofs.fill_with.Given as goal

abbrev pub invariant-loop-i : goal.invariant-loop-i
invariant-loop-i g l = (length l.out ≡ length l.initial.out)
    × ((f : ℕ → Outcome Float) → Gives (length l.initial.out) (goal.F-post g l.at) f → Gathering f (length l.initial.out) l.i l.out (gather f (length l.initial.out) 0))
    × ((f : ℕ → Outcome Float) → Gives (length l.initial.out) (goal.F-post g l.at) f → Filling f (length l.initial.out) l.i l.out (fill f (length l.initial.out) 0 l.initial.out))
