use Prim.Native.Nat.{◌-◌}
use mathlib.Core.Path.{◌≡◌}
use lib.Ieee.{nan}
use lib.ListN.{length, get_or, take}
use Rattle.numbers.specs.Loops.{run}
use Rattle.numbers.proofs.Lanes.{row}
use Rattle.numbers.proofs.LoopLaws.{Going}
use Rattle.chebyshev.specs.Places.{pairs, no_pair}
use Rattle.chebyshev.specs.Coefficients.{clenshaw_step}
use Rattle.chebyshev.proofs.clenshaw.Given as goal

abbrev pub invariant-loop-t : goal.invariant-loop-t
invariant-loop-t l = (length l.b1 ≡ 64)
    × (length l.b2 ≡ 64)
    × Going (row (λ k. clenshaw_step l.a (get_or l.x k nan)) (length l.x) no_pair) (length l.a - 2) l.t (pairs (take (length l.x) l.b1) (take (length l.x) l.b2))
    (run (row (λ k. clenshaw_step l.a (get_or l.x k nan)) (length l.x) no_pair) (length l.a - 2) 0 (pairs (take (length l.x) l.initial.b1) (take (length l.x) l.initial.b2)))
