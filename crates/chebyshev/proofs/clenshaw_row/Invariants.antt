use mathlib.Core.Path.{◌≡◌}
use lib.ListN.{length, get_or}
use lib.Ieee.{nan}
use Rattle.numbers.proofs.LoopLaws.{Going}
use Rattle.numbers.proofs.InPlace.{change}
use Rattle.chebyshev.specs.Places.{pairs, no_pair, turn, turned}
use Rattle.chebyshev.proofs.clenshaw_row.Given as goal

abbrev pub invariant-loop-k : goal.invariant-loop-k
invariant-loop-k l = (length l.b1 ≡ length l.x)
    × (length l.b2 ≡ length l.x)
    × Going (change (λ k. turn (get_or l.x k nan) l.ak) no_pair) (length l.x) l.k (pairs l.b1 l.b2)
    (turned l.x l.ak (pairs l.initial.b1 l.initial.b2))
