use mathlib.Core.Path.{◌≡◌}
use lib.ListN.{length, get_or}
use lib.Ieee.{nan}
use Rattle.numbers.specs.Operations.{◌⊕◌, ◌⊖◌, ◌⊗◌}
use Rattle.numbers.proofs.LoopLaws.{Going}
use Rattle.numbers.proofs.InPlace.{change}
use Rattle.chebyshev.specs.Places.{ended}
use Rattle.chebyshev.proofs.clenshaw_ends.Given as goal

abbrev pub invariant-loop-k : goal.invariant-loop-k
invariant-loop-k l = (length l.x ≡ length l.initial.x)
    × Going (change (λ k u. ((u ⊗ get_or l.b1 k nan ⊖ get_or l.b2 k nan) ⊕ l.a0) ⊗ l.scale) nan) (length l.initial.x) l.k l.x
    (ended l.initial.x l.a0 l.scale l.b1 l.b2)
