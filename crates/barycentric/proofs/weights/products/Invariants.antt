use Prim.Native.Nat.{ℕ, ◌<◌, ◌≤◌}
use mathlib.Core.Path.{◌≡◌}
use lib.ListN.{length, get_or}
use lib.Ieee.{nan}
use Rattle.numbers.proofs.LoopLaws.{Going}
use Rattle.barycentric.specs.Weights.{lane, product}
use Rattle.barycentric.proofs.weights.products.Given as goal

abbrev pub invariant-loop-a : goal.invariant-loop-a
invariant-loop-a l = (0 < l.d) × (l.d ≤ length l.x) × (length l.p ≡ length l.x)
    × ((k : ℕ) → k < length l.x → Going (lane l.x k l.d) l.d l.a (get_or l.p k nan) (product l.x k))
