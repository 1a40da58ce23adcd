use Prim.Native.Nat.{ℕ, ◌<◌}
use mathlib.Core.Path.{◌≡◌}
use lib.ListN.{length, get_or}
use lib.Ieee.{nan}
use Rattle.numbers.proofs.LoopLaws.{Striding}
use Rattle.barycentric.specs.Weights.{factor, lane}
use Rattle.barycentric.proofs.weights.times_lane.Given as goal

abbrev pub invariant-loop-j : goal.invariant-loop-j
invariant-loop-j l = (length l.p ≡ length l.x)
    × ((k : ℕ) → k < length l.x → Striding (factor l.x k) l.d (length l.x) l.j (get_or l.p k nan) (lane l.x k l.d l.a (get_or l.initial.p k nan)))
