use Prim.Native.Nat.{ℕ, ◌<◌}
use mathlib.Core.Path.{◌≡◌}
use lib.ListN.{length, get_or}
use lib.Ieee.{nan}
use Rattle.numbers.specs.Loops.{run}
use Rattle.numbers.proofs.LoopLaws.{Going}
use Rattle.barycentric.specs.Delta.{no_sums}
use Rattle.barycentric.specs.Response.{response_step}
use Rattle.barycentric.specs.Lanes.{both}
use Rattle.barycentric.proofs.response.Points.sums_into.Given as goal

abbrev pub invariant-loop-i : goal.invariant-loop-i
invariant-loop-i l = (length l.numer ≡ length l.places) × (length l.denom ≡ length l.places)
    × ((k : ℕ) → k < length l.places →
    Going (response_step (get_or l.places k nan) l.self.x.now l.self.wk.now l.self.yk.now) (length l.self.x.now) l.i (both l.numer l.denom k) (run (response_step (get_or l.places k nan) l.self.x.now l.self.wk.now l.self.yk.now) (length l.self.x.now) 0 no_sums))
