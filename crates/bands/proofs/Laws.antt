-- What a plan that is taken guarantees, for callers. Assumes nothing.
use Prim.Native.Nat.{◌≤◌}
use mathlib.Core.Path.{◌≡◌}
use mathlib.Core.Bool.{true, ◌&&◌}
use borrow.Author.Tests.{leb-true}
use lib.Dec.{leb}
use Rattle.numbers.specs.Loops.{every}
use Rattle.numbers.proofs.Order.{and_1, and_2}
use Rattle.bands.specs.declared.Plan.{Plan}
use Rattle.bands.specs.Lookup.{band_of}
use Rattle.bands.specs.Rules.{plan_holds, band_holds, apart}

-- 1 to 8 bands
pub holds_least : (p : Plan) → plan_holds p ≡ true → 1 ≤ p.count
unfolding plan_holds
holds_least p h = leb-true 1 p.count (and_1 (leb 1 p.count) (leb p.count 8) (and_1 (leb 1 p.count && leb p.count 8) (every (λ i. band_holds (band_of p i) && apart p i) p.count) h))

pub holds_most : (p : Plan) → plan_holds p ≡ true → p.count ≤ 8
unfolding plan_holds
holds_most p h = leb-true p.count 8 (and_2 (leb 1 p.count) (leb p.count 8) (and_1 (leb 1 p.count && leb p.count 8) (every (λ i. band_holds (band_of p i) && apart p i) p.count) h))
