-- Bands that are read one after another into a plan. Assumes nothing.
use Rattle.std.proofs.Common.{ℕ, suc, ◌+◌, ◌-◌, ◌<◌, ◌≤◌, ◌≡◌, refl, ◌∙◌, Bool, true, ◌&&◌, List, Result, arith, le-ltb, length}
use native.Mathlib.Nat.{sub-zero}
use lib.ListN.{set, length-set}
use Rattle.std.specs.Result.{is_ok}
use Rattle.bands.specs.declared.Band.{Band}
use Rattle.cases.specs.declared.plans.Planned.{Planned}
use Rattle.cases.specs.Plans.{read_in, band_at, empty_plan, planned, plan_from, plan_at}

-- i of the bands are read, and those from `from` on give r
pub record Planning (s : List ℕ) (count i from : ℕ) (good : Bool) (list : List Band) (r : Result Planned Planned) : Type 0 where
  pub within : i ≤ count
  pub few : count ≤ 8
  pub long : length list ≡ 8
  pub rest : plan_from s count (count - i) i from good list ≡ r

pub plan_start : {s : List ℕ} {at count : ℕ} → count ≤ 8 → Planning s count 0 at true empty_plan.bands (plan_at s at count)
unfolding plan_at
plan_start {s} {at} {count} h =
    record { within = omega arith; few = h; long = refl; rest = rw (sub-zero, le-ltb 8 count h) }

module _ {s : List ℕ} {count i from : ℕ} {good : Bool} {list : List Band} {r : Result Planned Planned} (g : Planning s count i from good list r) where
  pub plan_next : i < count →
      Planning s count (i + 1) (read_in (band_at s from)).at (good && is_ok (band_at s from)) (set list i (read_in (band_at s from)).band) r
  unfolding plan_from
  plan_next h =
      let z : count - i ≡ suc (count - (i + 1)) = omega arith in
      record {
        within = omega arith;
        few = g.few;
        long = length-set list i (read_in (band_at s from)).band ∙ g.long;
        rest = rw z at g.rest;
      }

  pub plan_end : {n : ℕ} {t : Bool} → n ≡ count → good ≡ t → count ≤ i → planned list n from t ≡ r
  unfolding plan_from
  plan_end e f h = let z : count - i ≡ 0 = omega arith in rw e (rw (z, f) at g.rest)
