-- What is known of an accepted job and of what is worked out from it, and the numbers with which one is refused.
use Rattle.std.specs.Prelude.{ℕ, ◌<◌, ◌≤◌, ◌≡◌, true, length, get_or}
use Rattle.std.specs.Float.{nan}
use Rattle.std.specs.Float.Ieee.{neg}
use Rattle.std.specs.Float.Ieee.Scale.{finite}
use Rattle.numbers.specs.Floats.{one64, all_finite, Inside}
use Rattle.bands.specs.Rules.{plan_holds}
use Rattle.fields.specs.declared.held.Fields.{Fields}
use Rattle.fields.specs.Request.{points_of, in_range}
use Rattle.fields.specs.Interpolant.{Places, Interpolation, falling}
use Rattle.fields.specs.Accept.{counts_hold}

-- n frequencies and n points, every one finite, every point in -1 to 1
pub record Placed (n : ℕ) (p : Places) : Type 0 where
  pub freqs_many : length p.freqs ≡ n
  pub freqs_finite : all_finite p.freqs ≡ true
  pub x_many : length p.x ≡ n
  pub x_finite : all_finite p.x ≡ true
  pub inside : (k : ℕ) → k < n → Inside (neg one64) one64 (get_or p.x k nan)

-- strictly falling, with as many weights and abscissas, every one finite, delta too
pub record Interpolates (n : ℕ) (i : Interpolation) : Type 0 where
  pub placed : Placed n i.places
  pub falls : falling i.places.x ≡ true
  pub weights_many : length i.weights ≡ n
  pub weights_finite : all_finite i.weights ≡ true
  pub abscissas_many : length i.abscissas ≡ n
  pub abscissas_finite : all_finite i.abscissas ≡ true
  pub delta_finite : finite i.delta ≡ true

pub record AcceptedFacts (j : Fields) (i : Interpolation) : Type 0 where
  pub counts : counts_hold j.made j.request.exchanges j.flatness ≡ true
  pub range : in_range j.request ≡ true
  pub points_least : 3 ≤ points_of j.request
  pub points_most : points_of j.request ≤ 65
  pub degree_least : 2 ≤ j.request.degree
  pub degree_most : j.request.degree ≤ 16
  pub plan : plan_holds j.request.plan ≡ true
  pub interpolates : Interpolates (points_of j.request) i

pub data AcceptRefusal : ℕ → Type 0 where
  counts : AcceptRefusal 14
  request : AcceptRefusal 5
  bands : AcceptRefusal 6
  response : AcceptRefusal 7
  edges : AcceptRefusal 8
  needed : AcceptRefusal 9
