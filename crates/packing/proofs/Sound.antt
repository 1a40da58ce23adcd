-- What the fields of an accepted job are, as far as their words need it: counts in range, bands that hold the rules, and no NaN. Assumes nothing.
use Prim.Native.Nat.{ℕ, ◌<◌, ◌≤◌}
use mathlib.Core.Path.{◌≡◌, sym, ap, ◌∙◌}
use mathlib.Core.Bool.{Bool, true, false, not, ◌&&◌, ◌||◌, cond}
use mathlib.Core.List.{List}
use native.Mathlib.Omega.{arith}
use native.Mathlib.Nat.{not-suc-le-zero}
use borrow.Author.Tests.{leb-true}
use lib.Dec.{leb, ltb, eqb}
use lib.ListN.{length, get_or}
use lib.Seq.{get_or-take, length-take-le}
use lib.Ieee.{Float, nan, is_nan, le, eq}
use Rattle.numbers.specs.Floats.{zero64, one64, sign}
use Rattle.numbers.specs.Loops.{every}
use Rattle.numbers.specs.Outcome.{gave, bind, unless, needed_list_of}
use Rattle.numbers.proofs.LoopLaws.{every-at}
use Rattle.numbers.proofs.Order.{and_1, and_2, le_right}
use Rattle.numbers.proofs.Given.{unless_given, bind_given, needed_list_given}
use Rattle.numbers.proofs.FiniteLaws.{finite_at}
use Rattle.numbers.proofs.Unit.{number_is}
use Rattle.bands.specs.declared.Plan.{Plan}
use Rattle.bands.specs.Lookup.{band_of}
use Rattle.bands.specs.Rules.{band_holds, apart, plan_holds}
use Rattle.angles.specs.Arccosine.{arccosine_of}
use Rattle.fir_types.specs.Edges.{Edges}
use Rattle.fir_types.specs.declared.edges.Interval.{Interval}
use Rattle.fir_types.specs.Kinds.{least_taps, most_taps, taps_in_range}
use Rattle.fir_types.specs.Realizable.{realizable, realizable_for}
use Rattle.fir_types.specs.Edges.{packed, adjusted_for}
use Rattle.fields.specs.declared.request.Request.{Request}
use Rattle.fields.specs.declared.held.Fields.{Fields}
use Rattle.fields.specs.Request.{odd_taps, points_of, threshold_holds, most_exchanges, in_range, request_for}
use Rattle.fields.specs.Interpolant.{Places, Interpolation, places, each, first_places, given_places, interpolated}
use Rattle.fields.specs.Accept.{flatness_holds, counts_hold, held_points, places_of, accept_of}
use Rattle.fields.proofs.RequestLaws.{taps_hold, degree_most, points_most, accepted_range}
use Rattle.packing.specs.Packing.{points_held}

pub record Sound (j : Fields) : Type 0 where
  pub taps_most : j.request.taps ≤ 128
  pub degree_most : j.request.degree ≤ 16
  pub exchanges_most : j.request.exchanges ≤ 100
  pub made_most : j.made ≤ j.request.exchanges
  pub counts : counts_hold j.made j.request.exchanges j.flatness ≡ true
  pub threshold : is_nan j.request.threshold ≡ false
  pub flatness : is_nan j.flatness ≡ false
  pub count_least : 1 ≤ j.request.plan.count
  pub count_most : j.request.plan.count ≤ 8
  pub bands : (i : ℕ) → i < j.request.plan.count → band_holds (band_of j.request.plan i) ≡ true
  pub points_most : points_of j.request ≤ 65
  pub points : (i : ℕ) → i < points_held j → is_nan (get_or j.points i nan) ≡ false

-- ---- a plan that holds
module _ (p : Plan) (h : plan_holds p ≡ true) where
  abbrev tests : Bool
  tests = every (λ i. band_holds (band_of p i) && apart p i) p.count

  counts_hold_fact : (leb 1 p.count && leb p.count 8) ≡ true
  unfolding plan_holds
  counts_hold_fact = and_1 (leb 1 p.count && leb p.count 8) tests h

  pub plan_least : 1 ≤ p.count
  plan_least = leb-true 1 p.count (and_1 (leb 1 p.count) (leb p.count 8) counts_hold_fact)

  pub plan_most : p.count ≤ 8
  plan_most = leb-true p.count 8 (and_2 (leb 1 p.count) (leb p.count 8) counts_hold_fact)

  pub plan_band : (i : ℕ) → i < p.count → band_holds (band_of p i) ≡ true
  unfolding plan_holds
  plan_band i k =
      and_1 (band_holds (band_of p i)) (apart p i)
      (every-at (λ i. band_holds (band_of p i) && apart p i) p.count i (and_2 (leb 1 p.count && leb p.count 8) tests h) k)

-- ---- a request in range
module _ (r : Request) (h : in_range r ≡ true) where
  abbrev front : Bool
  front = taps_in_range r.taps r.symmetry && leb 2 r.degree && leb r.degree 16

  pub taps_few : r.taps ≤ 128
  taps_few = leb-true r.taps most_taps (and_2 (leb (least_taps r.taps r.symmetry) r.taps) (leb r.taps most_taps) (taps_hold r h))

  pub exchanges_few : r.exchanges ≤ 100
  unfolding in_range
  exchanges_few = leb-true r.exchanges most_exchanges (and_2 front (leb r.exchanges most_exchanges) (and_1 (front && leb r.exchanges most_exchanges) (threshold_holds r.threshold) h))

  pub threshold_number : is_nan r.threshold ≡ false
  unfolding in_range
  threshold_number =
      le_right zero64 r.threshold
      (and_1 (le zero64 r.threshold) (le r.threshold one64) (and_2 (front && leb r.exchanges most_exchanges) (threshold_holds r.threshold) h))

pub request_plan : (r : Request) (l : List Interval) → request_for r ≡ gave l → plan_holds r.plan ≡ true
unfolding request_for realizable_for
request_plan r l e =
    let a = unless_given (in_range r) 5 (bind (realizable_for r.plan r.symmetry (odd_taps r)) (λ _. adjusted_for r.plan r.symmetry (odd_taps r))) e in
    let b = bind_given (realizable_for r.plan r.symmetry (odd_taps r)) (λ _. adjusted_for r.plan r.symmetry (odd_taps r)) a.rest in
    (unless_given (plan_holds r.plan) 6 (unless (realizable r.plan r.symmetry (odd_taps r)) 7 (gave tt)) b.given).test

-- ---- the points that a job holds
given_number : (points : List Float) (p : Places) → given_places points ≡ gave p → (i : ℕ) → i < length points → is_nan (get_or points i nan) ≡ false
unfolding given_places
given_number points p e i h =
    let a = bind_given (needed_list_of points (length points)) (λ x. bind (each arccosine_of x) (λ f. gave (places f x))) e in
    number_is (get_or points i nan) (finite_at points i (needed_list_given points a.value (length points) a.given).test h)

held_number : (j : Fields) (b : Edges) (p : Places) → length j.points ≡ 65 → points_of j.request ≤ 65 → places_of j b ≡ gave p → (i : ℕ) → i < points_held j → is_nan (get_or j.points i nan) ≡ false
held_number j b p room most e = go (eqb j.made 0) e
  where
    go : (t : Bool) → cond t (first_places j.request b) (given_places (held_points j)) ≡ gave p → (i : ℕ) → i < cond t 0 (points_of j.request) → is_nan (get_or j.points i nan) ≡ false
    go true e i h = absurd (not-suc-le-zero h)
    go false e i h =
        let long : length (held_points j) ≡ points_of j.request = length-take-le (points_of j.request) j.points (omega (arith, most, room)) in
        let k : i < length (held_points j) = omega (arith, long, h) in
        ap is_nan (sym (get_or-take (points_of j.request) j.points i nan h)) ∙ given_number (held_points j) p e i k

-- ---- an accepted job
pub sound : (j : Fields) (i : Interpolation) → length j.points ≡ 65 → accept_of j ≡ gave i → Sound j
unfolding accept_of
sound j i room e =
    let r = j.request in
    let c = unless_given (counts_hold j.made r.exchanges j.flatness) 14 (bind (request_for r) (λ bands. bind (places_of j (packed bands)) (interpolated r))) e in
    let b = bind_given (request_for r) (λ bands. bind (places_of j (packed bands)) (interpolated r)) c.rest in
    let p = bind_given (places_of j (packed b.value)) (interpolated r) b.rest in
    let range = accepted_range r b.value b.given in
    let plan = request_plan r b.value b.given in
    let flat : flatness_holds j.made j.flatness ≡ true = and_2 (leb j.made r.exchanges) (flatness_holds j.made j.flatness) c.test in
    let f = j.flatness in
    record {
      taps_most = taps_few r range;
      degree_most = degree_most r range;
      exchanges_most = exchanges_few r range;
      made_most = leb-true j.made r.exchanges (and_1 (leb j.made r.exchanges) (flatness_holds j.made j.flatness) c.test);
      counts = c.test;
      threshold = threshold_number r range;
      flatness =
          le_right zero64 f
          (and_1 (le zero64 f) (le f one64)
          (and_1 (le zero64 f && le f one64) (not (sign f))
          (and_1 (le zero64 f && le f one64 && not (sign f)) (ltb 0 j.made || eq f zero64) flat)));
      count_least = plan_least r.plan plan;
      count_most = plan_most r.plan plan;
      bands = plan_band r.plan plan;
      points_most = points_most r range;
      points = held_number j (packed b.value) p.value room (points_most r range) p.given;
    }
