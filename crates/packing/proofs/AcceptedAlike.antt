-- Fields that are alike are accepted alike, and finished alike. Assumes nothing.
use Prim.Native.Nat.{◌≤◌}
use mathlib.Core.Path.{◌≡◌, refl, sym, ap, ◌∙◌}
use mathlib.Core.Bool.{Bool, true, false, cond}
use mathlib.Core.List.{List}
use lib.Dec.{eqb, ltb}
use lib.ListN.{length, take}
use Rattle.numbers.specs.Outcome.{Outcome, refused, gave, bind, unless}
use Rattle.bands.specs.Rules.{plan_holds}
use Rattle.barycentric.specs.Weights.{weights_for}
use Rattle.barycentric.specs.Delta.{delta_for}
use Rattle.barycentric.specs.Abscissas.{abscissas_for}
use Rattle.fir_types.specs.Edges.{Edges}
use Rattle.fir_types.specs.declared.edges.Interval.{Interval}
use Rattle.fir_types.specs.Realizable.{realizable, realizable_for}
use Rattle.fir_types.specs.Edges.{packed, adjusted, adjusted_for}
use Rattle.fir_types.specs.Adjusted.{adjusted_desired, adjusted_weight}
use Rattle.fields.specs.declared.request.Request.{Request}
use Rattle.fields.specs.declared.held.Fields.{Fields}
use Rattle.fields.specs.Request.{odd_taps, points_of, in_range, request_for}
use Rattle.fields.specs.Interpolant.{Interpolation, interpolation, each, first_places, given_places, falling, interpolated}
use Rattle.fields.specs.Accept.{counts_hold, held_points, places_of, accept_of, finished}
use Rattle.packing.specs.Packing.{words_of, fields_of}
use Rattle.packing.specs.Alike.{Stored, Alike}
use Rattle.packing.proofs.Sound.{plan_least}
use Rattle.packing.proofs.RoundTrip.{unpacked}
use Rattle.packing.proofs.PlansAlike.{plans_hold, desired_adjusted, weight_adjusted, realizable_alike, adjusted_alike}

module _ (j k : Fields) (a : Alike j k) where
  abbrev r : Request
  r = j.request

  abbrev q : Request
  q = k.request

  ranges : in_range r ≡ in_range q
  unfolding in_range
  ranges = rw (a.taps, a.symmetry, a.degree, a.exchanges, a.threshold)

  plans : plan_holds r.plan ≡ plan_holds q.plan
  plans = plans_hold r.plan q.plan a.count a.bands

  -- ---- where the plan breaks the rules, nothing else of it is asked
  stopped : (p : Request) → plan_holds p.plan ≡ false → request_for p ≡ unless (in_range p) 5 (refused 6)
  unfolding request_for realizable_for
  stopped p e = rw e

  stays : {A B : Type 0} (t : Bool) (f g : A → Outcome B) → bind (unless t 5 (refused 6)) f ≡ bind (unless t 5 (refused 6)) g
  stays true f g = refl
  stays false f g = refl

  -- ---- where it holds them
  module _ (holds : plan_holds q.plan ≡ true) where
    least : 1 ≤ q.plan.count
    least = plan_least q.plan holds

    desired : adjusted_desired r.plan r.symmetry (odd_taps r) ≡ adjusted_desired q.plan q.symmetry (odd_taps q)
    desired =
        ap (λ f. f r.symmetry (odd_taps r)) (desired_adjusted r.plan q.plan a.count a.bands least)
        ∙ rw (a.symmetry, a.taps)

    weight : adjusted_weight r.plan r.symmetry (odd_taps r) ≡ adjusted_weight q.plan q.symmetry (odd_taps q)
    weight =
        ap (λ f. f r.symmetry (odd_taps r)) (weight_adjusted r.plan q.plan a.count a.bands least)
        ∙ rw (a.symmetry, a.taps)

    worked_out : interpolated r ≡ interpolated q
    unfolding interpolated
    worked_out =
        λ t p.
        unless (falling p.x) 9
        (bind (weights_for p.x (length p.x)) (λ w.
        bind (each (desired t) p.freqs) (λ d.
        bind (each (weight t) p.freqs) (λ v.
        bind (delta_for w d v) (λ delta.
        bind (abscissas_for delta d v (length p.x)) (λ y.
        gave (interpolation p w y delta)))))))

    checked : realizable_for r.plan r.symmetry (odd_taps r) ≡ realizable_for q.plan q.symmetry (odd_taps q)
    unfolding realizable_for
    checked =
        ap (λ t. unless t 6 (unless (realizable r.plan r.symmetry (odd_taps r)) 7 (gave tt))) plans
        ∙ ap (λ f. unless (plan_holds q.plan) 6 (unless (f r.symmetry (odd_taps r)) 7 (gave tt))) (realizable_alike r.plan q.plan a.count a.bands least)
        ∙ rw (a.symmetry, a.taps)

    edges : adjusted_for r.plan r.symmetry (odd_taps r) ≡ adjusted_for q.plan q.symmetry (odd_taps q)
    unfolding adjusted_for
    edges =
        ap (λ t. unless t 6 (unless (ltb 0 (length (adjusted r.plan r.symmetry (odd_taps r)))) 8 (gave (adjusted r.plan r.symmetry (odd_taps r))))) plans
        ∙ ap (λ l. unless (plan_holds q.plan) 6 (unless (ltb 0 (length l)) 8 (gave l))) (adjusted_alike r.plan q.plan a.count a.bands least r.symmetry (odd_taps r))
        ∙ rw (a.symmetry, a.taps)

    requests : request_for r ≡ request_for q
    unfolding request_for
    requests =
        ap (λ t. unless t 5 (bind (realizable_for r.plan r.symmetry (odd_taps r)) (λ _. adjusted_for r.plan r.symmetry (odd_taps r)))) ranges
        ∙ ap (λ o. unless (in_range q) 5 (bind o (λ _. adjusted_for r.plan r.symmetry (odd_taps r)))) checked
        ∙ ap (λ o. unless (in_range q) 5 (bind (realizable_for q.plan q.symmetry (odd_taps q)) (λ _. o))) edges

  -- ---- the places
  first_alike : (b : Edges) → first_places r b ≡ first_places q b
  unfolding first_places
  first_alike b = rw (a.taps, a.symmetry)

  points_alike : points_of r ≡ points_of q
  points_alike = rw (a.taps, a.symmetry)

  places_alike : (b : Edges) → places_of j b ≡ places_of k b
  places_alike b = ap (λ n. cond (eqb n 0) (first_places r b) (given_places (held_points j))) a.made ∙ go (eqb k.made 0) a.points
    where
      go : (t : Bool) → take (cond t 0 (points_of k.request)) j.points ≡ take (cond t 0 (points_of k.request)) k.points
          → cond t (first_places j.request b) (given_places (held_points j)) ≡ cond t (first_places k.request b) (given_places (held_points k))
      go true e = first_alike b
      go false e = ap (λ n. given_places (take n j.points)) points_alike ∙ ap given_places e

  abbrev after : Fields → List Interval → Outcome Interpolation
  after i bands = bind (places_of i (packed bands)) (interpolated i.request)

  rest_alike : bind (request_for r) (after j) ≡ bind (request_for q) (after k)
  rest_alike = go (plan_holds q.plan) refl
    where
      go : (t : Bool) → plan_holds k.request.plan ≡ t → bind (request_for j.request) (after j) ≡ bind (request_for k.request) (after k)
      go true e =
          ap (λ o. bind o (after j)) (requests e)
          ∙ (λ t. bind (request_for k.request) (λ bands. bind (places_alike (packed bands) t) (worked_out e t)))
      go false e =
          ap (λ o. bind o (after j)) (stopped j.request (plans ∙ e) ∙ ap (λ t. unless t 5 (refused 6)) ranges)
          ∙ stays (in_range k.request) (after j) (after k)
          ∙ ap (λ o. bind o (after k)) (sym (stopped k.request e))

  -- accepting reads no band beyond the count and no point beyond those that are held
  pub accepted_alike : accept_of j ≡ accept_of k
  unfolding accept_of
  accepted_alike =
      ap (λ t. unless t 14 (bind (request_for r) (after j))) counts
      ∙ ap (λ o. unless (counts_hold k.made q.exchanges k.flatness) 14 o) rest_alike
    where
      counts : counts_hold j.made j.request.exchanges j.flatness ≡ counts_hold k.made k.request.exchanges k.flatness
      counts = rw (a.made, a.exchanges, a.flatness)

  pub finished_alike : finished j ≡ finished k
  finished_alike = rw (a.made, a.exchanges, a.flatness, a.threshold)

-- the fields read from an accepted job's words are accepted with the same outcome
pub unpacked_accepted : (j : Fields) (i : Interpolation) → Stored j → accept_of j ≡ gave i → accept_of (fields_of (words_of j)) ≡ gave i
unpacked_accepted j i stored e = accepted_alike (fields_of (words_of j)) j (unpacked j i stored e) ∙ e
