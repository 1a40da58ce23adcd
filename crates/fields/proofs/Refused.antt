-- Which refusals there are: working out the points and the interpolation of an accepted request is refused with 9 alone, and a job
-- with 14, 5, 6, 7, 8 or 9 alone. Assumes nothing.
use Prim.Native.Nat.{ℕ, ◌≤◌}
use mathlib.Core.Path.{◌≡◌, refl, sym, ap, ◌∙◌}
use mathlib.Core.Bool.{Bool, true, false, cond}
use mathlib.Core.List.{List}
use native.Mathlib.Omega.{arith}
use native.Mathlib.Nat.{le_refl}
use lib.Dec.{eqb}
use lib.ListN.{length, get_or}
use lib.Ieee.{Float, nan}
use Rattle.numbers.specs.Outcome.{Outcome, gave, bind, needed_list_of}
use Rattle.numbers.proofs.Refusing.{Refuses, Only, refuses_weaker, refuses_gave, refuses_unless, refuses_bind, refuses_gather, refuses_needed_list}
use Rattle.angles.specs.Turns.{cosine_of}
use Rattle.angles.specs.Arccosine.{arccosine_of}
use Rattle.angles.proofs.Refused.{cosine_refuses, arccosine_refuses}
use Rattle.barycentric.specs.Weights.{weights_for}
use Rattle.barycentric.specs.Delta.{delta_for}
use Rattle.barycentric.specs.Abscissas.{abscissas_for}
use Rattle.barycentric.proofs.Lengths.{weights-length}
use Rattle.barycentric.proofs.Given.{weights_given}
use Rattle.barycentric.proofs.Refused.{weights_refuse, delta_refuses, abscissas_refuse}
use Rattle.fir_types.specs.Edges.{Edges}
use Rattle.fir_types.specs.declared.edges.Interval.{Interval}
use Rattle.fir_types.specs.Adjusted.{adjusted_desired, adjusted_weight}
use Rattle.fir_types.specs.Edges.{packed, adjusted_for}
use Rattle.fir_types.specs.Realizable.{realizable_for}
use Rattle.fir_types.proofs.Refused.{desired_refuses, weight_refuses, response_refuses, edges_refuse}
use Rattle.subdivision.specs.First.{first_for}
use Rattle.subdivision.proofs.FirstLaws.{first_refuses}
use Rattle.fields.specs.declared.request.Request.{Request}
use Rattle.fields.specs.declared.held.Fields.{Fields}
use Rattle.fields.specs.Request.{odd_taps, functions_of, points_of, in_range, request_for}
use Rattle.fields.specs.Interpolant.{Places, Interpolation, places, interpolation, each, radians_of, first_places, given_places, falling, desired_each, weight_each, interpolated}
use Rattle.fields.specs.Accept.{counts_hold, held_points, places_of, accept_of}
use Rattle.fields.specs.Facts.{AcceptRefusal}
use Rattle.fields.specs.Facts as number
use Rattle.fields.proofs.RequestLaws.{functions_range, taps_hold, points_least, points_most, accepted_range}
use Rattle.fields.proofs.Chain.{with_delta, with_errors, with_desired, with_weights, chain}
use Rattle.fields.proofs.Facts.{each_many, request_few, places_placed}

each_refuses : {P : ℕ → Type 0} (g : Float → Outcome Float) (l : List Float) → ((x : Float) → Refuses P (g x)) → Refuses P (each g l)
each_refuses g l h = refuses_gather (λ i. g (get_or l i nan)) (length l) 0 (λ j a b. h (get_or l j nan))

-- ---- the places
pub first-places_refuse : (r : Request) (bands : Edges) → in_range r ≡ true → 1 ≤ bands.count → bands.count ≤ 8 → Refuses (Only 9) (first_places r bands)
unfolding first_places
first-places_refuse r bands range a b =
    let n = functions_range r.taps r.symmetry (taps_hold r range) in
    refuses_bind (first_for (radians_of bands) (functions_of r) (points_of r)) (λ f. bind (each cosine_of f) (λ x. gave (places f x)))
    (first_refuses (radians_of bands) (functions_of r) (points_of r) a b (omega (arith, n.least)) n.most (le_refl (points_of r)))
    (λ f e. refuses_bind (each cosine_of f) (λ x. gave (places f x)) (each_refuses cosine_of f cosine_refuses) (λ x k. refuses_gave (places f x)))

pub given_places_refuse : (points : List Float) → Refuses (Only 9) (given_places points)
unfolding given_places
given_places_refuse points =
    refuses_bind (needed_list_of points (length points)) (λ x. bind (each arccosine_of x) (λ f. gave (places f x)))
    (refuses_needed_list points (length points) (le_refl (length points)))
    (λ x e. refuses_bind (each arccosine_of x) (λ f. gave (places f x)) (each_refuses arccosine_of x arccosine_refuses) (λ f k. refuses_gave (places f x)))

-- ---- as many frequencies as points, 2 to 65 of them
module _ (r : Request) (n : ℕ) (p : Places) (least : 2 ≤ n) (most : n ≤ 65) (freqs_many : length p.freqs ≡ n) (x_many : length p.x ≡ n) where
  delta_then : (w d v : List Float) → length w ≡ n → length d ≡ n → length v ≡ n → Refuses (Only 9) (with_errors r p w d v)
  delta_then w d v a b c =
      refuses_bind (delta_for w d v) (with_delta r p w d v) (delta_refuses w d v (omega (arith, a)) (omega (arith, a)) (b ∙ sym a) (c ∙ sym a))
      (λ delta e. refuses_bind (abscissas_for delta d v (length p.x)) (λ y. gave (interpolation p w y delta))
      (abscissas_refuse delta d v (length p.x) (omega (arith, b)) (omega (arith, b)) (c ∙ sym b) (omega (arith, b, x_many)))
      (λ y k. refuses_gave (interpolation p w y delta)))

  values_then : (w : List Float) → length w ≡ n → Refuses (Only 9) (with_weights r p w)
  values_then w a =
      let desired = adjusted_desired r.plan r.symmetry (odd_taps r) in
      let weight = adjusted_weight r.plan r.symmetry (odd_taps r) in
      refuses_bind (desired_each r p.freqs) (with_desired r p w) (each_refuses desired p.freqs (desired_refuses r.plan r.symmetry (odd_taps r)))
      (λ d e. refuses_bind (weight_each r p.freqs) (with_errors r p w d) (each_refuses weight p.freqs (weight_refuses r.plan r.symmetry (odd_taps r)))
      (λ v k. delta_then w d v a (each_many desired p.freqs d e ∙ freqs_many) (each_many weight p.freqs v k ∙ freqs_many)))

  pub interpolated_refuses : Refuses (Only 9) (interpolated r p)
  interpolated_refuses =
      rw (chain r p)
      (refuses_unless (falling p.x) 9 (bind (weights_for p.x (length p.x)) (with_weights r p)) (λ t. refl)
      (λ t. refuses_bind (weights_for p.x (length p.x)) (with_weights r p)
      (weights_refuse p.x (length p.x) (omega (arith, x_many)) (omega (arith, x_many)) (le_refl (length p.x)))
      (λ w e. values_then w (ap length (weights_given p.x (length p.x) w e).are ∙ weights-length p.x ∙ x_many))))

-- ---- a request
pub request_refuses : {P : ℕ → Type 0} (r : Request) → P 5 → P 6 → P 7 → P 8 → Refuses P (request_for r)
unfolding request_for
request_refuses r five six seven eight =
    let check = realizable_for r.plan r.symmetry (odd_taps r) in
    let bands = adjusted_for r.plan r.symmetry (odd_taps r) in
    refuses_unless (in_range r) 5 (bind check (λ _. bands)) (λ t. five)
    (λ t. refuses_bind check (λ _. bands) (response_refuses r.plan r.symmetry (odd_taps r) six seven) (λ u e. edges_refuse r.plan r.symmetry (odd_taps r) six eight))

-- ---- a job
module _ (j : Fields) (room : length j.points ≡ 65) where
  -- the points and the interpolation of an accepted request
  pub work_refuses : (l : List Interval) → request_for j.request ≡ gave l → Refuses (Only 9) (bind (places_of j (packed l)) (interpolated j.request))
  work_refuses l e =
      let r = j.request in
      let range = accepted_range r l e in
      let bands = request_few r l e in
      refuses_bind (places_of j (packed l)) (interpolated r) (go (eqb j.made 0) range bands.least bands.most)
      (λ p k. let a = places_placed j room l e p k in
      interpolated_refuses r (points_of r) p (omega (arith, points_least r range)) (points_most r range) a.freqs_many a.x_many)
    where
      go : (t : Bool) → in_range j.request ≡ true → 1 ≤ length l → length l ≤ 8 → Refuses (Only 9) (cond t (first_places j.request (packed l)) (given_places (held_points j)))
      go true range a b = first-places_refuse j.request (packed l) range a b
      go false range a b = given_places_refuse (held_points j)

  -- with counts that hold and an accepted request, 9 alone
  pub accepted_refuses : (l : List Interval) → counts_hold j.made j.request.exchanges j.flatness ≡ true → request_for j.request ≡ gave l → Refuses (Only 9) (accept_of j)
  unfolding accept_of
  accepted_refuses l counts e = rw (counts, e) (work_refuses l e)

  pub accept_refuses : Refuses AcceptRefusal (accept_of j)
  unfolding accept_of
  accept_refuses =
      let r = j.request in
      let work : List Interval → Outcome Interpolation = λ bands. bind (places_of j (packed bands)) (interpolated r) in
      refuses_unless (counts_hold j.made r.exchanges j.flatness) 14 (bind (request_for r) work) (λ t. number.counts)
      (λ t. refuses_bind (request_for r) work (request_refuses r number.request number.bands number.response number.edges)
      (λ l e. refuses_weaker (λ n k. rw k number.needed) (work_refuses l e)))
