-- What an accepted job gives: as many frequencies, points, weights and abscissas as its taps ask for, every one finite, the points
-- strictly falling and in -1 to 1. Assumes nothing.
use Prim.Native.Nat.{ℕ, ◌<◌}
use mathlib.Core.Path.{◌≡◌, sym, ap, ◌∙◌}
use mathlib.Core.Bool.{Bool, true, false, cond}
use mathlib.Core.List.{List}
use native.Mathlib.Omega.{arith}
use native.Mathlib.Nat.{zero-add}
use lib.Dec.{eqb}
use lib.ListN.{length, get_or}
use lib.Seq.{length-take-le}
use lib.Ieee.{Float, nan}
use lib.Ieee.Scale.{finite}
use Rattle.numbers.specs.Floats.{all_finite}
use Rattle.numbers.specs.Outcome.{Outcome, gave, bind, needed_list_of}
use Rattle.numbers.proofs.Given.{gave_same, unless_given, bind_given, needed_list_given, gather-length, gather-at, gather_finite}
use Rattle.angles.specs.Turns.{cosine_of}
use Rattle.angles.specs.Arccosine.{arccosine_of}
use Rattle.angles.proofs.Range.{cosine_range, cosine_finite, arccosine_finite, arccosine_domain}
use Rattle.barycentric.specs.Weights.{weights_for}
use Rattle.barycentric.specs.Delta.{delta_for}
use Rattle.barycentric.specs.Abscissas.{abscissas_for}
use Rattle.barycentric.proofs.Lengths.{weights-length, abscissas_length}
use Rattle.barycentric.proofs.Given.{weights_given, delta_given, abscissas_given}
use Rattle.fir_types.specs.Edges.{Edges}
use Rattle.fir_types.specs.declared.edges.Interval.{Interval}
use Rattle.fir_types.specs.Adjusted.{adjusted_desired}
use Rattle.fir_types.specs.Edges.{packed, adjusted_for}
use Rattle.fir_types.specs.Realizable.{realizable_for}
use Rattle.fir_types.proofs.EdgeLaws.{Few, few}
use Rattle.subdivision.specs.First.{first_for}
use Rattle.subdivision.proofs.FirstLaws.{first_many, first_finite}
use Rattle.fields.specs.declared.request.Request.{Request}
use Rattle.fields.specs.declared.held.Fields.{Fields}
use Rattle.fields.specs.Request.{odd_taps, functions_of, points_of, in_range, request_for}
use Rattle.fields.specs.Interpolant.{Places, Interpolation, places, interpolation, each, radians_of, first_places, given_places, falling, desired_each, weight_each, interpolated}
use Rattle.fields.specs.Accept.{counts_hold, held_points, places_of, accept_of}
use Rattle.fields.specs.Facts.{Placed, Interpolates, AcceptedFacts}
use Rattle.fields.proofs.RequestLaws.{points_least, points_most, degree_least, degree_most, accepted_range}
use Rattle.fields.proofs.Chain.{with_delta, with_errors, with_desired, with_weights, chain}

-- ---- what g gives of each entry
module _ (g : Float → Outcome Float) (l m : List Float) (given : each g l ≡ gave m) where
  pub each_many : length m ≡ length l
  each_many = gather-length (λ i. g (get_or l i nan)) (length l) 0 m given

  each_at : (k : ℕ) → k < length l → g (get_or l k nan) ≡ gave (get_or m k nan)
  each_at k h = rw zero-add at (gather-at (λ i. g (get_or l i nan)) (length l) 0 m k nan given h)

  each_finite : ((x y : Float) → g x ≡ gave y → finite y ≡ true) → all_finite m ≡ true
  each_finite h = gather_finite (λ i. g (get_or l i nan)) (λ j y. h (get_or l j nan) y) (length l) 0 m given

-- ---- the places
pub first-placed : (r : Request) (bands : Edges) (p : Places) → first_places r bands ≡ gave p → Placed (points_of r) p
unfolding first_places
first-placed r bands p e =
    let a = bind_given (first_for (radians_of bands) (functions_of r) (points_of r)) (λ f. bind (each cosine_of f) (λ x. gave (places f x))) e in
    let f = a.value in
    let b = bind_given (each cosine_of f) (λ x. gave (places f x)) a.rest in
    let x = b.value in
    let n : length f ≡ points_of r = first_many (radians_of bands) (functions_of r) (points_of r) f a.given in
    rw (← gave_same b.rest) (record {
      freqs_many = n;
      freqs_finite = first_finite (radians_of bands) (functions_of r) (points_of r) f a.given;
      x_many = each_many cosine_of f x b.given ∙ n;
      x_finite = each_finite cosine_of f x b.given cosine_finite;
      inside = λ k h. cosine_range (get_or f k nan) (get_or x k nan) (each_at cosine_of f x b.given k (omega (arith, n, h)));
    })

pub given_placed : (points : List Float) (p : Places) → given_places points ≡ gave p → Placed (length points) p
unfolding given_places
given_placed points p e =
    let a = bind_given (needed_list_of points (length points)) (λ x. bind (each arccosine_of x) (λ f. gave (places f x))) e in
    let x = a.value in
    let n = needed_list_given points x (length points) a.given in
    let same : points ≡ x = gave_same n.rest in
    let b = bind_given (each arccosine_of x) (λ f. gave (places f x)) a.rest in
    let f = b.value in
    let m : length x ≡ length points = ap length (sym same) in
    rw (← gave_same b.rest) (record {
      freqs_many = each_many arccosine_of x f b.given ∙ m;
      freqs_finite = each_finite arccosine_of x f b.given arccosine_finite;
      x_many = m;
      x_finite = rw same at n.test;
      inside = λ k h. arccosine_domain (get_or x k nan) (get_or f k nan) (each_at arccosine_of x f b.given k (omega (arith, m, h)));
    })

-- ---- weights, delta and abscissas
interpolation_facts :
    (r : Request) (n : ℕ) (p : Places) (w d v y : List Float) (delta : Float) → Placed n p → falling p.x ≡ true → weights_for p.x (length p.x) ≡ gave w
    → desired_each r p.freqs ≡ gave d → delta_for w d v ≡ gave delta → abscissas_for delta d v (length p.x) ≡ gave y → Interpolates n (interpolation p w y delta)
interpolation_facts r n p w d v y delta a falls e f g h =
    let weights = weights_given p.x (length p.x) w e in
    let abscissas = abscissas_given delta d v (length p.x) y h in
    let long : length d ≡ n = each_many (adjusted_desired r.plan r.symmetry (odd_taps r)) p.freqs d f ∙ a.freqs_many in
    record {
      placed = a;
      falls = falls;
      weights_many = ap length weights.are ∙ weights-length p.x ∙ a.x_many;
      weights_finite = weights.all_finite_fact;
      abscissas_many = ap length abscissas.are ∙ abscissas_length delta d v ∙ long;
      abscissas_finite = abscissas.all_finite_fact;
      delta_finite = (delta_given w d v delta g).finite_is;
    }

pub interpolates : (r : Request) (n : ℕ) (p : Places) (i : Interpolation) → Placed n p → interpolated r p ≡ gave i → Interpolates n i
interpolates r n p i a e =
    let t = unless_given (falling p.x) 9 (bind (weights_for p.x (length p.x)) (with_weights r p)) (sym (chain r p) ∙ e) in
    let w = bind_given (weights_for p.x (length p.x)) (with_weights r p) t.rest in
    let d = bind_given (desired_each r p.freqs) (with_desired r p w.value) w.rest in
    let v = bind_given (weight_each r p.freqs) (with_errors r p w.value d.value) d.rest in
    let q = bind_given (delta_for w.value d.value v.value) (with_delta r p w.value d.value v.value) v.rest in
    let y = bind_given (abscissas_for q.value d.value v.value (length p.x)) (λ y. gave (interpolation p w.value y q.value)) q.rest in
    rw (← gave_same y.rest)
    (interpolation_facts r n p w.value d.value v.value y.value q.value a t.test w.given d.given q.given y.given)

-- ---- an accepted request: as many bands as are left, of a plan that holds
pub request_few : (r : Request) (l : List Interval) → request_for r ≡ gave l → Few r.plan (length l)
unfolding request_for
request_few r l e =
    let a = unless_given (in_range r) 5 (bind (realizable_for r.plan r.symmetry (odd_taps r)) (λ _. adjusted_for r.plan r.symmetry (odd_taps r))) e in
    few r.plan r.symmetry (odd_taps r) l
    (bind_given (realizable_for r.plan r.symmetry (odd_taps r)) (λ _. adjusted_for r.plan r.symmetry (odd_taps r)) a.rest).rest

-- ---- an accepted job
module _ (j : Fields) (room : length j.points ≡ 65) (l : List Interval) (accepted : request_for j.request ≡ gave l) where
  pub held_many : length (held_points j) ≡ points_of j.request
  held_many =
      let n = points_most j.request (accepted_range j.request l accepted) in
      length-take-le (points_of j.request) j.points (omega (arith, n, room))

  pub places_placed : (p : Places) → places_of j (packed l) ≡ gave p → Placed (points_of j.request) p
  places_placed p e = go (eqb j.made 0) e
    where
      go : (t : Bool) → cond t (first_places j.request (packed l)) (given_places (held_points j)) ≡ gave p → Placed (points_of j.request) p
      go true e = first-placed j.request (packed l) p e
      go false e = rw held_many at (given_placed (held_points j) p e)

pub accepted : (j : Fields) (i : Interpolation) → length j.points ≡ 65 → accept_of j ≡ gave i → AcceptedFacts j i
unfolding accept_of
accepted j i room e =
    let r = j.request in
    let c = unless_given (counts_hold j.made r.exchanges j.flatness) 14 (bind (request_for r) (λ bands. bind (places_of j (packed bands)) (interpolated r))) e in
    let b = bind_given (request_for r) (λ bands. bind (places_of j (packed bands)) (interpolated r)) c.rest in
    let p = bind_given (places_of j (packed b.value)) (interpolated r) b.rest in
    let range = accepted_range r b.value b.given in
    record {
      counts = c.test;
      range = range;
      points_least = points_least r range;
      points_most = points_most r range;
      degree_least = degree_least r range;
      degree_most = degree_most r range;
      plan = (request_few r b.value b.given).plan;
      interpolates = interpolates r (points_of r) p.value i (places_placed j room b.value b.given p.value p.given) p.rest;
    }
