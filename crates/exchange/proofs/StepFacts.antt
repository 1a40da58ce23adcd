-- A step that is not refused leaves a job, with one exchange more: flatness and points are in their ranges, since `accept` takes them. And
-- an exchange of a running job is refused with 9 to 13 alone. Assumes nothing.
use Prim.Native.Nat.{ℕ, ◌+◌, ◌-◌, ◌≤◌}
use mathlib.Core.Path.{◌≡◌, refl, sym, ◌∙◌}
use mathlib.Core.Bool.{Bool, true, false, ◌&&◌, cond}
use mathlib.Core.List.{List, [], ◌∷◌}
use native.Mathlib.Omega.{arith}
use borrow.Author.Tests.{le-leb, leb-true, lt-ltb, eqb-false}
use lib.Dec.{leb, eqb}
use lib.ListN.{length, get_or, take, replicate, length-append, length-replicate}
use lib.Seq.{take_at}
use lib.Ieee.{Float}
use Rattle.numbers.specs.Floats.{zero64, one64, all_finite}
use Rattle.numbers.specs.Outcome.{Outcome, gave, bind, unless, gather}
use Rattle.numbers.proofs.Given.{gave_same, unless_given, bind_given, gather-length}
use Rattle.numbers.proofs.LoopLaws.{length-tab}
use Rattle.numbers.proofs.Order.{and_1, or_false}
use Rattle.numbers.proofs.Refusing.{Refuses, Only, refuses_weaker, refuses_gave, refuses_unless, refuses_bind, refuses_gather}
use Rattle.numbers.proofs.Unit.{Within}
use Rattle.angles.specs.Turns.{cosine_of}
use Rattle.angles.proofs.Refused.{cosine_refuses}
use Rattle.fir_types.specs.declared.edges.Interval.{Interval}
use Rattle.fir_types.specs.Edges.{Edges}
use Rattle.fir_types.specs.Edges.{interval}
use Rattle.subdivision.specs.Subdivide.{Intervals}
use Rattle.subdivision.specs.First.{band_of, edges_finite}
use Rattle.subdivision.specs.Subdivide.{cut_band, cut_bands, rising, subdivided, subdivide_sized, subdivide_for}
use Rattle.subdivision.proofs.Bound.{cut_some, most_intervals_lem}
use Rattle.pruning.specs.declared.candidates.Candidate.{Candidate}
use Rattle.pruning.specs.Candidates.{none}
use Rattle.extrema.specs.Errors.{Curve}
use Rattle.extrema.specs.Extrema.{extrema_of, extrema_in, intervals_of}
use Rattle.extrema.proofs.ExtremaLaws.{in_limits}
use Rattle.extrema.proofs.Facts.{extrema_given}
use Rattle.extrema.proofs.Refused.{OfStep, Alike, extrema_refuse}
use Rattle.fields.specs.declared.request.Request.{Request}
use Rattle.fields.specs.declared.held.Fields.{Fields}
use Rattle.fields.specs.Request.{points_of, request_for}
use Rattle.fields.specs.Interpolant.{Interpolation, interpolated, radians_of, padded}
use Rattle.fields.specs.Accept.{flatness_holds, counts_hold, places_of, accept_of, finished}
use Rattle.fields.proofs.Facts.{request_few, accepted}
use Rattle.fields.proofs.Refused.{accepted_refuses}
use Rattle.exchange.specs.Bands.{band_in_x, bands_in_x}
use Rattle.exchange.specs.Flatness.{flatness_of}
use Rattle.exchange.specs.Exchange.{falling_of, moved, renewed, curve_of, exchanged_in, exchanged_over, exchanged_at, exchanged}
use Rattle.exchange.specs.Job.{running, done, held, standing_by, agrees, job_for}
use Rattle.exchange.specs.Facts.{Left}
use Rattle.exchange.proofs.FlatnessLaws.{Measured, flatness_unit, flatness_refused}

-- intervals at the front of an array: of bands, and of subintervals
abbrev edges : List Interval → Edges
edges l = Rattle.fir_types.specs.Edges.packed l

abbrev cuts : List Interval → Intervals
cuts l = Rattle.subdivision.specs.Subdivide.packed l

-- ---- a job stands as its fields say
agrees_by : (f : Fields) → agrees f (standing_by f) ≡ true
agrees_by f = go (finished f) refl
  where
    go : (t : Bool) → finished f ≡ t → agrees f (cond t done running) ≡ true
    go true e = e
    go false e = rw e

pub job_by : (f : Fields) (i : Interpolation) → accept_of f ≡ gave i → job_for (held f (standing_by f)) ≡ gave i
unfolding job_for
job_by f i e = rw (e, agrees_by f)

-- ---- the search within the limits
within_limits : (c : Curve) (v : Intervals) (degree n : ℕ) (l : List Candidate) → extrema_in c v degree n ≡ gave l → extrema_of c (intervals_of v) degree n ≡ gave l
unfolding extrema_in
within_limits c v degree n l e =
    let o = extrema_of c (intervals_of v) degree n in
    let a = unless_given (leb v.count 73 && leb n 65) 15 (unless (leb 2 degree && leb degree 16) 5 o) e in
    (unless_given (leb 2 degree && leb degree 16) 5 o a.rest).rest

padded_long : (l : List Float) → length l ≤ 65 → length (padded l) ≡ 65
padded_long l h = length-append l (replicate (65 - length l) zero64) ∙ rw (length-replicate (65 - length l) zero64) (omega arith)

falling_long : (l : List Candidate) → length (falling_of l) ≡ length l
falling_long l = length-tab (λ i. (get_or l (length l - 1 - i) none).x) (length l) 0

moved_long : (j : Fields) (l : List Candidate) (f : Float) → length l ≤ 65 → length (moved j l f).points ≡ 65
moved_long j l f h = padded_long (falling_of l) (omega (arith, falling_long l, h))

-- ---- what an exchange gives
module _ (j : Fields) (x w y : List Float) (most : points_of j.request ≤ 65) where
  renewed_left : (l : List Candidate) (next : Fields) → length l ≡ points_of j.request → renewed j l ≡ gave next → Left j next
  unfolding renewed
  renewed_left l next n e =
      let f = bind_given (flatness_of l) (λ f. bind (accept_of (moved j l f)) (λ _. gave (moved j l f))) e in
      let a = bind_given (accept_of (moved j l f.value)) (λ _. gave (moved j l f.value)) f.rest in
      let z : moved j l f.value ≡ next = gave_same a.rest in
      let long : length (moved j l f.value).points ≡ 65 = moved_long j l f.value (omega (arith, n, most)) in
      rw (← z)
      (record {
        request = refl;
        made = refl;
        kept = l;
        many = n;
        points = refl;
        interpolation = a.value;
        accepted = a.given;
        facts = accepted (moved j l f.value) a.value long a.given;
        job = job_by (moved j l f.value) a.value a.given;
      })

  pub exchange_leaves : (next : Fields) → exchanged_at j x w y ≡ gave next → Left j next
  unfolding exchanged_at
  exchange_leaves next e =
      let r = j.request in
      let b = bind_given (request_for r) (λ bands. bind (bands_in_x (radians_of (edges bands))) (exchanged_over j x w y)) e in
      let t = bind_given (bands_in_x (radians_of (edges b.value))) (exchanged_over j x w y) b.rest in
      let v = bind_given (subdivide_for x t.value) (exchanged_in j x w y) t.rest in
      let l = bind_given (extrema_in (curve_of r x w y) v.value r.degree (points_of r)) (renewed j) v.rest in
      let g = extrema_given (curve_of r x w y) (intervals_of v.value) r.degree (points_of r) l.value (within_limits (curve_of r x w y) v.value r.degree (points_of r) l.value l.given) in
      renewed_left l.value next g.count l.rest

-- ---- which refusals there are: the bands in x
band_refuses : (b : Interval) → Refuses (Only 9) (band_in_x b)
band_refuses b =
    refuses_bind (cosine_of b.end) (λ low. bind (cosine_of b.begin) (λ high. gave (interval low high))) (cosine_refuses b.end)
    (λ low e. refuses_bind (cosine_of b.begin) (λ high. gave (interval low high)) (cosine_refuses b.begin) (λ high f. refuses_gave (interval low high)))

bands_refuse : (e : Edges) → Refuses (Only 9) (bands_in_x e)
unfolding bands_in_x
bands_refuse e =
    refuses_bind (gather (λ i. band_in_x (band_of e (e.count - 1 - i))) e.count 0) (λ l. gave (edges l))
    (refuses_gather (λ i. band_in_x (band_of e (e.count - 1 - i))) e.count 0 (λ k a b. band_refuses (band_of e (e.count - 1 - k))))
    (λ l q. refuses_gave (edges l))

record Turned (e t : Edges) : Type 0 where
  list : List Interval
  many : length list ≡ e.count
  is : edges list ≡ t

bands_turned : (e t : Edges) → bands_in_x e ≡ gave t → Turned e t
unfolding bands_in_x
bands_turned e t q =
    let g : ℕ → Outcome Interval = λ i. band_in_x (band_of e (e.count - 1 - i)) in
    let a = bind_given (gather g e.count 0) (λ l. gave (edges l)) q in
    record { list = a.value; many = gather-length g e.count 0 a.value a.given; is = gave_same a.rest }

-- ---- the subintervals: some, and no more than there may be
some_cuts : (l : List Interval) (x : List Float) → 1 ≤ length l → 1 ≤ length (cut_bands l x)
unfolding cut_bands
some_cuts [] x h = h
some_cuts (b ∷ l) x h =
    let c = cut_band b.begin b.end x in
    omega (arith, cut_some b.begin b.end x, length-append c.made (cut_bands l c.left))

some_intervals : (x : List Float) (l : List Interval) → 1 ≤ length l → 1 ≤ length (subdivided x (edges l))
unfolding subdivided
some_intervals x l h = rw (take_at l (replicate (8 - length l) (interval zero64 zero64)) (length l) refl) (some_cuts l (rising x) h)

module _ (x : List Float) (e : Edges) (least : 1 ≤ length x) (most : length x ≤ 65) (one : 1 ≤ e.count) (eight : e.count ≤ 8) where
  subdivide_refuses : Refuses (Only 9) (subdivide_for x e)
  unfolding subdivide_for
  subdivide_refuses =
      rw (le-leb 1 (length x) least, le-leb (length x) 65 most, le-leb 1 e.count one, le-leb e.count 8 eight)
      (refuses_unless (all_finite x && edges_finite e) 9 (gave (cuts (subdivided x e))) (λ t. refl) (λ t. refuses_gave (cuts (subdivided x e))))

subdivide_given : (x : List Float) (e : Edges) (v : Intervals) → subdivide_for x e ≡ gave v → cuts (subdivided x e) ≡ v
unfolding subdivide_for
subdivide_given x e v q =
    let o = gave (cuts (subdivided x e)) in
    let a = unless_given (subdivide_sized (length x) e) 15 (unless (all_finite x && edges_finite e) 9 o) q in
    gave_same (unless_given (all_finite x && edges_finite e) 9 o a.rest).rest

-- ---- the next job's counts hold
counts_next : (j : Fields) (f : Float) → counts_hold j.made j.request.exchanges j.flatness ≡ true → finished j ≡ false → Within f one64
    → counts_hold (j.made + 1) j.request.exchanges f ≡ true
counts_next j f c going w =
    let m : j.made ≤ j.request.exchanges = leb-true j.made j.request.exchanges (and_1 (leb j.made j.request.exchanges) (flatness_holds j.made j.flatness) c) in
    let k : j.made ≡ j.request.exchanges → ⊥ = eqb-false j.made j.request.exchanges (or_false (eqb j.made j.request.exchanges) _ going) in
    rw (le-leb (j.made + 1) j.request.exchanges (omega (arith, m, k)), w.least, w.most, w.clear, lt-ltb 0 (j.made + 1) (omega arith))

module _ (j : Fields) (bands : List Interval) (given : request_for j.request ≡ gave bands) (c : counts_hold j.made j.request.exchanges j.flatness ≡ true) (going : finished j ≡ false) where
  renew_refuses : (l : List Candidate) → Measured l → length l ≤ 65 → Refuses (Only 9) (renewed j l)
  unfolding renewed
  renew_refuses l m h =
      refuses_bind (flatness_of l) (λ f. bind (accept_of (moved j l f)) (λ _. gave (moved j l f))) (record { is = λ n e. flatness_refused l n e })
      (λ f e. refuses_bind (accept_of (moved j l f)) (λ _. gave (moved j l f))
      (accepted_refuses (moved j l f) (moved_long j l f h) bands (counts_next j f c going (flatness_unit l f m e)) given)
      (λ i q. refuses_gave (moved j l f)))

-- ---- an exchange of a running job
nine : (n : ℕ) → Only 9 n → OfStep n
nine n e = (omega arith, omega arith)

module _ (j : Fields) (x w y : List Float) (bands : List Interval) (given : request_for j.request ≡ gave bands) (c : counts_hold j.made j.request.exchanges j.flatness ≡ true)
    (going : finished j ≡ false) (n : length x ≡ points_of j.request) (nw : length w ≡ points_of j.request) (ny : length y ≡ points_of j.request)
    (least : 3 ≤ points_of j.request) (most : points_of j.request ≤ 65) (low : 2 ≤ j.request.degree) (high : j.request.degree ≤ 16)
  where
    abbrev r : Request
    r = j.request

    in_refuses : (v : Intervals) → 1 ≤ length (intervals_of v) → length (intervals_of v) ≤ 73 → v.count ≤ 73 → Refuses OfStep (exchanged_in j x w y v)
    in_refuses v a b k =
        let curve = curve_of r x w y in
        let alike : Alike curve = record { some = omega (arith, n, least); most = omega (arith, n, most); weights = nw ∙ sym n; abscissas = ny ∙ sym n } in
        refuses_bind (extrema_in curve v r.degree (points_of r)) (renewed j)
        (rw (← in_limits curve v r.degree (points_of r) k most low high) (extrema_refuse curve alike (intervals_of v) r.degree (points_of r) a b low high))
        (λ l e.
        let g = extrema_given curve (intervals_of v) r.degree (points_of r) l (within_limits curve v r.degree (points_of r) l e) in
        refuses_weaker nine (renew_refuses j bands given c going l (record { finite_at = g.error; fits_at = g.fit }) (omega (arith, g.count, most))))

    over_refuses : (s t : Edges) → 1 ≤ s.count → s.count ≤ 8 → Turned s t → Refuses OfStep (exchanged_over j x w y t)
    over_refuses s t a b u =
        let q = u.many in
        rw (← u.is)
        (refuses_bind (subdivide_for x (edges u.list)) (exchanged_in j x w y)
        (refuses_weaker nine (subdivide_refuses x (edges u.list) (omega (arith, n, least)) (omega (arith, n, most)) (omega arith) (omega arith)))
        (λ v e.
        let z : cuts (subdivided x (edges u.list)) ≡ v = subdivide_given x (edges u.list) v e in
        let l = subdivided x (edges u.list) in
        let front : take (length l) (cuts l).list ≡ l = take_at l (replicate (73 - length l) (interval zero64 zero64)) (length l) refl in
        let few = most_intervals_lem x (edges u.list) in
        let some = some_intervals x u.list (omega arith) in
        rw (← z) (in_refuses (cuts l) (rw front some) (rw front (omega (arith, few, n, most))) (omega (arith, few, n, most)))))

    at_refuses : Refuses OfStep (exchanged_at j x w y)
    unfolding exchanged_at
    at_refuses =
        let s = radians_of (edges bands) in
        let few = request_few r bands given in
        rw given
        (refuses_bind (bands_in_x s) (exchanged_over j x w y) (refuses_weaker nine (bands_refuse s))
        (λ t e. over_refuses s t few.least few.most (bands_turned s t e)))

-- refused with 9 to 13 alone
pub exchange_refuses : (j : Fields) (i : Interpolation) → length j.points ≡ 65 → accept_of j ≡ gave i → finished j ≡ false → Refuses OfStep (exchanged j i)
unfolding accept_of
exchange_refuses j i room e going =
    let r = j.request in
    let c = unless_given (counts_hold j.made r.exchanges j.flatness) 14 (bind (request_for r) (λ bands. bind (places_of j (edges bands)) (interpolated r))) e in
    let b = bind_given (request_for r) (λ bands. bind (places_of j (edges bands)) (interpolated r)) c.rest in
    let f = accepted j i room e in
    at_refuses j i.places.x i.weights i.abscissas b.value b.given c.test going
    f.interpolates.placed.x_many f.interpolates.weights_many f.interpolates.abscissas_many f.points_least f.points_most f.degree_least f.degree_most
