-- A finished design of an accepted job, for outputs with room, is refused with 9 alone: a needed number is not finite. Assumes nothing.
use Prim.Native.Nat.{ℕ, ◌+◌, ◌≤◌}
use mathlib.Core.Path.{◌≡◌, refl, sym, ap, ◌∙◌}
use mathlib.Core.Bool.{true}
use mathlib.Core.List.{List}
use native.Mathlib.Omega.{arith}
use native.Mathlib.Nat.{le_refl}
use borrow.Author.Tests.{le-leb, leb-true, eq-eqb}
use lib.Dec.{leb}
use lib.ListN.{length, get_or}
use lib.Ieee.{Float, nan}
use Rattle.numbers.specs.Floats.{all_finite}
use Rattle.numbers.specs.Operations.{◌⊘◌}
use Rattle.numbers.specs.Outcome.{gave, bind, needed_of, needed_list_of}
use Rattle.numbers.proofs.Given.{gather-length}
use Rattle.numbers.proofs.LoopLaws.{length-tab}
use Rattle.numbers.proofs.Order.{and_2}
use Rattle.numbers.proofs.Refusing.{Refuses, Only, refuses_gave, refuses_unless, refuses_bind, refuses_gather, refuses_needed, refuses_needed_list}
use Rattle.angles.specs.Turns.{cosine_of}
use Rattle.angles.proofs.Refused.{cosine_refuses}
use Rattle.barycentric.specs.Response.{responses_for}
use Rattle.barycentric.proofs.Given.{responses_given}
use Rattle.barycentric.proofs.Lengths.{responses_length}
use Rattle.barycentric.proofs.Refused.{responses_refuse}
use Rattle.chebyshev.specs.Angles.{sample_angle}
use Rattle.chebyshev.specs.Coefficients.{coefficients_for}
use Rattle.chebyshev.proofs.Given.{coefficients_length}
use Rattle.chebyshev.proofs.Refused.{coefficients_refuse}
use Rattle.fir_types.specs.Kinds.{tau, least_taps, most_taps}
use Rattle.fir_types.specs.Taps.{tap_at, taps_of, taps_for}
use Rattle.fields.specs.declared.request.Request.{Request}
use Rattle.fields.specs.declared.held.Fields.{Fields}
use Rattle.fields.specs.Request.{functions_of, in_range}
use Rattle.fields.specs.Interpolant.{Interpolation}
use Rattle.fields.specs.Facts.{AcceptedFacts}
use Rattle.fields.proofs.RequestLaws.{functions_range, taps_hold}
use Rattle.exchange.specs.Design.{sample_places, taps_from, taps_at, taps_in, in_cycles, design_of, design_in}

taps_length : (r : Request) (a : List Float) → length (taps_of r.symmetry r.taps a) ≡ r.taps
unfolding taps_of
taps_length r a = length-tab (tap_at r.symmetry r.taps a) r.taps 0

cycles_refuse : (f : List Float) → Refuses (Only 9) (in_cycles f)
cycles_refuse f = refuses_gather (λ i. needed_of (get_or f i nan ⊘ tau)) (length f) 0 (λ k a b. refuses_needed (get_or f k nan ⊘ tau))

module _ (r : Request) (range : in_range r ≡ true) (room : ℕ) (long : 128 ≤ room) where
  abbrev m : ℕ
  m = functions_of r

  taps_fit : r.taps ≤ room
  taps_fit =
      let k : r.taps ≤ 128 = leb-true r.taps most_taps (and_2 (leb (least_taps r.taps r.symmetry) r.taps) (leb r.taps most_taps) (taps_hold r range)) in
      omega arith

  taps_refuse : (a : List Float) → length a ≡ m → Refuses (Only 9) (taps_for a r.taps r.symmetry room)
  unfolding taps_for
  taps_refuse a n =
      let k = functions_range r.taps r.symmetry (taps_hold r range) in
      rw (
        le-leb 1 (length a) (omega (arith, n, k.least)),
        le-leb (length a) 64 (omega (arith, n, k.most)),
        eq-eqb (length a) m n,
        le-leb r.taps room taps_fit,
        taps_hold r range,
      )
      (refuses_unless (all_finite a) 9 (needed_list_of (taps_of r.symmetry r.taps a) room) (λ t. refl)
      (λ t. refuses_needed_list (taps_of r.symmetry r.taps a) room (omega (arith, taps_length r a, taps_fit))))

  from_refuses : (h : List Float) → length h ≡ m → Refuses (Only 9) (taps_from r room h)
  from_refuses h n =
      let k = functions_range r.taps r.symmetry (taps_hold r range) in
      refuses_bind (coefficients_for h (length h)) (λ a. taps_for a r.taps r.symmetry room)
      (coefficients_refuse h (length h) (omega (arith, n, k.least)) (omega (arith, n, k.most)) (le_refl (length h)))
      (λ a e. taps_refuse a (coefficients_length h a (length h) e ∙ n))

  module _ (x w y : List Float) (n : length x ≡ m + 1) (nw : length w ≡ m + 1) (ny : length y ≡ m + 1) where
    at_refuses : (s : List Float) → length s ≡ m → Refuses (Only 9) (taps_at r x w y room s)
    at_refuses s l =
        let k = functions_range r.taps r.symmetry (taps_hold r range) in
        refuses_bind (responses_for s x w y (length s)) (taps_from r room)
        (responses_refuse s x w y (length s) (omega (arith, l, k.least)) (omega (arith, l, k.most)) (le_refl (length s))
        (omega (arith, n)) (omega (arith, n, k.most)) (nw ∙ sym n) (ny ∙ sym n))
        (λ h e. from_refuses h (ap length (responses_given s x w y (length s) h e).answer.are ∙ responses_length s x w y ∙ l))

    in_refuses : Refuses (Only 9) (taps_in r x w y room)
    unfolding taps_in
    in_refuses =
        refuses_bind (sample_places m) (taps_at r x w y room)
        (refuses_gather (λ k. cosine_of (sample_angle m k)) m 0 (λ k a b. cosine_refuses (sample_angle m k)))
        (λ s e. at_refuses s (gather-length (λ k. cosine_of (sample_angle m k)) m 0 s e))

pub design_refuses : (j : Fields) (i : Interpolation) (room : ℕ) → AcceptedFacts j i → 128 ≤ room → Refuses (Only 9) (design_in j room i)
unfolding design_in
design_refuses j i room a long =
    let r = j.request in
    let k = a.interpolates in
    let taps = taps_in r i.places.x i.weights i.abscissas room in
    refuses_bind (in_cycles i.places.freqs) (λ f. bind taps (λ t. gave (design_of j i.delta f t))) (cycles_refuse i.places.freqs)
    (λ f e. refuses_bind taps (λ t. gave (design_of j i.delta f t))
    (in_refuses r a.range room long i.places.x i.weights i.abscissas k.placed.x_many k.weights_many k.abscissas_many)
    (λ t q. refuses_gave (design_of j i.delta f t)))
