-- The taps, leaf by leaf: samples, responses, coefficients, taps. Assumes nothing.
use Rattle.std.specs.Prelude.{Result, Ok, Err}
use Prim.Native.Nat.{ℕ, ◌≤◌}
use mathlib.Core.Path.{◌≡◌, refl, sym, ap, ◌∙◌}
use mathlib.Core.List.{List}
use native.Mathlib.Omega.{arith}
use lib.ListN.{length, take, replicate}
use lib.Seq.{length-take-le}
use lib.Ieee.{Float}
use Rattle.numbers.specs.declared.Refusal.{Refusal}
use Rattle.numbers.specs.Floats.{zero64}
use Rattle.numbers.specs.Outcome.{refused, gave}
use Rattle.numbers.specs.Refusals.{refusal_number, Filled}
use Rattle.numbers.proofs.Given.{filled_next}
use Rattle.numbers.proofs.OutcomeLaws.{bind_next, bind_stop, whole_is, whole_refused}
use Rattle.barycentric.specs.Response.{responses_for}
use Rattle.chebyshev.specs.Coefficients.{coefficients_for}
use Rattle.fir_types.specs.Taps.{taps_for}
use Rattle.fields.specs.declared.request.Request.{Request}
use Rattle.fields.specs.Request.{functions_of}
use Rattle.exchange.specs.Design.{sample_places, taps_from, taps_at, taps_in, Samples}

-- the lists that are lent
pub samples_lent : (r : Request) (m : ℕ) → m ≡ functions_of r → 2 ≤ functions_of r → functions_of r ≤ 64 → Samples (functions_of r) (take m (replicate 64 zero64)) (take m (replicate 64 zero64)) (take m (replicate 64 zero64))
samples_lent r m e h k =
    let l : length (take m (replicate 64 zero64)) ≡ functions_of r = length-take-le _ _ (omega arith) ∙ e in
    record { least = h; most = k; samples = l; responses = l; coefficients = l }

module _ (r : Request) (x w y : List Float) (room : ℕ) {s₀ h₀ a₀ : List Float} (s : List Float) (lent : Samples (functions_of r) s₀ h₀ a₀) where
  pub samples_refused : {n : ℕ} → refused n ≡ sample_places (length s₀) → refused n ≡ taps_in r x w y room
  unfolding taps_in
  samples_refused e = bind_stop (taps_at r x w y room) (e ∙ ap sample_places lent.samples)

  module _ (sampled : gave s ≡ sample_places (length s₀)) {h : List Float} {v : Result Unit Refusal} (s-long : length s ≡ length s₀) (responded : Filled (responses_for s x w y (length h₀)) (length s) v h₀ h) where
    s_given : gave s ≡ sample_places (functions_of r)
    s_given = sampled ∙ ap sample_places lent.samples

    h_room : length h₀ ≡ length s
    h_room = lent.responses ∙ sym lent.samples ∙ sym s-long

    pub responses_refused : {q : Refusal} → v ≡ Err q → refused (refusal_number q) ≡ taps_in r x w y room
    unfolding taps_in
    responses_refused t =
        bind_next (taps_at r x w y room) s_given (bind_stop (taps_from r room) (whole_refused (responses_for s x w y) (length s) responded h_room t))

    module _ {a : List Float} {z : Result Unit Refusal} (h-taken : v ≡ (Ok tt)) (h-long : length h ≡ length h₀) (found : Filled (coefficients_for h (length a₀)) (length h) z a₀ a) where
      h_given : gave h ≡ responses_for s x w y (length s)
      h_given = whole_is (responses_for s x w y) (length s) responded h_room refl h-long h-taken

      a_room : length a₀ ≡ length h
      a_room = lent.coefficients ∙ sym lent.responses ∙ sym h-long

      pub coefficients_refused : {q : Refusal} → z ≡ Err q → refused (refusal_number q) ≡ taps_in r x w y room
      unfolding taps_in
      coefficients_refused t =
          bind_next (taps_at r x w y room) s_given
          (bind_next (taps_from r room) h_given
          (bind_stop (λ a. taps_for a r.taps r.symmetry room) (whole_refused (coefficients_for h) (length h) found a_room t)))

      pub taps_filled :
          {b : Result Unit Refusal} {o o' : List Float} → z ≡ (Ok tt) → length a ≡ length a₀ → Filled (taps_for a r.taps r.symmetry room) r.taps b o o'
          → Filled (taps_in r x w y room) r.taps b o o'
      unfolding taps_in
      taps_filled t a-long f =
          filled_next (taps_at r x w y room) s_given
          (filled_next (taps_from r room) h_given
          (filled_next (λ a. taps_for a r.taps r.symmetry room) (whole_is (coefficients_for h) (length h) found a_room refl a-long t) f))
