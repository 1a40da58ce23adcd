-- From the lists and delta to the answer, an interpolant. Assumes nothing.
use Prim.Native.Nat.{ℕ, ◌≤◌}
use mathlib.Core.Path.{◌≡◌, sym, ap, ◌∙◌}
use mathlib.Core.Bool.{true, false}
use mathlib.Core.List.{List, ◌++◌}
use lib.ListN.{length, take, drop, replicate}
use lib.Seq.{length-take-le}
use lib.Ieee.{Float}
use Rattle.numbers.specs.Floats.{zero64}
use Rattle.numbers.specs.Outcome.{Outcome, refused, gave, bind}
use Rattle.numbers.proofs.Fronts.{padded_lent}
use Rattle.numbers.proofs.Given.{gave_same, never_given, bind_given}
use Rattle.numbers.proofs.OutcomeLaws.{bind_next}
use Rattle.fir_types.specs.Edges.{Edges}
use Rattle.fir_types.specs.Edges.{packed}
use Rattle.fields.specs.declared.interpolant.Interpolant.{Interpolant}
use Rattle.fields.specs.declared.held.Fields.{Fields}
use Rattle.fields.specs.Request.{request_for}
use Rattle.fields.specs.Interpolant.{Interpolation, places, interpolation, interpolated, answered}
use Rattle.fields.specs.Accept.{counts_hold, places_of, accept_of, accept_for}

-- a chain whose last step refuses nothing was refused before it
bind_refused : {A B : Type 0} {n : ℕ} (h : A → B) (o : Outcome A) → refused n ≡ bind o (λ a. gave (h a)) → o ≡ refused n
bind_refused {A} {B} {n} h (refused m) e = let k : m ≡ n = cc in ap refused k
bind_refused h (gave a) e = absurd (never_given e)

-- lists at the front of arrays of zeros
pub answered-taken :
    (o : Outcome Interpolation) (n : ℕ) (f x w y : List Float) (delta : Float) → n ≤ 65
    → length f ≡ length (take n (replicate 65 zero64)) → length x ≡ length (take n (replicate 65 zero64)) → length w ≡ length (take n (replicate 65 zero64))
    → length y ≡ length (take n (replicate 65 zero64))
    → gave (interpolation (places f x) w y delta) ≡ o
    → gave (record {
      freqs = f ++ drop n (replicate 65 zero64);
      points = x ++ drop n (replicate 65 zero64);
      weights = w ++ drop n (replicate 65 zero64);
      abscissas = y ++ drop n (replicate 65 zero64);
      count = n;
      delta = delta;
    }) ≡ bind o (λ i. gave (answered i))
answered-taken o n f x w y delta h p q r s e =
    let k : length (take n (replicate 65 zero64)) ≡ n = length-take-le n (replicate 65 zero64) h in
    bind_next (λ i. gave (answered i)) e
    (λ i. gave (record {
      freqs = padded_lent 65 zero64 n f (p ∙ k) i;
      points = padded_lent 65 zero64 n x (q ∙ k) i;
      weights = padded_lent 65 zero64 n w (r ∙ k) i;
      abscissas = padded_lent 65 zero64 n y (s ∙ k) i;
      count = sym (q ∙ k) i;
      delta = delta;
    }))

-- ---- what is accepted, test by test
module _ (j : Fields) where
  pub counts_stop : counts_hold j.made j.request.exchanges j.flatness ≡ false → refused 14 ≡ accept_for j
  unfolding accept_of
  counts_stop e = rw e

  module _ (counts : counts_hold j.made j.request.exchanges j.flatness ≡ true) where
    pub request_stop : {n : ℕ} → refused n ≡ bind (request_for j.request) (λ l. gave (packed l)) → refused n ≡ accept_for j
    unfolding accept_of
    request_stop e = rw (counts, bind_refused packed (request_for j.request) e)

    pub request_next : {e : Edges} {o : Outcome Interpolant} → gave e ≡ bind (request_for j.request) (λ l. gave (packed l))
        → o ≡ bind (bind (places_of j e) (interpolated j.request)) (λ i. gave (answered i)) → o ≡ accept_for j
    unfolding accept_of
    request_next e h = let b = bind_given (request_for j.request) (λ l. gave (packed l)) (sym e) in rw (counts, b.given) (rw (← gave_same b.rest) at h)
