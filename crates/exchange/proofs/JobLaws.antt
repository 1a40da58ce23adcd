-- A job as opening leaves it; and a job is what restoring would accept and what its state agrees with; anything else is refused with 4. Assumes nothing.
use Prim.Native.Nat.{ℕ}
use mathlib.Core.Path.{◌≡◌, refl, sym, ap}
use mathlib.Core.Bool.{Bool, true, false}
use Rattle.numbers.specs.Outcome.{Outcome, refused, gave, bind, unless}
use Rattle.numbers.proofs.Given.{never_given}
use Rattle.fields.specs.declared.interpolant.Interpolant.{Interpolant}
use Rattle.fields.specs.Interpolant.{Interpolation, answered}
use Rattle.fields.specs.Accept.{accept_of, accept_for}
use Rattle.exchange.specs.Job.{Held, agrees, four, job_for}

-- ---- what is answered from arrays, and what that is of
pub refused_same : {A : Type 0} {n m : ℕ} → ◌≡◌ {A = Outcome A} (refused n) (refused m) → n ≡ m
refused_same e = cc

pub unanswered : {n : ℕ} (o : Outcome Interpolation) → refused n ≡ bind o (λ i. gave (answered i)) → refused n ≡ o
unanswered (refused m) e = ap refused (refused_same e)
unanswered (gave i) e = absurd (never_given e)

pub answered_alone : {A : Type 0} {a : Interpolant} (o : Outcome Interpolation) (x : A) → gave a ≡ bind o (λ i. gave (answered i)) → gave x ≡ bind o (λ _. gave x)
answered_alone (refused m) x e = absurd (never_given (sym e))
answered_alone (gave i) x e = refl

-- by the outcome of accepting the fields, and whether the state agrees
abbrev judged : Outcome Interpolation → Bool → Outcome Interpolant
judged o t = bind (bind (four o) (λ i. unless t 4 (gave i))) (λ i. gave (answered i))

judged_refused : {n : ℕ} (o : Outcome Interpolation) (t : Bool) → refused n ≡ bind o (λ i. gave (answered i)) → refused 4 ≡ judged o t
judged_refused (refused m) t e = refl
judged_refused (gave i) t e = absurd (never_given e)

judged_false : {a : Interpolant} (o : Outcome Interpolation) → gave a ≡ bind o (λ i. gave (answered i)) → refused 4 ≡ judged o false
judged_false (refused m) e = absurd (never_given (sym e))
judged_false (gave i) e = refl

judged_true : {a : Interpolant} (o : Outcome Interpolation) → gave a ≡ bind o (λ i. gave (answered i)) → gave a ≡ judged o true
judged_true (refused m) e = absurd (never_given (sym e))
judged_true (gave i) e = e

module _ (j : Held) where
  pub no_job : {n : ℕ} → refused n ≡ accept_for j.fields → refused 4 ≡ bind (job_for j) (λ i. gave (answered i))
  unfolding job_for
  no_job e = judged_refused (accept_of j.fields) (agrees j.fields j.standing) e

  pub disagreeing : {a : Interpolant} → gave a ≡ accept_for j.fields → agrees j.fields j.standing ≡ false → refused 4 ≡ bind (job_for j) (λ i. gave (answered i))
  unfolding job_for
  disagreeing e h = rw h (judged_false (accept_of j.fields) e)

  pub agreeing : {a : Interpolant} → gave a ≡ accept_for j.fields → agrees j.fields j.standing ≡ true → gave a ≡ bind (job_for j) (λ i. gave (answered i))
  unfolding job_for
  agreeing e h = rw h (judged_true (accept_of j.fields) e)
