-- From the leaves of a design to its contract. Assumes nothing.
use Rattle.std.specs.Prelude.{Result, Ok, Err}
use Prim.Native.Nat.{ℕ, ◌<◌, ◌≤◌}
use mathlib.Core.Path.{◌≡◌, refl, sym, ap, ◌∙◌}
use mathlib.Core.Bool.{true}
use mathlib.Core.List.{List, ◌++◌}
use native.Mathlib.Omega.{arith}
use borrow.Author.Tests.{le-leb, lt-leb}
use lib.ListN.{length, get_or, take, drop}
use lib.Seq.{take_at}
use lib.Ieee.{Float, nan}
use Rattle.numbers.specs.declared.Refusal.{Refusal}
use Rattle.numbers.specs.Floats.{magnitude_of, all_finite}
use Rattle.numbers.specs.Operations.{◌⊘◌}
use Rattle.numbers.specs.Outcome.{Outcome, refused, gave, bind, needed_of, needed_list_of}
use Rattle.numbers.specs.Refusals.{refusal_number, verdict_of, Filled}
use Rattle.numbers.proofs.FiniteLaws.{given_finite}
use Rattle.numbers.proofs.Given.{Linked, gave_same, never_given, unless_given, bind_given, gather-length, gather_finite}
use Rattle.numbers.proofs.OutcomeLaws.{bind_next, bind_stop, filled_is, filled_refused}
use Rattle.fir_types.specs.Kinds.{tau}
use Rattle.fields.specs.declared.held.Fields.{Fields}
use Rattle.fields.specs.declared.interpolant.Interpolant.{Interpolant}
use Rattle.fields.specs.Interpolant.{Interpolation, places, interpolation, padded, answered}
use Rattle.fields.specs.Accept.{accept_of}
use Rattle.fields.specs.Facts.{AcceptedFacts}
use Rattle.fields.proofs.Facts.{accepted}
use Rattle.exchange.specs.Job.{Standing, running, done, failed, Held, agrees, four, job_for, interpolation_in}
use Rattle.exchange.specs.Design.{Design, taps_in, in_cycles, design_of, design_in, readable_by, design_for, Designed, Readable}
use Rattle.exchange.proofs.JobLaws.{unanswered}

-- ---- a refused design: the outputs are as they were
pub designed_none :
    {o : Outcome Design} {q : Refusal} {t t' f : List Float} → t' ≡ t → refused (refusal_number q) ≡ o → Designed o (Err q) t t' f f
designed_none k e = rw (k, ← e) (record { is = refl; taps = refl; freqs = refl })

-- a leaf that was refused left its list as it was
pub filled_kept : {A : Type 0} {o : Outcome (List A)} {n : ℕ} {v : Result Unit Refusal} {q : Refusal} {w w' : List A} → Filled o n v w w' → v ≡ Err q → w' ≡ w
filled_kept {A} {o} {n} {v} {q} {w} {w'} f e = f.out ∙ rw (← filled_refused f e)

-- ---- the frequencies in cycles are finite, so that with room they are written
taken_of : {A : Type 0} {b : A} (v : Result Unit Refusal) (a : A) → verdict_of v a ≡ gave b → v ≡ (Ok tt)
taken_of (Ok tt) a e = refl
taken_of (Err q) a e = absurd (never_given e)

cycles_finite : (f c : List Float) → in_cycles f ≡ gave c → all_finite c ≡ true
cycles_finite f c e = gather_finite (λ i. needed_of (get_or f i nan ⊘ tau)) (λ j y. given_finite (get_or f j nan ⊘ tau) y) (length f) 0 c e

module _ (f c : List Float) {v : Result Unit Refusal} {w w' : List Float} (given : gave c ≡ in_cycles f) (room : length f ≤ length w) (leaf : Filled (needed_list_of c (length w)) (length c) v w w') where
  never_refused : needed_list_of c (length w) ≡ gave c
  never_refused =
      let n : length c ≡ length f = gather-length (λ i. needed_of (get_or f i nan ⊘ tau)) (length f) 0 c (sym given) in
      rw (le-leb (length c) (length w) (omega arith), cycles_finite f c (sym given))

  written : Filled (gave c) (length c) v w w'
  written = rw never_refused at leaf

  pub cycles_taken : v ≡ (Ok tt)
  cycles_taken = taken_of v (take (length c) w') written.is

  pub cycles_never : {q : Refusal} → v ≡ Err q → ⊥
  cycles_never e = cc (cycles_taken)

  pub cycles_written : w' ≡ c ++ drop (length c) w
  cycles_written = written.out

-- ---- the whole design
module _ (j : Fields) (i : Interpolation) (room : ℕ) where
  pub cycles_refused : {n : ℕ} → refused n ≡ in_cycles i.places.freqs → refused n ≡ design_in j room i
  unfolding design_in
  cycles_refused e = bind_stop _ e

  module _ {v : Result Unit Refusal} {t t' : List Float} (c : List Float) (turned : gave c ≡ in_cycles i.places.freqs)
      (filled : Filled (taps_in j.request i.places.x i.weights i.abscissas room) j.request.taps v t t')
    where
      pub taps_refused : {q : Refusal} → v ≡ Err q → refused (refusal_number q) ≡ design_in j room i
      unfolding design_in
      taps_refused e = bind_next _ turned (bind_stop _ (filled_refused filled e))

      abbrev found : List Float
      found = take j.request.taps t'

      design_given : v ≡ (Ok tt) → gave (design_of j i.delta c found) ≡ design_in j room i
      unfolding design_in
      design_given e = bind_next _ turned (bind_next _ (filled_is filled j.request.taps refl e) refl)

      taps_written : v ≡ (Ok tt) → t' ≡ found ++ drop (length found) t
      taps_written e = filled.out ∙ rw (← filled_is filled j.request.taps refl e)

      pub designed :
          {z : Result Unit Refusal} {w w' : List Float} {error : Float} → v ≡ (Ok tt) → length i.places.freqs ≤ length w → Filled (needed_list_of c (length w)) (length c) z w w'
          → error ≡ magnitude_of i.delta → Designed (design_in j room i) (Ok (record { error = error; flatness = j.flatness; iterations = j.made })) t t' w w'
      designed {z} {w} {w'} {error} e k leaf m =
          rw (← design_given e) (record {
            is = rw m;
            taps = taps_written e;
            freqs = cycles_written i.places.freqs c turned k leaf;
          })

-- ---- what an accepted job answers, taken from its arrays, is what it gave
front_of : (n : ℕ) (l : List Float) → length l ≡ n → take n (padded l) ≡ l
front_of n l e = take_at l _ n e

pub answered_back :
    (n : ℕ) (i : Interpolation) → length i.places.freqs ≡ n → length i.places.x ≡ n → length i.weights ≡ n → length i.abscissas ≡ n
    → interpolation_in (answered i) ≡ i
answered_back n i f x w y =
    let m = i.places.x in
    (λ k. interpolation
    (places (front_of (length m) i.places.freqs (f ∙ sym x) k) (front_of (length m) m refl k))
    (front_of (length m) i.weights (w ∙ sym x) k) (front_of (length m) i.abscissas (y ∙ sym x) k) i.delta)

-- ---- a job's fields are accepted
four_given : (o : Outcome Interpolation) (i : Interpolation) → four o ≡ gave i → o ≡ gave i
four_given (refused n) i e = absurd (never_given e)
four_given (gave a) i e = e

pub job_accepted : (j : Held) (i : Interpolation) → job_for j ≡ gave i → accept_of j.fields ≡ gave i
unfolding job_for
job_accepted j i e =
    let t = agrees j.fields j.standing in
    let a = bind_given (four (accept_of j.fields)) _ e in
    let b = unless_given t 4 (gave a.value) a.rest in
    four_given (accept_of j.fields) a.value a.given ∙ b.rest

-- ---- reading: outputs that are too short
module _ (j : Held) (taps freqs : ℕ) where
  pub taps_short : taps < 128 → refused 1 ≡ design_for j taps freqs
  unfolding design_for
  taps_short h = rw (lt-leb 128 taps h)

  pub freqs_short : 128 ≤ taps → freqs < 65 → refused 1 ≡ design_for j taps freqs
  unfolding design_for
  freqs_short k h = rw (le-leb 128 taps k, lt-leb 65 freqs h)

-- ---- and outputs that are long enough, by what the loaded job is
long_enough : (j : Held) (taps freqs : ℕ) → 128 ≤ taps → 65 ≤ freqs → design_for j taps freqs ≡ bind (bind (job_for j) (readable_by j.standing)) (design_in j.fields taps)
unfolding design_for
long_enough j taps freqs k l = rw (le-leb 128 taps k, le-leb 65 freqs l)

module _ (j : Held) (taps freqs : ℕ) (k : 128 ≤ taps) (l : 65 ≤ freqs) where
  pub not_loaded : {n : ℕ} → refused n ≡ bind (job_for j) (λ i. gave (answered i)) → refused n ≡ design_for j taps freqs
  not_loaded e =
      bind_stop (design_in j.fields taps) (bind_stop (readable_by j.standing) (unanswered (job_for j) e))
      ∙ sym (long_enough j taps freqs k l)

  module _ (a : Interpolant) (loaded : gave a ≡ bind (job_for j) (λ i. gave (answered i))) where
    job : Linked (job_for j) (λ i. gave (answered i)) a
    job = bind_given (job_for j) (λ i. gave (answered i)) (sym loaded)

    pub still_running : j.standing ≡ running → refused 3 ≡ design_for j taps freqs
    still_running s =
        bind_stop (design_in j.fields taps) (bind_next (readable_by j.standing) (sym job.given) (sym (ap (λ (z : Standing). readable_by z job.value) s)))
        ∙ sym (long_enough j taps freqs k l)

    pub failed_again : {n : ℕ} → j.standing ≡ failed n → refused n ≡ design_for j taps freqs
    failed_again s =
        bind_stop (design_in j.fields taps) (bind_next (readable_by j.standing) (sym job.given) (sym (ap (λ (z : Standing). readable_by z job.value) s)))
        ∙ sym (long_enough j taps freqs k l)

    module _ (points : length j.fields.points ≡ 65) where
      facts : AcceptedFacts j.fields job.value
      facts = accepted j.fields job.value points (job_accepted j job.value job.given)

      pub readable : {out : List Float} → 65 ≤ length out → Readable j.fields a out
      readable h =
          let p = facts.points_least in
          let q = facts.points_most in
          let n : length job.value.places.x ≤ 65 = omega (arith, facts.interpolates.placed.x_many, q) in
          record {
            least = omega (arith, p);
            most = omega (arith, q);
            count = rw (← gave_same job.rest) n;
            room = h;
          }

      pub finished_is : j.standing ≡ done → design_in j.fields taps (interpolation_in a) ≡ design_for j taps freqs
      finished_is s =
          let m = facts.interpolates in
          let i = job.value in
          let e : interpolation_in a ≡ i =
          ap interpolation_in (sym (gave_same job.rest)) ∙ answered_back _ i m.placed.freqs_many m.placed.x_many m.weights_many m.abscissas_many in
          let g : bind (job_for j) (readable_by j.standing) ≡ gave i = ap (λ o. bind o (readable_by j.standing)) job.given ∙ ap (λ (z : Standing). readable_by z i) s in
          ap (design_in j.fields taps) e ∙ ap (λ o. bind o (design_in j.fields taps)) (sym g) ∙ sym (long_enough j taps freqs k l)
