-- What a slot's words hold, judged by the job itself, is what loading them gives. Assumes nothing.
use Prim.Native.Nat.{ℕ}
use mathlib.Core.Path.{◌≡◌, refl, sym, ap, ◌∙◌}
use mathlib.Core.Bool.{Bool, true, false, ◌&&◌, not, cond, true≢false}
use mathlib.Core.List.{List}
use native.Mathlib.Omega.{arith}
use lib.Dec.{eqb, leb}
use lib.ListN.{length, get_or, drop}
use Rattle.numbers.specs.Outcome.{Outcome, refused, gave, bind, unless}
use Rattle.numbers.proofs.Order.{and_2}
use Rattle.packing.specs.Packing.{fields_of}
use Rattle.fields.specs.declared.held.Fields.{Fields}
use Rattle.fields.specs.Interpolant.{Interpolation}
use Rattle.fields.specs.Accept.{accept_of, finished}
use Rattle.exchange.specs.Job.{running, done, failed, Held, held, agrees, four, job_for}
use Rattle.bank.specs.Sizes.{all_zero, same}
use Rattle.bank.specs.Slot.{failure_word, slot_words, held_in, is_given, is_job, Loaded, empty, broken, holds, load_of}
use Rattle.bank.specs.Content.{named, near_in, packed_of, judged}
use Rattle.bank.proofs.Loading.{same_is}

-- ---- a job whose fields are accepted and whose state agrees; else 4
pub given_agrees : (j : Held) → is_given (job_for j) ≡ true → agrees j.fields j.standing ≡ true
unfolding job_for
given_agrees j = go (accept_of j.fields) (agrees j.fields j.standing)
  where
    go : (o : Outcome Interpolation) (t : Bool) → is_given (bind (four o) (λ i. unless t 4 (gave i))) ≡ true → t ≡ true
    go (refused n) t e = absurd (true≢false (sym e))
    go (gave i) true e = refl
    go (gave i) false e = absurd (true≢false (sym e))

pub no_job_4 : (j : Held) → is_given (job_for j) ≡ false → job_for j ≡ refused 4
unfolding job_for
no_job_4 j = go (accept_of j.fields) (agrees j.fields j.standing)
  where
    go : (o : Outcome Interpolation) (t : Bool) → is_given (bind (four o) (λ i. unless t 4 (gave i))) ≡ false → bind (four o) (λ i. unless t 4 (gave i)) ≡ refused 4
    go (refused n) t e = refl
    go (gave i) true e = absurd (true≢false e)
    go (gave i) false e = refl

-- ---- the state that is read is the state that stands there, where the words are packed again or the job is one
by_words : (a b : Bool) (m n : ℕ) → failure_word (cond a running (cond b done (failed m))) ≡ cond a 0 (cond b 0 n)
    → cond a running (cond b done (failed m)) ≡ cond a running (cond b done (failed n))
by_words true b m n e = refl
by_words false true m n e = refl
by_words false false m n e = ap failed e

named_is : (n : ℕ) → (leb 9 n && leb n 13) ≡ true → named n ≡ n
named_is n e = rw e

by_agreeing : (a b : Bool) (f : Fields) (n : ℕ) → agrees f (cond a running (cond b done (failed n))) ≡ true
    → cond a running (cond b done (failed (named n))) ≡ cond a running (cond b done (failed n))
by_agreeing true b f n e = refl
by_agreeing false true f n e = refl
by_agreeing false false f n e = ap failed (named_is n (and_2 (not (finished f)) (leb 9 n && leb n 13) e))

second : (a b : Bool) (m n : ℕ) → failure_word (cond a running (cond b done (failed m))) ≡ n → failure_word (cond a running (cond b done (failed m))) ≡ cond a 0 (cond b 0 n)
second true b m n e = refl
second false true m n e = refl
second false false m n e = e

word_1 : (n : ℕ) (j : Held) (ws : List ℕ) → slot_words n j ≡ ws → failure_word j.standing ≡ get_or ws 1 0
unfolding slot_words
word_1 n j ws e = ap (λ (l : List ℕ). get_or l 1 0) e

near_packed : (ws : List ℕ) → slot_words (length ws) (near_in ws) ≡ ws → near_in ws ≡ held_in ws
near_packed ws e =
    let a = eqb (get_or ws 0 0) 1 in
    let b = eqb (get_or ws 0 0) 2 in
    let m = named (get_or ws 1 0) in
    let n = get_or ws 1 0 in
    ap (held (fields_of (drop 2 ws))) (by_words a b m n (second a b m n (word_1 (length ws) (near_in ws) ws e)))

near_job : (ws : List ℕ) → is_given (job_for (held_in ws)) ≡ true → near_in ws ≡ held_in ws
near_job ws e =
    ap (held (fields_of (drop 2 ws)))
    (by_agreeing (eqb (get_or ws 0 0) 1) (eqb (get_or ws 0 0) 2) (fields_of (drop 2 ws)) (get_or ws 1 0) (given_agrees (held_in ws) e))

-- ---- by whether packing gives the same words, and whether what stands there is a job
abbrev loading : (ws : List ℕ) → Bool → Loaded
loading ws g = cond (g && same (slot_words (length ws) (held_in ws)) ws) (holds (held_in ws)) broken

packed_again : (ws : List ℕ) (g : Bool) → is_given (job_for (held_in ws)) ≡ g → same (slot_words (length ws) (near_in ws)) ws ≡ true
    → loading ws g ≡ cond g (holds (held_in ws)) broken
packed_again ws false q e = refl
packed_again ws true q e = rw (ap (λ (j : Held). same (slot_words (length ws) j) ws) (sym (near_job ws q)) ∙ e)

packed_otherwise : (ws : List ℕ) (g : Bool) → is_given (job_for (held_in ws)) ≡ g → same (slot_words (length ws) (near_in ws)) ws ≡ false → loading ws g ≡ broken
packed_otherwise ws false q e = refl
packed_otherwise ws true q e = rw (ap (λ (j : Held). same (slot_words (length ws) j) ws) (sym (near_job ws q)) ∙ e)

judging : (ws : List ℕ) (z s : Bool) → same (slot_words (length ws) (near_in ws)) ws ≡ s
    → cond z empty (loading ws (is_given (job_for (held_in ws)))) ≡ judged (cond z empty (cond s (holds (near_in ws)) broken))
judging ws true s e = refl
judging ws false true e =
    packed_again ws (is_given (job_for (held_in ws))) refl e
    ∙ ap (λ (j : Held). cond (is_given (job_for j)) (holds j) broken) (sym (near_packed ws (same_is (slot_words (length ws) (near_in ws)) ws e)))
judging ws false false e = packed_otherwise ws (is_given (job_for (held_in ws))) refl e

pub judged_load : (ws : List ℕ) → load_of ws ≡ judged (packed_of ws)
unfolding load_of is_job packed_of
judged_load ws = judging ws (all_zero ws) (same (slot_words (length ws) (near_in ws)) ws) refl

-- ---- what words hold is packed into the same words
pub packed_words : (ws : List ℕ) (j : Held) → holds j ≡ packed_of ws → slot_words (length ws) j ≡ ws
unfolding packed_of
packed_words ws j = go (all_zero ws) (same (slot_words (length ws) (near_in ws)) ws) refl
  where
    go : (z s : Bool) → same (slot_words (length ws) (near_in ws)) ws ≡ s → holds j ≡ cond z empty (cond s (holds (near_in ws)) broken) → slot_words (length ws) j ≡ ws
    go true s q e = absurd (let x : ◌≡◌ {A = ℕ} 0 1 = cc in omega arith)
    go false true q e = let k : j ≡ near_in ws = cc in rw k (same_is (slot_words (length ws) (near_in ws)) ws q)
    go false false q e = absurd (let x : ◌≡◌ {A = ℕ} 0 1 = cc in omega arith)
