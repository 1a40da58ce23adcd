-- What save gives on a slot: as many bytes are told as the image has, and a job that judges itself saves as a job that was loaded.
-- Assumes nothing.
use Rattle.std.specs.Prelude.{Result, Ok, Err}
use Prim.Native.Nat.{ℕ, ◌≤◌}
use mathlib.Core.Path.{◌≡◌, refl, sym, ap, ◌∙◌}
use mathlib.Core.Bool.{Bool, true, false, cond, true≢false}
use mathlib.Core.List.{List, []}
use borrow.Author.Tests.{le-leb}
use lib.ListN.{length, take}
use lib.Seq.{length-take-le}
use Rattle.numbers.specs.Floats.{zero64}
use Rattle.numbers.specs.declared.Refusal.{Refusal}
use Rattle.numbers.specs.Outcome.{Outcome, refused, gave, bind}
use Rattle.numbers.specs.Refusals.{refusal_number, count_of, few, front, Wrote}
use Rattle.numbers.proofs.Given.{gave_same, never_given}
use Rattle.fields.specs.declared.held.Fields.{Fields}
use Rattle.exchange.specs.declared.job.State.{State}
use Rattle.exchange.specs.declared.job.State.TheVariants as state
use Rattle.exchange.specs.Job.{Held, standing_of, job_for}
use Rattle.image.specs.Image.{image_of, save_for}
use Rattle.bank.specs.Sizes.{full}
use Rattle.bank.specs.Slot.{is_given, broken, holds}
use Rattle.bank.specs.Calls.{Call, Told, told_by, tell_bytes, plainly, save_by, saving, on_loaded, on_slot, Settled}
use Rattle.bank.specs.Content.{packed_of}
use Rattle.bank.proofs.Judging.{no_job_4}
use Rattle.bank.proofs.CallLaws.{on_content}

-- ---- the bytes as they are written
pub wrote_told : (o : Outcome (List ℕ)) (ws out out' : List ℕ) (c : Result ℕ Refusal) → Wrote o c out out' → Settled (saving ws out o) (told_by tell_bytes c) ws [] [] out'
wrote_told (refused m) ws out out' (Ok n) w = absurd (never_given (sym w.is))
wrote_told (refused m) ws out out' (Err q) w =
    let k : refusal_number q ≡ m = let e : refused (refusal_number q) ≡ refused m = w.is in cc in
    record { told = ap plainly k; slot = refl; taps = refl; freqs = refl; bytes = w.out }
wrote_told (gave s) ws out out' (Ok n) w =
    record { told = ap tell_bytes (sym (length-take-le n out' w.room) ∙ ap length (gave_same w.is)); slot = refl; taps = refl; freqs = refl; bytes = w.out }
wrote_told (gave s) ws out out' (Err q) w = absurd (never_given w.is)

-- an answer that is passed on as it was given
pub wrote_same : (o : Outcome (List ℕ)) (ws out out' : List ℕ) (c c' : Result ℕ Refusal) → Wrote o c out out' → c' ≡ c → Settled (saving ws out o) (told_by tell_bytes c') ws [] [] out'
wrote_same o ws out out' c c' w e = rw e (wrote_told o ws out out' c w)

-- ---- a job, once it has judged itself
given_bind : {A B : Type 0} (o : Outcome A) (p : Outcome B) → is_given o ≡ true → bind o (λ _. p) ≡ p
given_bind (refused n) p e = absurd (true≢false (sym e))
given_bind (gave a) p e = refl

pub saved_fits : (f : Fields) (out : List ℕ) → 948 ≤ length out → save_for f (length out) ≡ gave (image_of f)
unfolding save_for
saved_fits f out h = rw (le-leb 948 (length out) h)

abbrev judged_save : Held → Outcome (List ℕ)
judged_save j = bind (job_for j) (λ _. save_by j.standing j.fields)

checked_given : {A : Type 0} (o : Outcome A) → gave (tt {0}) ≡ bind o (λ _. gave tt) → is_given o ≡ true
checked_given (refused n) e = absurd (never_given (sym e))
checked_given (gave a) e = refl

checked_refused : {A : Type 0} (o : Outcome A) (m : ℕ) (p : Outcome (List ℕ)) → refused m ≡ bind o (λ _. gave (tt {0})) → bind o (λ _. p) ≡ refused m
checked_refused (refused n) m p e = let k : m ≡ n = cc in rw k
checked_refused (gave a) m p e = absurd (never_given e)

pub save_unfit : (j : Held) (ws out : List ℕ) (m : ℕ) → refused m ≡ bind (job_for j) (λ _. gave (tt {0})) → Settled (saving ws out (judged_save j)) (plainly m) ws [] [] out
save_unfit j ws out m e =
    rw (checked_refused (job_for j) m (save_by j.standing j.fields) e) (record { told = refl; slot = refl; taps = refl; freqs = refl; bytes = refl })

pub image_by : (s : State) (f : Fields) → ((q : Refusal) → s ≡ state.Failed q → ⊥) → gave (image_of f) ≡ save_by (standing_of s) f
image_by state.Running f h = refl
image_by state.Finished f h = refl
image_by (state.Failed q) f h = absurd (h q refl)

pub save_given : (j : Held) (ws out out' : List ℕ) (a : Told) (o : Outcome (List ℕ)) → gave (tt {0}) ≡ bind (job_for j) (λ _. gave tt) → o ≡ save_by j.standing j.fields
    → Settled (saving ws out o) a ws [] [] out' → Settled (saving ws out (judged_save j)) a ws [] [] out'
save_given j ws out out' a o g e h = rw (given_bind (job_for j) (save_by j.standing j.fields) (checked_given (job_for j) g) ∙ sym e) h

-- ---- on a slot
save_held : (j : Held) (ws out : List ℕ) (g : Bool) → is_given (job_for j) ≡ g → on_loaded full (Call.save out) (cond g (holds j) broken) ws ≡ saving ws out (judged_save j)
save_held j ws out true e = ap (saving ws out) (sym (given_bind (job_for j) (save_by j.standing j.fields) e))
save_held j ws out false e = rw (no_job_4 j e)

pub save_holds : (j : Held) (ws out out' : List ℕ) (a : Told) → holds j ≡ packed_of ws → Settled (saving ws out (judged_save j)) a ws [] [] out'
    → Settled (on_slot full (Call.save out) ws) a ws [] [] out'
save_holds j ws out out' a e h = rw (on_content full (Call.save out) ws (holds j) e ∙ save_held j ws out (is_given (job_for j)) refl) h
