-- What clear, open, restore and step give on a slot, by what its words hold before a job has judged itself. Assumes nothing.
use Rattle.std.specs.Prelude.{Result, Ok, Err}
use Prim.Native.Nat.{ℕ}
use mathlib.Core.Path.{◌≡◌, refl, sym, ap, ◌∙◌}
use mathlib.Core.Bool.{Bool, true, false, cond, true≢false}
use mathlib.Core.List.{List, []}
use lib.Ieee.{Float}
use lib.ListN.{length, replicate}
use Rattle.numbers.specs.declared.Refusal.{Refusal}
use Rattle.numbers.specs.Outcome.{Outcome, refused, gave, bind}
use Rattle.numbers.specs.Refusals.{verdict_of}
use Rattle.numbers.proofs.Given.{gave_same, never_given}
use Rattle.fields.specs.declared.request.Request.{Request}
use Rattle.fields.specs.declared.held.Fields.{Fields}
use Rattle.fields.specs.Accept.{accept_of, opening}
use Rattle.exchange.specs.Job.{Held, held, held_of, standing_by, job_for, opened_of, Resuming, Opening, Checked}
use Rattle.image.specs.Image.{image_for}
use Rattle.exchange.specs.Step.{Next, step_of, ready_for}
use Rattle.bank.specs.Sizes.{Sizes, full}
use Rattle.bank.specs.Slot.{slot_words, is_given, Loaded, empty, broken, holds}
use Rattle.bank.specs.Calls.{Call, told_by, tell_done, plainly, gives, taps_of, freqs_of, bytes_of, open_for, restored, restore_for, placing, answered, step_held, on_loaded, on_slot, Settled}
use Rattle.bank.specs.Content.{packed_of, judged, vacant_for, near_for}
use Rattle.bank.proofs.Judging.{judged_load, no_job_4, packed_words}

pub on_content : (σ : Sizes) (call : Call) (ws : List ℕ) (l : Loaded) → l ≡ packed_of ws → on_slot σ call ws ≡ on_loaded σ call (judged l) ws
unfolding on_slot
on_content σ call ws l e = ap (λ (k : Loaded). on_loaded σ call k ws) (judged_load ws ∙ ap judged (sym e))

-- a call that only answers, by what the words hold
settled_content : (call : Call) (ws : List ℕ) (l : Loaded) (n : ℕ) → l ≡ packed_of ws → on_loaded full call (judged l) ws ≡ gives call n ws
    → Settled (on_slot full call ws) (plainly n) ws (taps_of call) (freqs_of call) (bytes_of call)
settled_content call ws l n e o = rw (on_content full call ws l e ∙ o) (record { told = refl; slot = refl; taps = refl; freqs = refl; bytes = refl })

-- ---- clear
pub settled_clear : (ws ws' : List ℕ) → ws' ≡ replicate (length ws) 0 → Settled (on_slot full Call.clear ws) (plainly 0) ws' [] [] []
unfolding on_slot
settled_clear ws ws' e = record { told = refl; slot = e; taps = refl; freqs = refl; bytes = refl }

-- ---- a call that asks for an empty slot: open and restore, by the job that it puts there
pub record Fresh (call : Call) (o : Outcome Held) : Type 0 where
  pub empty_0 : (ws : List ℕ) → on_loaded full call empty ws ≡ placing call ws o
  pub broken_4 : (ws : List ℕ) → on_loaded full call broken ws ≡ gives call 4 ws
  pub holds_3 : (j : Held) (ws : List ℕ) → on_loaded full call (holds j) ws ≡ gives call 3 ws

occupied_by : (call : Call) (o : Outcome Held) (j : Held) (ws : List ℕ) (g : Bool) → Fresh call o → on_loaded full call (cond g (holds j) broken) ws ≡ gives call (cond g 3 4) ws
occupied_by call o j ws true h = h.holds_3 j ws
occupied_by call o j ws false h = h.broken_4 ws

vacant_empty : (l : Loaded) → gave tt ≡ vacant_for l → empty ≡ l
vacant_empty empty e = refl
vacant_empty broken e = absurd (never_given (sym e))
vacant_empty (holds j) e = absurd (never_given (sym e))

module _ (call : Call) (o : Outcome Held) (fresh : Fresh call o) (ws : List ℕ) where
  abbrev Ending : ℕ → List ℕ → Type 0
  Ending n ws' = Settled (on_slot full call ws) (plainly n) ws' (taps_of call) (freqs_of call) (bytes_of call)

  pub fresh_refused : (n : ℕ) → refused n ≡ vacant_for (packed_of ws) → Ending n ws
  fresh_refused n e = go (packed_of ws) refl e
    where
      go : (l : Loaded) → l ≡ packed_of ws → refused n ≡ vacant_for l → Ending n ws
      go empty k e = absurd (never_given e)
      go broken k e = let z : n ≡ 4 = cc in rw z (settled_content call ws broken 4 k (fresh.broken_4 ws))
      go (holds j) k e =
          let z : n ≡ cond (is_given (job_for j)) 3 4 = cc in
          rw z (settled_content call ws (holds j) (cond (is_given (job_for j)) 3 4) k (occupied_by call o j ws (is_given (job_for j)) fresh))

  placed_by : (p : Outcome Held) (ws' : List ℕ) (n : ℕ) → placing call ws p ≡ gives call n ws' → p ≡ o → gave tt ≡ vacant_for (packed_of ws) → Ending n ws'
  placed_by p ws' n q e v =
      rw (on_content full call ws empty (vacant_empty (packed_of ws) v) ∙ fresh.empty_0 ws ∙ ap (placing call ws) (sym e) ∙ q)
      (record { told = refl; slot = refl; taps = refl; freqs = refl; bytes = refl })

  pub fresh_stopped : (n : ℕ) → gave tt ≡ vacant_for (packed_of ws) → refused n ≡ o → Ending n ws
  fresh_stopped n v e = placed_by (refused n) ws n refl e v

  pub fresh_placed : (j : Held) (ws' : List ℕ) → gave tt ≡ vacant_for (packed_of ws) → gave j ≡ o → ws' ≡ slot_words (length ws) j → Ending 0 ws'
  fresh_placed j ws' v e w = rw w (placed_by (gave j) (slot_words (length ws) j) 0 refl e v)

pub fresh_open : (r : Request) → Fresh (Call.open' r) (open_for r)
fresh_open r = record { empty_0 = λ ws. refl; broken_4 = λ ws. refl; holds_3 = λ j ws. refl }

pub fresh_restore : (s : List ℕ) → Fresh (Call.restore s) (restore_for s)
fresh_restore s = record { empty_0 = λ ws. refl; broken_4 = λ ws. refl; holds_3 = λ j ws. refl }

pub check_stops : (j : Held) (m : ℕ) → refused m ≡ bind (job_for j) (λ _. gave (tt {0})) → m ≡ cond (is_given (job_for j)) 3 4
check_stops j m = go (is_given (job_for j)) refl
  where
    go : (g : Bool) → is_given (job_for j) ≡ g → refused m ≡ bind (job_for j) (λ _. gave (tt {0})) → m ≡ cond g 3 4
    go false h e = let k : refused m ≡ refused 4 = rw (no_job_4 j h) at e in cc
    go true h e = absurd (given_never (job_for j) h e)
      where
        given_never : {A : Type 0} (o : Outcome A) → is_given o ≡ true → refused m ≡ bind o (λ _. gave (tt {0})) → ⊥
        given_never (refused n) h e = true≢false (sym h)
        given_never (gave a) h e = never_given e

module _ (r : Request) (ws : List ℕ) where
  pub open_refused : (n : ℕ) → refused n ≡ vacant_for (packed_of ws) → Settled (on_slot full (Call.open' r) ws) (plainly n) ws [] [] []
  open_refused n e = fresh_refused (Call.open' r) (open_for r) (fresh_open r) ws n e

  pub open_stopped : (n : ℕ) → gave tt ≡ vacant_for (packed_of ws) → refused n ≡ open_for r → Settled (on_slot full (Call.open' r) ws) (plainly n) ws [] [] []
  open_stopped n v e = fresh_stopped (Call.open' r) (open_for r) (fresh_open r) ws n v e

  pub open_placed : (j : Held) (ws' : List ℕ) → gave tt ≡ vacant_for (packed_of ws) → gave j ≡ open_for r → ws' ≡ slot_words (length ws) j
      → Settled (on_slot full (Call.open' r) ws) (plainly 0) ws' [] [] []
  open_placed j ws' v e w = fresh_placed (Call.open' r) (open_for r) (fresh_open r) ws j ws' v e w

module _ (s ws : List ℕ) where
  pub restore_refused : (n : ℕ) → refused n ≡ vacant_for (packed_of ws) → Settled (on_slot full (Call.restore s) ws) (plainly n) ws [] [] []
  restore_refused n e = fresh_refused (Call.restore s) (restore_for s) (fresh_restore s) ws n e

  pub restore_unread : (n : ℕ) → gave tt ≡ vacant_for (packed_of ws) → refused n ≡ image_for s → Settled (on_slot full (Call.restore s) ws) (plainly n) ws [] [] []
  restore_unread n v e = fresh_stopped (Call.restore s) (restore_for s) (fresh_restore s) ws n v (rw (← e))

  pub restore_stopped : (f : Fields) (n : ℕ) → gave tt ≡ vacant_for (packed_of ws) → gave f ≡ image_for s → refused n ≡ restored f → Settled (on_slot full (Call.restore s) ws) (plainly n) ws [] [] []
  restore_stopped f n v d e = fresh_stopped (Call.restore s) (restore_for s) (fresh_restore s) ws n v (rw (← d) e)

  pub restore_placed : (f : Fields) (j : Held) (ws' : List ℕ) → gave tt ≡ vacant_for (packed_of ws) → gave f ≡ image_for s → gave j ≡ restored f → ws' ≡ slot_words (length ws) j
      → Settled (on_slot full (Call.restore s) ws) (plainly 0) ws' [] [] []
  restore_placed f j ws' v d e w = fresh_placed (Call.restore s) (restore_for s) (fresh_restore s) ws j ws' v (rw (← d) e) w

-- ---- a call that asks for a job: step, read and save
pub record Asking (call : Call) : Type 0 where
  pub empty_3 : (ws : List ℕ) → on_loaded full call empty ws ≡ gives call 3 ws
  pub broken_4 : (ws : List ℕ) → on_loaded full call broken ws ≡ gives call 4 ws

pub asked_refused : (call : Call) → Asking call → (ws : List ℕ) (n : ℕ) → refused n ≡ near_for (packed_of ws)
    → Settled (on_slot full call ws) (plainly n) ws (taps_of call) (freqs_of call) (bytes_of call)
asked_refused call a ws n e = go (packed_of ws) refl e
  where
    go : (l : Loaded) → l ≡ packed_of ws → refused n ≡ near_for l → Settled (on_slot full call ws) (plainly n) ws (taps_of call) (freqs_of call) (bytes_of call)
    go empty k e = let z : n ≡ 3 = cc in rw z (settled_content call ws empty 3 k (a.empty_3 ws))
    go broken k e = let z : n ≡ 4 = cc in rw z (settled_content call ws broken 4 k (a.broken_4 ws))
    go (holds j) k e = absurd (never_given e)

pub asking_step : Asking Call.step
asking_step = record { empty_3 = λ ws. refl; broken_4 = λ ws. refl }

pub asking_read : (t f : List Float) → Asking (Call.read t f)
asking_read t f = record { empty_3 = λ ws. refl; broken_4 = λ ws. refl }

pub asking_save : (out : List ℕ) → Asking (Call.save out)
asking_save out = record { empty_3 = λ ws. refl; broken_4 = λ ws. refl }

pub step_refused : (ws : List ℕ) (n : ℕ) → refused n ≡ near_for (packed_of ws) → Settled (on_slot full Call.step ws) (plainly n) ws [] [] []
step_refused ws n e = asked_refused Call.step asking_step ws n e

pub read_refused : (t f : List Float) (ws : List ℕ) (n : ℕ) → refused n ≡ near_for (packed_of ws) → Settled (on_slot full (Call.read t f) ws) (plainly n) ws t f []
read_refused t f ws n e = asked_refused (Call.read t f) (asking_read t f) ws n e

pub save_refused : (out ws : List ℕ) (n : ℕ) → refused n ≡ near_for (packed_of ws) → Settled (on_slot full (Call.save out) ws) (plainly n) ws [] [] out
save_refused out ws n e = asked_refused (Call.save out) (asking_save out) ws n e

near_holds : (l : Loaded) (j : Held) → gave j ≡ near_for l → holds j ≡ l
near_holds empty j e = absurd (never_given (sym e))
near_holds broken j e = absurd (never_given (sym e))
near_holds (holds i) j e = ap holds (gave_same e)

pub asked_holds : (ws : List ℕ) (j : Held) → gave j ≡ near_for (packed_of ws) → holds j ≡ packed_of ws
asked_holds ws j e = near_holds (packed_of ws) j e

-- ---- step
-- where it is no job, the step itself gives 4 and leaves the words
step_no_job : (j : Held) (ws : List ℕ) → job_for j ≡ refused 4 → slot_words (length ws) j ≡ ws → gives Call.step 4 ws ≡ step_held 8192 j ws
unfolding step_of ready_for
step_no_job j ws n e = rw (n, e)

step_held_lem : (j : Held) (ws : List ℕ) (g : Bool) → is_given (job_for j) ≡ g → slot_words (length ws) j ≡ ws → on_loaded full Call.step (cond g (holds j) broken) ws ≡ step_held 8192 j ws
step_held_lem j ws true q e = refl
step_held_lem j ws false q e = step_no_job j ws (no_job_4 j q) e

told_answered : (r : Result Unit Refusal) (o : Outcome (Unit {0})) → verdict_of r (tt {0}) ≡ o → told_by tell_done r ≡ plainly (answered o)
told_answered (Ok tt) o e = rw (← e)
told_answered (Err q) o e = rw (← e)

pub step_holds : (ws ws' : List ℕ) (j : Held) (n : Next) (r : Result Unit Refusal) → gave j ≡ near_for (packed_of ws) → n ≡ step_of j 8192 → n.answer ≡ verdict_of r tt
    → ws' ≡ slot_words (length ws) n.job → Settled (on_slot full Call.step ws) (told_by tell_done r) ws' [] [] []
step_holds ws ws' j n r e s a w =
    let h = asked_holds ws j e in
    rw (on_content full Call.step ws (holds j) h ∙ step_held_lem j ws (is_given (job_for j)) refl (packed_words ws j h))
    (record {
      told = told_answered r (step_of j 8192).answer (sym a ∙ ap (λ (x : Next). x.answer) s);
      slot = w ∙ ap (λ (x : Next). slot_words (length ws) x.job) s;
      taps = refl;
      freqs = refl;
      bytes = refl;
    })
