-- What a refused call leaves, over any sizes. Every refusal but that of a failing step leaves bank and outputs as they were; a failing step
-- makes the job failed with its number, 9 to 13, and changes nothing else. Assumes nothing.
use Prim.Native.Nat.{ℕ, zero, suc, ◌*◌, ◌≤◌}
use mathlib.Core.Path.{◌≡◌, refl, sym, ap, ◌∙◌}
use mathlib.Core.Bool.{Bool, true, false, not}
use mathlib.Core.List.{List, ◌++◌}
use mathlib.Core.Logic.{◌⊎◌, inl, inr}
use lib.Dec.{leb}
use lib.Ieee.{Float}
use lib.ListN.{length, take, drop, take-append-drop}
use Rattle.numbers.specs.Outcome.{Outcome, refused, gave, bind}
use Rattle.numbers.proofs.Given.{gave_same, never_given, unless_given, bind_given}
use Rattle.fields.specs.declared.held.Fields.{Fields}
use Rattle.fields.specs.Interpolant.{Interpolation}
use Rattle.fields.specs.Accept.{accept_of, finished}
use Rattle.exchange.specs.Exchange.{exchanged}
use Rattle.exchange.specs.Job.{Standing, running, done, failed, Held, held, agrees, job_for}
use Rattle.exchange.specs.Step.{ready_by, ready_for, settled, stepped_by, step_of}
use Rattle.exchange.specs.Design.{Design, design_for}
use Rattle.exchange.proofs.StepFacts.{exchange_refuses}
use Rattle.bank.specs.Sizes.{Sizes, slot_of, put_slot}
use Rattle.bank.specs.Slot.{slot_words, Loaded, empty, broken, holds, load_of}
use Rattle.bank.specs.Calls.{Call, open', step, read, save, restore, clear, plainly, Result, taps_of, freqs_of, bytes_of, gives, open_for, restore_for, placing, answered, step_held, reading, save_by, saving, on_loaded, on_slot, room}
use Rattle.bank.specs.Bank.{gate_of, passed, placed, Done, ended, bank_call}
use Rattle.bank.proofs.Laws.{inside, slot_of-length}
use Rattle.bank.proofs.Loading.{holding}

-- ---- on a slot
-- the number alone is told; the slot's words and the outputs are as they were
pub record Same (call : Call) (ws : List ℕ) (o : Result) : Type 0 where
  pub told : o.told ≡ plainly o.told.number
  pub slot : o.slot ≡ ws
  pub taps : o.taps ≡ taps_of call
  pub freqs : o.freqs ≡ freqs_of call
  pub bytes : o.bytes ≡ bytes_of call

-- a step on a running job whose exchange is refused: the job is failed with that number and keeps its fields
pub record Failing (call : Call) (ws : List ℕ) (o : Result) : Type 0 where
  pub is_step : call ≡ step
  pub job : Held
  pub loaded : load_of ws ≡ holds job
  pub runs : job.standing ≡ running
  pub number : ℕ
  pub least : 9 ≤ number
  pub most : number ≤ 13
  pub is : o ≡ gives call number (slot_words (length ws) (held job.fields (failed number)))

gives_same : (call : Call) (n : ℕ) (ws : List ℕ) → Same call ws (gives call n ws)
gives_same call n ws = record { told = refl; slot = refl; taps = refl; freqs = refl; bytes = refl }

placing-same : (call : Call) (ws : List ℕ) (o : Outcome Held) → ((placing call ws o).told.number ≡ 0 → ⊥) → Same call ws (placing call ws o)
placing-same call ws (refused n) h = gives_same call n ws
placing-same call ws (gave j) h = absurd (h refl)

reading-same : (ws : List ℕ) (t f : List Float) (o : Outcome Design) → ((reading ws t f o).told.number ≡ 0 → ⊥) → Same (read t f) ws (reading ws t f o)
reading-same ws t f (refused n) h = gives_same (read t f) n ws
reading-same ws t f (gave d) h = absurd (h refl)

saving-same : (ws out : List ℕ) (o : Outcome (List ℕ)) → ((saving ws out o).told.number ≡ 0 → ⊥) → Same (save out) ws (saving ws out o)
saving-same ws out (refused n) h = gives_same (save out) n ws
saving-same ws out (gave s) h = absurd (h refl)

-- ---- a step on a job
pub record Ready (j : Held) (i : Interpolation) : Type 0 where
  pub runs : j.standing ≡ running
  pub job : job_for j ≡ gave i

ready_by_lem : (s : Standing) (i k : Interpolation) → ready_by s i ≡ gave k → (s ≡ running) × (i ≡ k)
ready_by_lem running i k e = (refl, gave_same e)
ready_by_lem done i k e = absurd (never_given e)
ready_by_lem (failed n) i k e = absurd (never_given e)

pub ready : (j : Held) (words : ℕ) (i : Interpolation) → ready_for j words ≡ gave i → Ready j i
unfolding ready_for
ready j words i e =
    let a = unless_given (leb 2482 words) 1 (bind (job_for j) (ready_by j.standing)) e in
    let b = bind_given (job_for j) (ready_by j.standing) a.rest in
    let c = ready_by_lem j.standing b.value i b.rest in
    record { runs = c.0; job = b.given ∙ ap gave c.1 }

not-false : (b : Bool) → not b ≡ true → b ≡ false
not-false true e = sym e
not-false false e = refl

module _ (ws : List ℕ) (j : Held) (loaded : load_of ws ≡ holds j) where
  abbrev stepped : Outcome Interpolation → Result
  stepped o = let next = stepped_by j o in gives step (answered next.answer) (slot_words (length ws) next.job)

  abbrev ends : Outcome Fields → Result
  ends o = let next = settled j o in gives step (answered next.answer) (slot_words (length ws) next.job)

  pub step_going : (i : Interpolation) → Ready j i → finished j.fields ≡ false
  step_going i r = not-false (finished j.fields) (sym (ap (agrees j.fields) r.runs) ∙ (holding ws j loaded).agreeing)

  pub step_accepted : (i : Interpolation) → Ready j i → accept_of j.fields ≡ gave i
  step_accepted i r = let k = holding ws j loaded in k.accepted ∙ sym k.job ∙ r.job

  pub step_range : (i : Interpolation) → Ready j i → (n : ℕ) → exchanged j.fields i ≡ refused n → (9 ≤ n) × (n ≤ 13)
  step_range i r n e = (exchange_refuses j.fields i (holding ws j loaded).room (step_accepted i r) (step_going i r)).is n e

  failing : (i : Interpolation) → Ready j i → (o : Outcome Fields) → exchanged j.fields i ≡ o → ((ends o).told.number ≡ 0 → ⊥) → Failing step ws (ends o)
  failing i r (refused n) e h =
      let b = step_range i r n e in
      record { is_step = refl; job = j; loaded = loaded; runs = r.runs; number = n; least = b.0; most = b.1; is = refl }
  failing i r (gave f) e h = absurd (h refl)

  step_cases : (words : ℕ) (o : Outcome Interpolation) → ready_for j words ≡ o → ((stepped o).told.number ≡ 0 → ⊥) → Same step ws (stepped o) ⊎ Failing step ws (stepped o)
  step_cases words (refused n) e h = inl (record { told = refl; slot = (holding ws j loaded).words; taps = refl; freqs = refl; bytes = refl })
  step_cases words (gave i) e h = inr (failing i (ready j words i e) (exchanged j.fields i) refl h)

  step_refused : (words : ℕ) → ((step_held words j ws).told.number ≡ 0 → ⊥) → Same step ws (step_held words j ws) ⊎ Failing step ws (step_held words j ws)
  unfolding step_of
  step_refused words h = step_cases words (ready_for j words) refl h

loaded_refused : (σ : Sizes) (call : Call) (l : Loaded) (ws : List ℕ) → load_of ws ≡ l → ((on_loaded σ call l ws).told.number ≡ 0 → ⊥)
    → Same call ws (on_loaded σ call l ws) ⊎ Failing call ws (on_loaded σ call l ws)
loaded_refused σ (open' r) empty ws e h = inl (placing-same (open' r) ws (open_for r) h)
loaded_refused σ (open' r) broken ws e h = inl (gives_same (open' r) 4 ws)
loaded_refused σ (open' r) (holds j) ws e h = inl (gives_same (open' r) 3 ws)
loaded_refused σ step empty ws e h = inl (gives_same step 3 ws)
loaded_refused σ step broken ws e h = inl (gives_same step 4 ws)
loaded_refused σ step (holds j) ws e h = step_refused ws j e σ.scratch h
loaded_refused σ (read t f) empty ws e h = inl (gives_same (read t f) 3 ws)
loaded_refused σ (read t f) broken ws e h = inl (gives_same (read t f) 4 ws)
loaded_refused σ (read t f) (holds j) ws e h = inl (reading-same ws t f (design_for j (length t) (length f)) h)
loaded_refused σ (save out) empty ws e h = inl (gives_same (save out) 3 ws)
loaded_refused σ (save out) broken ws e h = inl (gives_same (save out) 4 ws)
loaded_refused σ (save out) (holds j) ws e h = inl (saving-same ws out (save_by j.standing j.fields) h)
loaded_refused σ (restore s) empty ws e h = inl (placing-same (restore s) ws (restore_for s) h)
loaded_refused σ (restore s) broken ws e h = inl (gives_same (restore s) 4 ws)
loaded_refused σ (restore s) (holds j) ws e h = inl (gives_same (restore s) 3 ws)
loaded_refused σ clear l ws e h = absurd (h refl)

pub slot_refused : (σ : Sizes) (call : Call) (ws : List ℕ) → ((on_slot σ call ws).told.number ≡ 0 → ⊥) → Same call ws (on_slot σ call ws) ⊎ Failing call ws (on_slot σ call ws)
unfolding on_slot
slot_refused σ call ws h = loaded_refused σ call (load_of ws) ws refl h

-- ---- on a bank
-- the number alone is told; bank and outputs are as they were
pub record Kept (call : Call) (bank : List ℕ) (d : Done) : Type 0 where
  pub told : d.told ≡ plainly d.told.number
  pub bank_is : d.bank ≡ bank
  pub taps : d.taps ≡ taps_of call
  pub freqs : d.freqs ≡ freqs_of call
  pub bytes : d.bytes ≡ bytes_of call

-- a failing step, and the bank with the failed job in its slot
pub record Failure (σ : Sizes) (call : Call) (slot : ℕ) (bank : List ℕ) (d : Done) : Type 0 where
  pub is_step : call ≡ step
  pub job : Held
  pub loaded : load_of (slot_of σ bank slot) ≡ holds job
  pub runs : job.standing ≡ running
  pub number : ℕ
  pub least : 9 ≤ number
  pub most : number ≤ 13
  pub told : d.told ≡ plainly number
  pub bank_is : d.bank ≡ put_slot σ bank slot (slot_words σ.slot (held job.fields (failed number)))

-- a slot's own words put back change nothing
pub put_back : (σ : Sizes) (bank : List ℕ) (i : ℕ) → put_slot σ bank i (slot_of σ bank i) ≡ bank
unfolding put_slot slot_of
put_back σ bank i =
    ap (λ (r : List ℕ). take (i * σ.slot) bank ++ r) (take-append-drop σ.slot (drop (i * σ.slot) bank)) ∙ take-append-drop (i * σ.slot) bank

module _ (σ : Sizes) (call : Call) (slot : ℕ) (bank scratch : List ℕ) where
  abbrev G : ℕ
  G = gate_of σ (length bank) (length scratch) slot (room σ call)

  abbrev ws : List ℕ
  ws = slot_of σ bank slot

  abbrev result : ℕ → Done
  result g = ended σ g (passed σ g call ws) slot bank scratch

  by_slot : G ≡ 0 → Same call ws (on_slot σ call ws) ⊎ Failing call ws (on_slot σ call ws) → Kept call bank (result 0) ⊎ Failure σ call slot bank (result 0)
  unfolding passed placed
  by_slot g (inl s) =
      inl (record { told = s.told; bank_is = ap (put_slot σ bank slot) s.slot ∙ put_back σ bank slot; taps = s.taps; freqs = s.freqs; bytes = s.bytes })
  by_slot g (inr f) =
      let n : length ws ≡ σ.slot = slot_of-length σ bank slot (inside σ (length bank) (length scratch) slot (room σ call) g).part in
      inr (record {
        is_step = f.is_step;
        job = f.job;
        loaded = f.loaded;
        runs = f.runs;
        number = f.number;
        least = f.least;
        most = f.most;
        told = ap (λ (o : Result). o.told) f.is;
        bank_is = ap (λ (o : Result). put_slot σ bank slot o.slot) f.is ∙ ap (λ (m : ℕ). put_slot σ bank slot (slot_words m (held f.job.fields (failed f.number)))) n;
      })

  by_gate : (g : ℕ) → G ≡ g → ((result g).told.number ≡ 0 → ⊥) → Kept call bank (result g) ⊎ Failure σ call slot bank (result g)
  unfolding passed placed
  by_gate zero e h = by_slot e (slot_refused σ call ws h)
  by_gate (suc n) e h = inl (record { told = refl; bank_is = refl; taps = refl; freqs = refl; bytes = refl })

  -- every refusal but a failing step leaves bank and outputs
  pub refused_keeps : ((bank_call σ call slot bank scratch).told.number ≡ 0 → ⊥) → Kept call bank (bank_call σ call slot bank scratch) ⊎ Failure σ call slot bank (bank_call σ call slot bank scratch)
  unfolding bank_call
  refused_keeps h = by_gate G refl h
