-- Which numbers a call answers, over any sizes with room for a search and a design: 1 exactly where the bank, the scratch or an output is
-- below its size, 2 exactly where it is not 1 and the slot number is above the last, and a call that comes to its slot answers 0 or 3 to
-- 14. So 1 and 2 come from the gate alone, and 15, which is a leaf's, from no call. Assumes nothing.
use Prim.Native.Nat.{ℕ, zero, suc, ◌*◌, ◌≤◌}
use mathlib.Core.Path.{◌≡◌, refl, sym, ◌∙◌}
use mathlib.Core.Bool.{Bool, true, false, not, ◌&&◌, cond}
use mathlib.Core.List.{List}
use mathlib.Core.Logic.{◌⊎◌, inl, inr}
use native.Mathlib.Omega.{arith}
use borrow.Author.Tests.{le-leb, leb-true}
use lib.Dec.{ltb, leb}
use lib.Ieee.{Float}
use lib.ListN.{length}
use Rattle.numbers.specs.Outcome.{Outcome, refused, gave, bind, unless}
use Rattle.numbers.proofs.Given.{gave_same, never_given}
use Rattle.numbers.proofs.Order.{and_1, and_2}
use Rattle.numbers.proofs.Refusing.{Refuses, refuses_weaker, refuses_gave, refuses_with, refuses_bind}
use Rattle.packing.specs.Packing.{fields_of}
use Rattle.packing.proofs.ReadStored.{read_stored}
use Rattle.fields.specs.declared.request.Request.{Request}
use Rattle.fields.specs.declared.held.Fields.{Fields}
use Rattle.fields.specs.Interpolant.{Interpolation}
use Rattle.fields.specs.Accept.{accept_of, opening, finished}
use Rattle.fields.specs.Facts.{AcceptRefusal}
use Rattle.fields.specs.Facts as refusal
use Rattle.fields.proofs.Facts.{accepted}
use Rattle.fields.proofs.Refused.{accept_refuses}
use Rattle.exchange.specs.Exchange.{exchanged}
use Rattle.exchange.specs.Job.{Standing, running, done, failed, Held, held, standing_by, opened_of, agrees}
use Rattle.exchange.specs.Step.{ready_by, ready_for, settled, stepped_by, step_of}
use Rattle.exchange.specs.Design.{Design, design_in, readable_by, design_for}
use Rattle.exchange.proofs.DesignRefused.{design_refuses}
use Rattle.image.specs.Image.{words_in, layout, image_for}
use Rattle.bank.specs.Sizes.{Sizes, full, slot_of}
use Rattle.bank.specs.Slot.{Loaded, empty, broken, holds, load_of}
use Rattle.bank.specs.Calls.{Call, open', step, read, save, restore, clear, open_for, restored, restore_for, placing, answered, step_held, reading, save_by, saving, on_loaded, on_slot, room}
use Rattle.bank.specs.Bank.{gate_of, passed, bank_call}
use Rattle.bank.proofs.Laws.{inside}
use Rattle.bank.proofs.Loading.{holding}
use Rattle.bank.proofs.Refusals.{ready, step_range}
use Rattle.bank.proofs.Memory.{Short, short_gate, gate_short}

-- the refusals that a slot can give
abbrev pub OfSlot : ℕ → Type 0
OfSlot n = (3 ≤ n) × (n ≤ 14)

abbrev pub Answered : ℕ → Type 0
Answered n = (n ≡ 0) ⊎ OfSlot n

-- ---- by the outcome
placing_answers : (call : Call) (ws : List ℕ) (o : Outcome Held) → Refuses OfSlot o → Answered (placing call ws o).told.number
placing_answers call ws (refused n) r = inr (r.is n refl)
placing_answers call ws (gave j) r = inl refl

reading_answers : (ws : List ℕ) (t f : List Float) (o : Outcome Design) → Refuses OfSlot o → Answered (reading ws t f o).told.number
reading_answers ws t f (refused n) r = inr (r.is n refl)
reading_answers ws t f (gave d) r = inl refl

saving_answers : (ws out : List ℕ) (o : Outcome (List ℕ)) → Refuses OfSlot o → Answered (saving ws out o).told.number
saving_answers ws out (refused n) r = inr (r.is n refl)
saving_answers ws out (gave b) r = inl refl

-- ---- opening and restoring: 5 to 9 and 14
accept_range : (n : ℕ) → AcceptRefusal n → OfSlot n
accept_range _ refusal.counts = (omega arith, omega arith)
accept_range _ refusal.request = (omega arith, omega arith)
accept_range _ refusal.bands = (omega arith, omega arith)
accept_range _ refusal.response = (omega arith, omega arith)
accept_range _ refusal.edges = (omega arith, omega arith)
accept_range _ refusal.needed = (omega arith, omega arith)

accepting : (f : Fields) (j : Held) → length f.points ≡ 65 → Refuses OfSlot (bind (accept_of f) (λ _. gave j))
accepting f j room = refuses_bind (accept_of f) (λ _. gave j) (refuses_weaker accept_range (accept_refuses f room)) (λ i e. refuses_gave j)

opening_long : (r : Request) → length (opening r).points ≡ 65
opening_long r = refl

open_refuses : (r : Request) → Refuses OfSlot (open_for r)
open_refuses r = accepting (opening r) (opened_of r) (opening_long r)

restore_refuses : (s : List ℕ) → Refuses OfSlot (restore_for s)
unfolding image_for
restore_refuses s = go (layout s)
  where
    go : (t : Bool) → Refuses OfSlot (bind (unless t 14 (gave (fields_of (words_in s)))) restored)
    go true = let f = fields_of (words_in s) in accepting f (held f (standing_by f)) (read_stored (words_in s)).room
    go false = refuses_with 14 (omega arith, omega arith)

-- ---- on a job
failed_range : (f : Fields) (n : ℕ) → agrees f (failed n) ≡ true → OfSlot n
failed_range f n e =
    let k = and_2 (not (finished f)) (leb 9 n && leb n 13) e in
    let a = leb-true 9 n (and_1 (leb 9 n) (leb n 13) k) in
    let b = leb-true n 13 (and_2 (leb 9 n) (leb n 13) k) in
    (omega arith, omega arith)

module _ (ws : List ℕ) (j : Held) (loaded : load_of ws ≡ holds j) where
  -- what stands: a failed job has the number of a step's refusal
  ready_refuses : (i : Interpolation) (s : Standing) → agrees j.fields s ≡ true → Refuses OfSlot (ready_by s i)
  ready_refuses i running e = refuses_gave i
  ready_refuses i done e = refuses_with 3 (omega arith, omega arith)
  ready_refuses i (failed n) e = refuses_with n (failed_range j.fields n e)

  readable_refuses : (i : Interpolation) (s : Standing) → agrees j.fields s ≡ true → Refuses OfSlot (readable_by s i)
  readable_refuses i running e = refuses_with 3 (omega arith, omega arith)
  readable_refuses i done e = refuses_gave i
  readable_refuses i (failed n) e = refuses_with n (failed_range j.fields n e)

  save_refuses : (s : Standing) → agrees j.fields s ≡ true → Refuses OfSlot (save_by s j.fields)
  save_refuses running e = refuses_gave _
  save_refuses done e = refuses_gave _
  save_refuses (failed n) e = refuses_with n (failed_range j.fields n e)

  -- a step, with room for its search
  for_step : (words : ℕ) → 2482 ≤ words → Refuses OfSlot (ready_for j words)
  unfolding ready_for
  for_step words h =
      let k = holding ws j loaded in
      rw (le-leb 2482 words h, k.job) (ready_refuses k.interpolation j.standing k.agreeing)

  settled_answers : (o : Outcome Fields) → Refuses OfSlot o → Answered (answered (settled j o).answer)
  settled_answers (refused n) r = inr (r.is n refl)
  settled_answers (gave f) r = inl refl

  stepped_answers : (words : ℕ) (o : Outcome Interpolation) → ready_for j words ≡ o → Refuses OfSlot o → Answered (answered (stepped_by j o).answer)
  stepped_answers words (refused n) e r = inr (r.is n refl)
  stepped_answers words (gave i) e r =
      settled_answers (exchanged j.fields i)
      (record { is = λ n q. let k = step_range ws j loaded i (ready j words i e) n q in (omega (arith, k.0), omega (arith, k.1)) })

  step_answers : (words : ℕ) → 2482 ≤ words → Answered (step_held words j ws).told.number
  unfolding step_of
  step_answers words h = stepped_answers words (ready_for j words) refl (for_step words h)

  -- a design, with room for it
  for_design : (t f : ℕ) → 128 ≤ t → 65 ≤ f → Refuses OfSlot (design_for j t f)
  unfolding design_for
  for_design t f a b =
      let k = holding ws j loaded in
      rw (le-leb 128 t a, le-leb 65 f b, k.job)
      (refuses_bind (readable_by j.standing k.interpolation) (design_in j.fields t) (readable_refuses k.interpolation j.standing k.agreeing)
      (λ i e. designing i (readable_same j.standing k.interpolation i e)))
    where
      readable_same : (s : Standing) (i q : Interpolation) → readable_by s i ≡ gave q → i ≡ q
      readable_same running i q e = absurd (never_given e)
      readable_same done i q e = gave_same e
      readable_same (failed n) i q e = absurd (never_given e)

      designing : (i : Interpolation) → (holding ws j loaded).interpolation ≡ i → Refuses OfSlot (design_in j.fields t i)
      designing i e =
          let k = holding ws j loaded in
          rw (← e) (refuses_weaker (λ n z. (omega arith, omega arith)) (design_refuses j.fields k.interpolation t (accepted j.fields k.interpolation k.room k.accepted) a))

-- ---- sizes with room for a search and a design
pub record Enough (σ : Sizes) : Type 0 where
  pub search : 2482 ≤ σ.scratch
  pub taps : 128 ≤ σ.taps
  pub freqs : 65 ≤ σ.freqs

pub full_enough : Enough full
full_enough = record { search = omega arith; taps = omega arith; freqs = omega arith }

three : Answered 3
three = inr (omega arith, omega arith)

four : Answered 4
four = inr (omega arith, omega arith)

module _ (σ : Sizes) (enough : Enough σ) where
  read_answers : (t f : List Float) (ws : List ℕ) (j : Held) → load_of ws ≡ holds j → room σ (read t f) ≡ true → Answered (reading ws t f (design_for j (length t) (length f))).told.number
  read_answers t f ws j e r =
      let a = leb-true σ.taps (length t) (and_1 (leb σ.taps (length t)) (leb σ.freqs (length f)) r) in
      let b = leb-true σ.freqs (length f) (and_2 (leb σ.taps (length t)) (leb σ.freqs (length f)) r) in
      reading_answers ws t f (design_for j (length t) (length f)) (for_design ws j e (length t) (length f) (omega (arith, a, enough.taps)) (omega (arith, b, enough.freqs)))

  loaded_answers : (call : Call) (l : Loaded) (ws : List ℕ) → load_of ws ≡ l → room σ call ≡ true → Answered (on_loaded σ call l ws).told.number
  loaded_answers (open' r) empty ws e t = placing_answers (open' r) ws (open_for r) (open_refuses r)
  loaded_answers (open' r) broken ws e t = four
  loaded_answers (open' r) (holds j) ws e t = three
  loaded_answers step empty ws e t = three
  loaded_answers step broken ws e t = four
  loaded_answers step (holds j) ws e t = step_answers ws j e σ.scratch enough.search
  loaded_answers (read u f) empty ws e t = three
  loaded_answers (read u f) broken ws e t = four
  loaded_answers (read u f) (holds j) ws e t = read_answers u f ws j e t
  loaded_answers (save out) empty ws e t = three
  loaded_answers (save out) broken ws e t = four
  loaded_answers (save out) (holds j) ws e t = saving_answers ws out (save_by j.standing j.fields) (save_refuses ws j e j.standing (holding ws j e).agreeing)
  loaded_answers (restore s) empty ws e t = placing_answers (restore s) ws (restore_for s) (restore_refuses s)
  loaded_answers (restore s) broken ws e t = four
  loaded_answers (restore s) (holds j) ws e t = three
  loaded_answers clear l ws e t = inl refl

  -- a call on a slot whose outputs have room
  pub slot_answers : (call : Call) (ws : List ℕ) → room σ call ≡ true → Answered (on_slot σ call ws).told.number
  unfolding on_slot
  slot_answers call ws t = loaded_answers call (load_of ws) ws refl t

  -- ---- on a bank
  module _ (call : Call) (slot : ℕ) (bank scratch : List ℕ) where
    abbrev G : ℕ
    G = gate_of σ (length bank) (length scratch) slot (room σ call)

    abbrev number : ℕ
    number = (bank_call σ call slot bank scratch).told.number

    by_gate : (g : ℕ) → G ≡ g → (Answered (passed σ g call (slot_of σ bank slot)).told.number × (g ≡ 0)) ⊎ ((passed σ g call (slot_of σ bank slot)).told.number ≡ g)
    unfolding passed
    by_gate zero e = inl (slot_answers call (slot_of σ bank slot) (inside σ (length bank) (length scratch) slot (room σ call) e).room, refl)
    by_gate (suc n) e = inr refl

    -- the gate's own number, or what the slot answers behind a gate that lets the call through
    by_number : (Answered number × (G ≡ 0)) ⊎ (number ≡ G)
    unfolding bank_call
    by_number = by_gate G refl

    -- a call that comes to its slot answers 0 or 3 to 14
    pub passed_answers : G ≡ 0 → Answered number
    passed_answers e = go by_number
      where
        go : (Answered number × (G ≡ 0)) ⊎ (number ≡ G) → Answered number
        go (inl a) = a.0
        go (inr q) = inl (q ∙ e)

    -- a number below 3 that is not 0 is the gate's
    of_gate : (n : ℕ) → 1 ≤ n → n ≤ 2 → number ≡ n → G ≡ n
    of_gate n a b e = go by_number
      where
        go : (Answered number × (G ≡ 0)) ⊎ (number ≡ G) → G ≡ n
        go (inl ((inl z), g)) = absurd (omega (arith, a, e, z))
        go (inl ((inr z), g)) = absurd (omega (arith, b, e, z.0))
        go (inr q) = sym q ∙ e

    gate_number : (n : ℕ) → 1 ≤ n → G ≡ n → number ≡ n
    gate_number n a e = go by_number
      where
        go : (Answered number × (G ≡ 0)) ⊎ (number ≡ G) → number ≡ n
        go (inl q) = absurd (omega (arith, a, e, q.1))
        go (inr q) = q ∙ e

    -- 1 exactly where the bank, the scratch or an output is below its size
    pub short_one : Short σ call bank scratch → number ≡ 1
    short_one s = gate_number 1 (omega arith) (short_gate σ call slot bank scratch s)

    pub one_short : number ≡ 1 → Short σ call bank scratch
    one_short e = gate_short σ call slot bank scratch (of_gate 1 (omega arith) (omega arith) e)

    -- 2 exactly where they are not and the slot number is above the last
    pub beyond_two : (Short σ call bank scratch → ⊥) → σ.slots ≤ slot → number ≡ 2
    unfolding gate_of
    beyond_two s h = gate_number 2 (omega arith) (not_one (λ e. s (gate_short σ call slot bank scratch e)))
      where
        choose : (a b r : Bool) → (cond {A = ℕ} a 1 (cond b 1 (cond r 2 1)) ≡ 1 → ⊥) → cond {A = ℕ} a 1 (cond b 1 (cond r 2 1)) ≡ 2
        choose true b r k = absurd (k refl)
        choose false true r k = absurd (k refl)
        choose false false true k = refl
        choose false false false k = absurd (k refl)

        not_one : (G ≡ 1 → ⊥) → G ≡ 2
        not_one k =
            let t : leb σ.slots slot ≡ true = le-leb σ.slots slot h in
            rw t (choose (ltb (length bank) (σ.slots * σ.slot)) (ltb (length scratch) σ.scratch) (room σ call) (rw t at k))

    pub two_beyond : number ≡ 2 → (Short σ call bank scratch → ⊥) × (σ.slots ≤ slot)
    unfolding gate_of
    two_beyond e = (
      (λ s. let one = short_one s in omega (arith, one, e)),
      leb-true σ.slots slot
          (choose (ltb (length bank) (σ.slots * σ.slot)) (ltb (length scratch) σ.scratch) (room σ call) (leb σ.slots slot) (of_gate 2 (omega arith) (omega arith) e)),
    )
      where
        choose : (a b r d : Bool) → cond {A = ℕ} a 1 (cond b 1 (cond r (cond d 2 0) 1)) ≡ 2 → d ≡ true
        choose true b r d k = absurd (let z : ◌≡◌ {A = ℕ} 1 2 = k in omega arith)
        choose false true r d k = absurd (let z : ◌≡◌ {A = ℕ} 1 2 = k in omega arith)
        choose false false false d k = absurd (let z : ◌≡◌ {A = ℕ} 1 2 = k in omega arith)
        choose false false true true k = refl
        choose false false true false k = absurd (let z : ◌≡◌ {A = ℕ} 0 2 = k in omega arith)
