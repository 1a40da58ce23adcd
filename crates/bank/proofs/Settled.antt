-- After a call on a bank whose slots are empty or jobs, every slot is empty or a job, where what the call opens or steps to holds numbers of
-- binary64, as all that a program holds. Assumes nothing.
use Prim.Native.Nat.{ℕ, zero, suc, ◌-◌, ◌≤◌}
use mathlib.Core.Path.{◌≡◌, refl, sym, ap, ◌∙◌, subst}
use mathlib.Core.Bool.{Bool, true, false, cond}
use mathlib.Core.List.{List}
use native.Mathlib.Omega.{arith}
use borrow.Author.Tests.{eqb-true, eqb-false, le-leb}
use lib.Dec.{eqb}
use lib.Ieee.{Float}
use lib.ListN.{length, drop, replicate}
use Rattle.numbers.specs.Outcome.{Outcome, refused, gave, bind, unless}
use Rattle.numbers.proofs.Given.{gave_same, never_given, bind_given}
use Rattle.packing.specs.Packing.{words_of, fields_of}
use Rattle.packing.specs.Alike.{Stored}
use Rattle.packing.proofs.ReadStored.{read_stored}
use Rattle.fields.specs.declared.held.Fields.{Fields}
use Rattle.fields.specs.Interpolant.{Interpolation}
use Rattle.fields.specs.Accept.{accept_of, opening}
use Rattle.fields.proofs.Facts.{accepted}
use Rattle.exchange.specs.Exchange.{exchanged}
use Rattle.exchange.specs.Job.{failed, Held, held, standing_by, agrees, job_for}
use Rattle.exchange.specs.Step.{ready_for, settled, stepped_by, step_of}
use Rattle.exchange.specs.Design.{Design, design_for}
use Rattle.exchange.proofs.StepFacts.{exchange_leaves, job_by}
use Rattle.image.specs.Image.{words_in, layout, image_for}
use Rattle.bank.specs.Sizes.{Sizes, all_zero, slot_of}
use Rattle.bank.specs.Slot.{slot_words, held_in, is_job, Loaded, empty, broken, holds, load_of}
use Rattle.bank.specs.Calls.{Call, open', step, read, save, restore, clear, open_for, restored, restore_for, placing, step_held, reading, save_by, saving, on_loaded, on_slot, room}
use Rattle.bank.specs.Bank.{gate_of, passed, bank_call}
use Rattle.bank.proofs.Laws.{inside, slot_of-length}
use Rattle.bank.proofs.Isolation.{call_mine, call_other}
use Rattle.bank.proofs.Loading.{holding, job_agrees}
use Rattle.bank.proofs.LoadedAgain.{fields_padded, loads_back, job_of, packed_loads}
use Rattle.bank.proofs.Refusals.{Ready, ready, step_going, step_accepted, step_range}

-- words that are an empty slot or a job
abbrev pub EmptyOrJob : List ℕ → Type 0
EmptyOrJob ws = load_of ws ≡ broken → ⊥

held_whole : {l : Loaded} {j : Held} → l ≡ holds j → l ≡ broken → ⊥
held_whole e b = let z : ◌≡◌ {A = ℕ} 0 1 = cc in omega arith

empty_whole : {l : Loaded} → l ≡ empty → l ≡ broken → ⊥
empty_whole e b = let z : ◌≡◌ {A = ℕ} 0 1 = cc in omega arith

-- ---- a cleared slot is empty
all-zeros : (n : ℕ) → all_zero (replicate n 0) ≡ true
unfolding all_zero
all-zeros zero = refl
all-zeros (suc n) = all-zeros n

zeros_empty : (n : ℕ) → load_of (replicate n 0) ≡ empty
unfolding load_of
zeros_empty n = ap (λ b. cond b empty (cond (is_job (replicate n 0)) (holds (held_in (replicate n 0))) broken)) (all-zeros n)

-- ---- a job that stands as its fields say
by_fields : (f : Fields) (i : Interpolation) (n : ℕ) → 139 ≤ n → Stored f → accept_of f ≡ gave i → EmptyOrJob (slot_words n (held f (standing_by f)))
by_fields f i n wide stored e =
    held_whole (packed_loads f (standing_by f) i n wide stored e (job_agrees (held f (standing_by f)) i (job_by f i e)))

placing-whole :
    (call : Call) (ws : List ℕ) (o : Outcome Held) → ((j : Held) → o ≡ gave j → EmptyOrJob (slot_words (length ws) j)) → EmptyOrJob ws → EmptyOrJob (placing call ws o).slot
placing-whole call ws (refused n) h s = s
placing-whole call ws (gave j) h s = h j refl

reading-whole : (ws : List ℕ) (t f : List Float) (o : Outcome Design) → EmptyOrJob ws → EmptyOrJob (reading ws t f o).slot
reading-whole ws t f (refused n) s = s
reading-whole ws t f (gave d) s = s

saving-whole : (ws out : List ℕ) (o : Outcome (List ℕ)) → EmptyOrJob ws → EmptyOrJob (saving ws out o).slot
saving-whole ws out (refused n) s = s
saving-whole ws out (gave b) s = s

-- ---- a step
module _ (ws : List ℕ) (wide : 139 ≤ length ws) (j : Held) (loaded : load_of ws ≡ holds j) where
  -- the fields of a loaded job are those that its words give again
  pub fields_again : fields_of (words_of j.fields) ≡ j.fields
  unfolding slot_words
  fields_again =
      let k = holding ws j loaded in
      sym (fields_padded (words_of j.fields) (length ws - 139)) ∙ ap (λ l. fields_of (drop 2 l)) k.words ∙ ap (λ (h : Held). h.fields) k.is

  failed_whole : (i : Interpolation) → Ready j i → (n : ℕ) → (9 ≤ n) × (n ≤ 13) → EmptyOrJob (slot_words (length ws) (held j.fields (failed n)))
  failed_whole i r n b =
      let a : agrees j.fields (failed n) ≡ true = rw (step_going ws j loaded i r, le-leb 9 n b.0, le-leb n 13 b.1) in
      held_whole
      (loads_back j.fields (failed n) (length ws) wide i
      (ap (λ f. job_for (held f (failed n))) fields_again ∙ job_of j.fields (failed n) i (step_accepted ws j loaded i r) a)
      (ap words_of fields_again))

  exchanged_whole :
      (i : Interpolation) → Ready j i → (o : Outcome Fields) → exchanged j.fields i ≡ o → Stored (settled j o).job.fields
      → EmptyOrJob (slot_words (length ws) (settled j o).job)
  exchanged_whole i r (refused n) e stored = failed_whole i r n (step_range ws j loaded i r n e)
  exchanged_whole i r (gave f) e stored =
      let k = accepted j.fields i (holding ws j loaded).room (step_accepted ws j loaded i r) in
      let l = exchange_leaves j.fields i.places.x i.weights i.abscissas k.points_most f e in
      by_fields f l.interpolation (length ws) wide stored l.accepted

  stepped_whole :
      (words : ℕ) (o : Outcome Interpolation) → ready_for j words ≡ o → Stored (stepped_by j o).job.fields → EmptyOrJob (slot_words (length ws) (stepped_by j o).job)
  stepped_whole words (refused n) e stored = held_whole (ap load_of (holding ws j loaded).words ∙ loaded)
  stepped_whole words (gave i) e stored = exchanged_whole i (ready j words i e) (exchanged j.fields i) refl stored

  step_whole : (words : ℕ) → Stored (step_of j words).job.fields → EmptyOrJob (step_held words j ws).slot
  unfolding step_of
  step_whole words stored = stepped_whole words (ready_for j words) refl stored

-- ---- what a call would put into its slot holds numbers of binary64
abbrev pub Storable : Sizes → Call → Loaded → Type 0
Storable σ (open' r) l = Stored (opening r)
Storable σ step empty = Unit {0}
Storable σ step broken = Unit {0}
Storable σ step (holds j) = Stored (step_of j σ.scratch).job.fields
Storable σ (read t f) l = Unit {0}
Storable σ (save out) l = Unit {0}
Storable σ (restore s) l = Unit {0}
Storable σ clear l = Unit {0}

-- what is read from an image does so whatever its bytes
abbrev FieldsStored : Outcome Fields → Type 0
FieldsStored (refused n) = Unit {0}
FieldsStored (gave f) = Stored f

image_stored : (b : List ℕ) → FieldsStored (image_for b)
unfolding image_for
image_stored b = go (layout b)
  where
    go : (t : Bool) → FieldsStored (unless t 14 (gave (fields_of (words_in b))))
    go true = read_stored (words_in b)
    go false = tt

restored-whole : (n : ℕ) → 139 ≤ n → (o : Outcome Fields) → FieldsStored o → (j : Held) → bind o restored ≡ gave j → EmptyOrJob (slot_words n j)
restored-whole n wide (refused m) stored j e = absurd (never_given e)
restored-whole n wide (gave f) stored j e =
    let a = bind_given (accept_of f) (λ _. gave (held f (standing_by f))) e in
    let z : held f (standing_by f) ≡ j = gave_same a.rest in
    subst (λ (h : Held). EmptyOrJob (slot_words n h)) z (by_fields f a.value n wide stored a.given)

loaded_settled : (σ : Sizes) (call : Call) (l : Loaded) (ws : List ℕ) → 139 ≤ length ws → load_of ws ≡ l → Storable σ call l → EmptyOrJob ws → EmptyOrJob (on_loaded σ call l ws).slot
loaded_settled σ (open' r) empty ws wide e stored s = placing-whole (open' r) ws (open_for r) (λ j q. restored-whole (length ws) wide (gave (opening r)) stored j q) s
loaded_settled σ (open' r) broken ws wide e stored s = s
loaded_settled σ (open' r) (holds j) ws wide e stored s = s
loaded_settled σ step empty ws wide e stored s = s
loaded_settled σ step broken ws wide e stored s = s
loaded_settled σ step (holds j) ws wide e stored s = step_whole ws wide j e σ.scratch stored
loaded_settled σ (read t f) empty ws wide e stored s = s
loaded_settled σ (read t f) broken ws wide e stored s = s
loaded_settled σ (read t f) (holds j) ws wide e stored s = reading-whole ws t f (design_for j (length t) (length f)) s
loaded_settled σ (save out) empty ws wide e stored s = s
loaded_settled σ (save out) broken ws wide e stored s = s
loaded_settled σ (save out) (holds j) ws wide e stored s = saving-whole ws out (save_by j.standing j.fields) s
loaded_settled σ (restore b) empty ws wide e stored s = placing-whole (restore b) ws (restore_for b) (restored-whole (length ws) wide (image_for b) (image_stored b)) s
loaded_settled σ (restore b) broken ws wide e stored s = s
loaded_settled σ (restore b) (holds j) ws wide e stored s = s
loaded_settled σ clear l ws wide e stored s = empty_whole (zeros_empty (length ws))

pub slot_settled : (σ : Sizes) (call : Call) (ws : List ℕ) → 139 ≤ length ws → Storable σ call (load_of ws) → EmptyOrJob ws → EmptyOrJob (on_slot σ call ws).slot
unfolding on_slot
slot_settled σ call ws wide stored s = loaded_settled σ call (load_of ws) ws wide refl stored s

-- ---- on a bank
module _ (σ : Sizes) (wide : 139 ≤ σ.slot) (call : Call) (slot : ℕ) (bank scratch : List ℕ) (stored : Storable σ call (load_of (slot_of σ bank slot))) where
  abbrev G : ℕ
  G = gate_of σ (length bank) (length scratch) slot (room σ call)

  by_gate : (g : ℕ) → G ≡ g → EmptyOrJob (slot_of σ bank slot) → EmptyOrJob (passed σ g call (slot_of σ bank slot)).slot
  unfolding passed
  by_gate zero e s =
      let l = slot_of-length σ bank slot (inside σ (length bank) (length scratch) slot (room σ call) e).part in
      slot_settled σ call (slot_of σ bank slot) (omega (arith, l, wide)) stored s
  by_gate (suc n) e s = s

  abbrev after : ℕ → List ℕ
  after i = slot_of σ (bank_call σ call slot bank scratch).bank i

  turn : (i : ℕ) (b : Bool) → eqb slot i ≡ b → EmptyOrJob (slot_of σ bank slot) → EmptyOrJob (slot_of σ bank i) → EmptyOrJob (after i)
  turn i true q s t =
      let e : slot ≡ i = eqb-true slot i q in
      subst (λ (k : ℕ). EmptyOrJob (after k)) e (subst EmptyOrJob (sym (call_mine σ wide call slot bank scratch slot refl)) (by_gate G refl s))
  turn i false q s t = subst EmptyOrJob (sym (call_other σ wide call slot bank scratch i (eqb-false slot i q))) t

  pub bank_settled : ((i : ℕ) → EmptyOrJob (slot_of σ bank i)) → (i : ℕ) → EmptyOrJob (after i)
  bank_settled h i = turn i (eqb slot i) refl (h slot) (h i)
