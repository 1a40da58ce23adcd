-- A running or finished job saved and restored has the same slot words (document 01): where a save answers 0, the bytes that it has
-- written, restored into any empty slot of the same length, of the same bank or of another, whatever its other words and its scratch hold,
-- leave there the very words that were saved, and the call answers 0. And a save of every running or finished job answers 0. Assumes
-- nothing.
use Prim.Native.Nat.{ℕ, zero, suc, ◌≤◌}
use mathlib.Core.Path.{◌≡◌, refl, sym, ap, ◌∙◌}
use mathlib.Core.Bool.{Bool, true, false, not, ◌&&◌, cond}
use mathlib.Core.List.{List}
use native.Mathlib.Omega.{arith}
use borrow.Author.Tests.{leb-true}
use lib.Dec.{leb}
use lib.ListN.{length, take, drop}
use lib.Seq.{take_at}
use Rattle.numbers.specs.Outcome.{gave, bind}
use Rattle.numbers.proofs.Order.{and_1, and_2}
use Rattle.packing.specs.Alike.{Stored}
use Rattle.packing.proofs.ReadStored.{read_stored}
use Rattle.fields.specs.declared.held.Fields.{Fields}
use Rattle.fields.specs.Accept.{finished}
use Rattle.exchange.specs.Job.{Standing, running, done, failed, Held, held, standing_by, agrees}
use Rattle.image.specs.Image.{image_of}
use Rattle.image.proofs.RoundTrip.{decoded}
use Rattle.bank.specs.Sizes.{Sizes, slot_of}
use Rattle.bank.specs.Slot.{slot_words, Loaded, empty, broken, holds, load_of}
use Rattle.bank.specs.Calls.{Call, save, restore, plainly, Result, gives, restored, restore_for, placing, save_by, saving, on_loaded, on_slot, room}
use Rattle.bank.specs.Bank.{gate_of, passed, Done, bank_call}
use Rattle.bank.proofs.Laws.{inside, slot_of-length}
use Rattle.bank.proofs.Isolation.{call_mine}
use Rattle.bank.proofs.Loading.{holding}
use Rattle.bank.proofs.Settled.{fields_again}

-- running or finished
abbrev pub Going : Standing → Type 0
Going running = Unit {0}
Going done = Unit {0}
Going (failed n) = ⊥

-- a state that agrees and is not failed is the one that the fields say
standing_by_lem : (f : Fields) (s : Standing) → Going s → agrees f s ≡ true → standing_by f ≡ s
standing_by_lem f running g e = go (finished f) e
  where
    go : (t : Bool) → not t ≡ true → cond t done running ≡ running
    go true e = absurd (let z : ◌≡◌ {A = ℕ} 0 1 = cc in omega arith)
    go false e = refl
standing_by_lem f done g e = rw e
standing_by_lem f (failed n) g e = absurd g

save_going : (s : Standing) (f : Fields) → Going s → save_by s f ≡ gave (image_of f)
save_going running f g = refl
save_going done f g = refl
save_going (failed n) f g = absurd g

-- ---- on a slot
-- the bytes that a call has written
abbrev pub written : Result → List ℕ
written o = take o.told.count o.bytes

module _ (σ : Sizes) (ws : List ℕ) (wide : 139 ≤ length ws) (j : Held) (loaded : load_of ws ≡ holds j) (going : Going j.standing) where
  abbrev image : List ℕ
  image = image_of j.fields

  pub save_gives : (out : List ℕ) → on_slot σ (save out) ws ≡ saving ws out (gave image)
  unfolding on_slot
  save_gives out = ap (λ l. on_loaded σ (save out) l ws) loaded ∙ ap (saving ws out) (save_going j.standing j.fields going)

  stored : Stored j.fields
  stored = let k = holding ws j loaded in rw (← ap (λ (h : Held). h.fields) k.is) (read_stored (drop 2 ws))

  image_gives : restore_for image ≡ gave j
  image_gives =
      let k = holding ws j loaded in
      let f = j.fields in
      ap (λ o. bind o restored) (decoded f k.interpolation stored k.accepted)
      ∙ ap restored (fields_again ws wide j loaded)
      ∙ ap (λ o. bind o (λ _. gave (held f (standing_by f)))) k.accepted
      ∙ ap (λ s. gave (held f s)) (standing_by_lem f j.standing going k.agreeing)

  restore_gives : (vs : List ℕ) → load_of vs ≡ empty → length vs ≡ length ws → on_slot σ (restore image) vs ≡ gives (restore image) 0 ws
  unfolding on_slot
  restore_gives vs e n =
      ap (λ l. on_loaded σ (restore image) l vs) e
      ∙ ap (placing (restore image) vs) image_gives
      ∙ ap (λ k. gives (restore image) 0 (slot_words k j)) n
      ∙ ap (gives (restore image) 0) (holding ws j loaded).words

  image_written : (out : List ℕ) → written (on_slot σ (save out) ws) ≡ image
  image_written out = ap written (save_gives out) ∙ take_at image (drop (length image) out) (length image) refl

  -- saved and restored: the same slot words
  pub slot_restored : (out vs : List ℕ) → load_of vs ≡ empty → length vs ≡ length ws
      → on_slot σ (restore (written (on_slot σ (save out) ws))) vs ≡ gives (restore (written (on_slot σ (save out) ws))) 0 ws
  slot_restored out vs e n = rw (image_written out) (restore_gives vs e n)

-- ---- a save that answers 0 found a running or finished job
pub record Saves (ws : List ℕ) : Type 0 where
  pub job : Held
  pub loaded : load_of ws ≡ holds job
  pub going : Going job.standing

saves_going : (s : Standing) (f : Fields) (ws out : List ℕ) → agrees f s ≡ true → (saving ws out (save_by s f)).told.number ≡ 0 → Going s
saves_going running f ws out a e = tt
saves_going done f ws out a e = tt
saves_going (failed n) f ws out a e =
    let k = leb-true 9 n (and_1 (leb 9 n) (leb n 13) (and_2 (not (finished f)) (leb 9 n && leb n 13) a)) in
    let z : n ≡ 0 = e in
    absurd (omega arith)

saves_loaded : (σ : Sizes) (ws out : List ℕ) (l : Loaded) → load_of ws ≡ l → (on_loaded σ (save out) l ws).told.number ≡ 0 → Saves ws
saves_loaded σ ws out empty q e = absurd (let z : ◌≡◌ {A = ℕ} 3 0 = e in omega arith)
saves_loaded σ ws out broken q e = absurd (let z : ◌≡◌ {A = ℕ} 4 0 = e in omega arith)
saves_loaded σ ws out (holds j) q e =
    record { job = j; loaded = q; going = saves_going j.standing j.fields ws out (holding ws j q).agreeing e }

pub saves : (σ : Sizes) (ws out : List ℕ) → (on_slot σ (save out) ws).told.number ≡ 0 → Saves ws
unfolding on_slot
saves σ ws out e = saves_loaded σ ws out (load_of ws) refl e

-- ---- on a bank
-- the bytes that a call on a bank has written
abbrev pub written_by : Done → List ℕ
written_by d = take d.told.count d.bytes

-- a call that answers 0 has come to its slot
module _ (σ : Sizes) (call : Call) (slot : ℕ) (bank scratch : List ℕ) where
  abbrev G : ℕ
  G = gate_of σ (length bank) (length scratch) slot (room σ call)

  through_gate : (g : ℕ) → (passed σ g call (slot_of σ bank slot)).told.number ≡ 0 → g ≡ 0
  unfolding passed
  through_gate zero e = refl
  through_gate (suc n) e = e

  pub through : (bank_call σ call slot bank scratch).told.number ≡ 0 → G ≡ 0
  unfolding bank_call
  through e = through_gate G e

  pub came : G ≡ 0 → (bank_call σ call slot bank scratch).told ≡ (on_slot σ call (slot_of σ bank slot)).told
  unfolding bank_call passed
  came e = ap (λ g. (passed σ g call (slot_of σ bank slot)).told) e

  pub came_bytes : G ≡ 0 → (bank_call σ call slot bank scratch).bytes ≡ (on_slot σ call (slot_of σ bank slot)).bytes
  unfolding bank_call passed
  came_bytes e = ap (λ g. (passed σ g call (slot_of σ bank slot)).bytes) e

  pub came_words : 139 ≤ σ.slot → G ≡ 0 → slot_of σ (bank_call σ call slot bank scratch).bank slot ≡ (on_slot σ call (slot_of σ bank slot)).slot
  unfolding passed
  came_words wide e = call_mine σ wide call slot bank scratch slot refl ∙ ap (λ g. (passed σ g call (slot_of σ bank slot)).slot) e

-- answered 0, and those words in the slot
pub record Again (σ : Sizes) (slot : ℕ) (ws : List ℕ) (d : Done) : Type 0 where
  pub told : d.told ≡ plainly 0
  pub words : slot_of σ d.bank slot ≡ ws

-- `bank` and `slot` are where the job was saved from, `bank'` and `slot'` where it is restored to
module _
    (σ : Sizes) (wide : 139 ≤ σ.slot) (out : List ℕ) (slot : ℕ) (bank scratch : List ℕ)
    (saved : (bank_call σ (save out) slot bank scratch).told.number ≡ 0) (slot' : ℕ) (bank' scratch' : List ℕ)
  where
    abbrev bytes : List ℕ
    bytes = written_by (bank_call σ (save out) slot bank scratch)

    abbrev from : List ℕ
    from = slot_of σ bank slot

    abbrev to : List ℕ
    to = slot_of σ bank' slot'

    gate_saved : gate_of σ (length bank) (length scratch) slot (room σ (save out)) ≡ 0
    gate_saved = through σ (save out) slot bank scratch saved

    bytes_are : bytes ≡ written (on_slot σ (save out) from)
    bytes_are = rw (came σ (save out) slot bank scratch gate_saved, came_bytes σ (save out) slot bank scratch gate_saved)

    -- the gate lets the restoring call through, and its slot is empty
    pub bank_restored : gate_of σ (length bank') (length scratch') slot' true ≡ 0 → load_of to ≡ empty → Again σ slot' from (bank_call σ (restore bytes) slot' bank' scratch')
    bank_restored gate e =
        let n : length from ≡ σ.slot = slot_of-length σ bank slot (inside σ (length bank) (length scratch) slot (room σ (save out)) gate_saved).part in
        let m : length to ≡ σ.slot = slot_of-length σ bank' slot' (inside σ (length bank') (length scratch') slot' true gate).part in
        let number = ap (λ t. t.number) (sym (came σ (save out) slot bank scratch gate_saved)) ∙ saved in
        let s = saves σ from out number in
        let back = slot_restored σ from (omega (arith, n, wide)) s.job s.loaded s.going out to e (m ∙ sym n) in
        let all : on_slot σ (restore bytes) to ≡ gives (restore bytes) 0 from = rw bytes_are back in
        record {
          told = came σ (restore bytes) slot' bank' scratch' gate ∙ ap (λ o. o.told) all;
          words = came_words σ (restore bytes) slot' bank' scratch' wide gate ∙ ap (λ o. o.slot) all;
        }
