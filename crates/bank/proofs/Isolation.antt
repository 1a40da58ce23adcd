-- A job's run is its own: what a run of calls on a bank leaves in slot i, and shows of the calls on slot i, is what the calls on slot i
-- give on that slot's words alone. Assumes nothing.
use Prim.Native.Nat.{ℕ, zero, suc, ◌+◌, ◌*◌, ◌≤◌}
use mathlib.Core.Path.{◌≡◌, refl, sym, ◌∙◌, subst}
use mathlib.Core.Bool.{Bool, true, false}
use mathlib.Core.List.{List, [], ◌∷◌}
use native.Mathlib.Omega.{arith}
use borrow.Author.Tests.{eqb-true, eqb-false}
use lib.Dec.{eqb}
use lib.ListN.{length}
use Rattle.bank.specs.Sizes.{Sizes, slot_of}
use Rattle.bank.specs.Calls.{Call, room, on_slot}
use Rattle.bank.specs.Bank.{gate_of, passed, placed, bank_call}
use Rattle.bank.specs.Runs.{Event, Shown, Own, bank_after, shown_at, shown_of, own, slot_call, slot_after, slot_shows}
use Rattle.bank.proofs.Parts.{put_length, put_same, put_other}
use Rattle.bank.proofs.Laws.{inside, slot_of-length, slot_whole}

-- ---- one call, by what its gate answers

module _ (σ : Sizes) (wide : 139 ≤ σ.slot) (call : Call) (j : ℕ) (bank scratch : List ℕ) where
  abbrev G : ℕ
  G = gate_of σ (length bank) (length scratch) j (room σ call)

  abbrev after : ℕ → List ℕ
  after g = placed σ g bank j (passed σ g call (slot_of σ bank j)).slot

  room_in : G ≡ 0 → j * σ.slot + σ.slot ≤ length bank
  room_in e = let k = inside σ (length bank) (length scratch) j (room σ call) e in omega arith

  full : G ≡ 0 → length (on_slot σ call (slot_of σ bank j)).slot ≡ σ.slot
  full e = let l = slot_of-length σ bank j (room_in e) in slot_whole σ call (slot_of σ bank j) (omega (arith, l, wide)) ∙ l

  length_after : (g : ℕ) → G ≡ g → length (after g) ≡ length bank
  unfolding placed passed
  length_after zero e = put_length σ bank j _ (room_in e) (full e)
  length_after (suc n) e = refl

  same_after : (g : ℕ) → G ≡ g → slot_of σ (after g) j ≡ (passed σ g call (slot_of σ bank j)).slot
  unfolding placed passed
  same_after zero e = put_same σ bank j _ (room_in e) (full e)
  same_after (suc n) e = refl

  other_after : (g i : ℕ) → G ≡ g → (j ≡ i → ⊥) → slot_of σ (after g) i ≡ slot_of σ bank i
  unfolding placed passed
  other_after zero i e h = put_other σ bank j _ (room_in e) (full e) i h
  other_after (suc n) i e h = refl

  abbrev bank' : List ℕ
  bank' = (bank_call σ call j bank scratch).bank

  pub call_length : length bank' ≡ length bank
  unfolding bank_call
  call_length = length_after G refl

  call_same : slot_of σ bank' j ≡ (slot_call σ (length bank) j (record { spare = length scratch; call = call }) (slot_of σ bank j)).slot
  unfolding bank_call
  call_same = same_after G refl

  pub call_other : (i : ℕ) → (j ≡ i → ⊥) → slot_of σ bank' i ≡ slot_of σ bank i
  unfolding bank_call
  call_other i h = other_after G i refl h

  abbrev mine : Own
  mine = record { spare = length scratch; call = call }

  pub call_mine : (i : ℕ) → j ≡ i → slot_of σ bank' i ≡ (slot_call σ (length bank) i mine (slot_of σ bank i)).slot
  call_mine i h = subst (λ (k : ℕ). slot_of σ bank' k ≡ (slot_call σ (length bank) k mine (slot_of σ bank k)).slot) h call_same

  abbrev shows : ℕ → Shown
  shows i =
      let r = slot_call σ (length bank) i mine (slot_of σ bank i) in
      record { told = r.told; taps = r.taps; freqs = r.freqs; bytes = r.bytes }

  shown_same : shown_of (bank_call σ call j bank scratch) ≡ shows j
  unfolding bank_call
  shown_same = refl

  shown_mine : (i : ℕ) → j ≡ i → shown_of (bank_call σ call j bank scratch) ≡ shows i
  shown_mine i h = subst (λ (k : ℕ). shown_of (bank_call σ call j bank scratch) ≡ shows k) h shown_same

-- ---- a run

module _ (σ : Sizes) (wide : 139 ≤ σ.slot) (i : ℕ) (e : Event) (es : List Event) (bank : List ℕ) where
  abbrev next : List ℕ
  next = (bank_call σ e.call e.slot bank e.scratch).bank

  words_turn : (b : Bool) → eqb e.slot i ≡ b → slot_of σ (bank_after σ next es) i ≡ slot_after σ (length next) i (slot_of σ next i) (own i es)
      → slot_of σ (bank_after σ bank (e ∷ es)) i ≡ slot_after σ (length bank) i (slot_of σ bank i) (own i (e ∷ es))
  unfolding bank_after slot_after own
  words_turn true q h =
      h ∙ rw (q, call_length σ wide e.call e.slot bank e.scratch, call_mine σ wide e.call e.slot bank e.scratch i (eqb-true e.slot i q))
  words_turn false q h =
      h ∙ rw (q, call_length σ wide e.call e.slot bank e.scratch, call_other σ wide e.call e.slot bank e.scratch i (eqb-false e.slot i q))

  shown_turn : (b : Bool) → eqb e.slot i ≡ b → shown_at σ i next es ≡ slot_shows σ (length next) i (slot_of σ next i) (own i es)
      → shown_at σ i bank (e ∷ es) ≡ slot_shows σ (length bank) i (slot_of σ bank i) (own i (e ∷ es))
  unfolding shown_at slot_shows own
  shown_turn true q h =
      rw (
        q,
        h,
        call_length σ wide e.call e.slot bank e.scratch,
        call_mine σ wide e.call e.slot bank e.scratch i (eqb-true e.slot i q),
        shown_mine σ wide e.call e.slot bank e.scratch i (eqb-true e.slot i q),
      )
  shown_turn false q h =
      rw (q, h, call_length σ wide e.call e.slot bank e.scratch, call_other σ wide e.call e.slot bank e.scratch i (eqb-false e.slot i q))

-- slot i after a run is what its own calls make of its own words
pub words_own : (σ : Sizes) (wide : 139 ≤ σ.slot) (i : ℕ) (es : List Event) (bank : List ℕ) → slot_of σ (bank_after σ bank es) i ≡ slot_after σ (length bank) i (slot_of σ bank i) (own i es)
unfolding bank_after slot_after own
words_own σ wide i [] bank = refl
words_own σ wide i (e ∷ es) bank = words_turn σ wide i e es bank (eqb e.slot i) refl (words_own σ wide i es (next σ wide i e es bank))

-- what a run shows of the calls on slot i is what those calls give on its own words
pub shown-own : (σ : Sizes) (wide : 139 ≤ σ.slot) (i : ℕ) (es : List Event) (bank : List ℕ) → shown_at σ i bank es ≡ slot_shows σ (length bank) i (slot_of σ bank i) (own i es)
unfolding shown_at slot_shows own
shown-own σ wide i [] bank = refl
shown-own σ wide i (e ∷ es) bank = shown_turn σ wide i e es bank (eqb e.slot i) refl (shown-own σ wide i es (next σ wide i e es bank))

-- ---- isolation: two banks of one length that agree in slot i, and two runs with the same calls on slot i, whatever else they hold

pub record Alike (σ : Sizes) (i : ℕ) (a b : List ℕ) (es fs : List Event) : Type 0 where
  pub words : slot_of σ (bank_after σ a es) i ≡ slot_of σ (bank_after σ b fs) i
  pub shown : shown_at σ i a es ≡ shown_at σ i b fs

pub isolated : (σ : Sizes) (wide : 139 ≤ σ.slot) (i : ℕ) (a b : List ℕ) (es fs : List Event) → length a ≡ length b → slot_of σ a i ≡ slot_of σ b i → own i es ≡ own i fs → Alike σ i a b es fs
isolated σ wide i a b es fs l s o = record {
  words = words_own σ wide i es a ∙ rw (l, s, o) (sym (words_own σ wide i fs b));
  shown = shown-own σ wide i es a ∙ rw (l, s, o) (sym (shown-own σ wide i fs b));
}
