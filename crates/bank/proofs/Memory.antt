-- What calls leave of bank and scratch, over any sizes: a bank, a scratch or an output below its size is refused with 1, and nothing is
-- touched; after every other call the scratch's words are zero; words beyond the sizes stay. Assumes nothing.
use Prim.Native.Nat.{ℕ, zero, suc, ◌*◌, ◌≤◌, ◌<◌}
use mathlib.Core.Path.{◌≡◌, refl, ap, ◌∙◌}
use mathlib.Core.Bool.{Bool, true, false, cond}
use mathlib.Core.List.{List}
use native.Mathlib.Omega.{arith}
use borrow.Author.Tests.{ltb-true, ltb-false, lt-ltb}
use lib.Dec.{ltb, leb}
use lib.ListN.{length, take, drop, replicate, length-append, length-drop, length-replicate}
use lib.Seq.{take_at, drop_at}
use mathlib.Core.Logic.{◌⊎◌, inl, inr}
use Rattle.bank.specs.Sizes.{Sizes, wiped, slot_of}
use Rattle.bank.specs.Calls.{Call, plainly, taps_of, freqs_of, bytes_of, on_slot, room}
use Rattle.bank.specs.Bank.{gate_of, passed, placed, cleaned, Done, ended, bank_call}
use Rattle.bank.proofs.Parts.{put_beyond}
use Rattle.bank.proofs.Laws.{inside, slot_of-length, slot_whole}
use Rattle.bank.proofs.Isolation.{call_length}

-- ---- the gate's 1: exactly where the bank, the scratch or an output is below its size
abbrev pub Short : Sizes → Call → List ℕ → List ℕ → Type 0
Short σ call bank scratch = (length bank < σ.slots * σ.slot) ⊎ ((length scratch < σ.scratch) ⊎ (room σ call ≡ false))

one_gate : (a b r d : Bool) → (a ≡ true) ⊎ ((b ≡ true) ⊎ (r ≡ false)) → cond {A = ℕ} a 1 (cond b 1 (cond r (cond d 2 0) 1)) ≡ 1
one_gate true b r d h = refl
one_gate false true r d h = refl
one_gate false false false d h = refl
one_gate false false true d (inl e) = absurd (let z : ◌≡◌ {A = ℕ} 0 1 = cc in omega arith)
one_gate false false true d (inr (inl e)) = absurd (let z : ◌≡◌ {A = ℕ} 0 1 = cc in omega arith)
one_gate false false true d (inr (inr e)) = absurd (let z : ◌≡◌ {A = ℕ} 0 1 = cc in omega arith)

gate_one : (a b r d : Bool) → cond {A = ℕ} a 1 (cond b 1 (cond r (cond d 2 0) 1)) ≡ 1 → (a ≡ true) ⊎ ((b ≡ true) ⊎ (r ≡ false))
gate_one true b r d e = inl refl
gate_one false true r d e = inr (inl refl)
gate_one false false false d e = inr (inr refl)
gate_one false false true true e = absurd (let z : ◌≡◌ {A = ℕ} 2 1 = e in omega arith)
gate_one false false true false e = absurd (let z : ◌≡◌ {A = ℕ} 0 1 = e in omega arith)

-- ---- the scratch
wiped_zero : (n : ℕ) (l : List ℕ) → take n (wiped n l) ≡ replicate n 0
unfolding wiped
wiped_zero n l = take_at (replicate n 0) (drop n l) n (length-replicate n 0)

wiped_beyond : (n : ℕ) (l : List ℕ) → drop n (wiped n l) ≡ drop n l
unfolding wiped
wiped_beyond n l = drop_at (replicate n 0) (drop n l) n (length-replicate n 0)

wiped-length : (n : ℕ) (l : List ℕ) → n ≤ length l → length (wiped n l) ≡ length l
unfolding wiped
wiped-length n l h =
    let a = length-append (replicate n 0) (drop n l) in
    let b = length-replicate {A = ℕ} n 0 in
    let c = length-drop n l in
    omega arith

cleaned_zero : (σ : Sizes) (g : ℕ) (l : List ℕ) → (g ≡ 1 → ⊥) → take σ.scratch (cleaned σ g l) ≡ replicate σ.scratch 0
unfolding cleaned
cleaned_zero σ zero l h = wiped_zero σ.scratch l
cleaned_zero σ (suc zero) l h = absurd (h refl)
cleaned_zero σ (suc (suc n)) l h = wiped_zero σ.scratch l

cleaned_beyond : (σ : Sizes) (g : ℕ) (l : List ℕ) → drop σ.scratch (cleaned σ g l) ≡ drop σ.scratch l
unfolding cleaned
cleaned_beyond σ zero l = wiped_beyond σ.scratch l
cleaned_beyond σ (suc zero) l = refl
cleaned_beyond σ (suc (suc n)) l = wiped_beyond σ.scratch l

cleaned-length : (σ : Sizes) (g : ℕ) (l : List ℕ) → ((g ≡ 1 → ⊥) → σ.scratch ≤ length l) → length (cleaned σ g l) ≡ length l
unfolding cleaned
cleaned-length σ zero l h = wiped-length σ.scratch l (h (λ e. let z : ◌≡◌ {A = ℕ} 0 1 = e in omega arith))
cleaned-length σ (suc zero) l h = refl
cleaned-length σ (suc (suc n)) l h = wiped-length σ.scratch l (h (λ e. let z : suc (suc n) ≡ 1 = e in omega arith))

-- number 1, and all as it was
pub record Untouched (call : Call) (bank scratch : List ℕ) (d : Done) : Type 0 where
  pub told : d.told ≡ plainly 1
  pub bank_is : d.bank ≡ bank
  pub scratch_is : d.scratch ≡ scratch
  pub taps : d.taps ≡ taps_of call
  pub freqs : d.freqs ≡ freqs_of call
  pub bytes : d.bytes ≡ bytes_of call

module _ (σ : Sizes) (call : Call) (slot : ℕ) (bank scratch : List ℕ) where
  abbrev G : ℕ
  G = gate_of σ (length bank) (length scratch) slot (room σ call)

  abbrev d : Done
  d = bank_call σ call slot bank scratch

  abbrev result : ℕ → Done
  result g = ended σ g (passed σ g call (slot_of σ bank slot)) slot bank scratch

  untouched_one : (g : ℕ) → g ≡ 1 → Untouched call bank scratch (result g)
  unfolding passed placed cleaned
  untouched_one zero e = absurd (let z : ◌≡◌ {A = ℕ} 0 1 = e in omega arith)
  untouched_one (suc zero) e = record { told = refl; bank_is = refl; scratch_is = refl; taps = refl; freqs = refl; bytes = refl }
  untouched_one (suc (suc n)) e = absurd (let z : suc (suc n) ≡ 1 = e in omega arith)

  pub short_gate : Short σ call bank scratch → G ≡ 1
  unfolding gate_of
  short_gate s = one_gate (ltb (length bank) (σ.slots * σ.slot)) (ltb (length scratch) σ.scratch) (room σ call) (leb σ.slots slot) (tests s)
    where
      tests : Short σ call bank scratch → (ltb (length bank) (σ.slots * σ.slot) ≡ true) ⊎ ((ltb (length scratch) σ.scratch ≡ true) ⊎ (room σ call ≡ false))
      tests (inl h) = inl (lt-ltb (length bank) (σ.slots * σ.slot) h)
      tests (inr (inl h)) = inr (inl (lt-ltb (length scratch) σ.scratch h))
      tests (inr (inr h)) = inr (inr h)

  pub gate_short : G ≡ 1 → Short σ call bank scratch
  unfolding gate_of
  gate_short e = tests (gate_one (ltb (length bank) (σ.slots * σ.slot)) (ltb (length scratch) σ.scratch) (room σ call) (leb σ.slots slot) e)
    where
      tests : (ltb (length bank) (σ.slots * σ.slot) ≡ true) ⊎ ((ltb (length scratch) σ.scratch ≡ true) ⊎ (room σ call ≡ false)) → Short σ call bank scratch
      tests (inl h) = inl (ltb-true (length bank) (σ.slots * σ.slot) h)
      tests (inr (inl h)) = inr (inl (ltb-true (length scratch) σ.scratch h))
      tests (inr (inr h)) = inr (inr h)

  -- refusal 1 touches nothing
  pub short_untouched : Short σ call bank scratch → Untouched call bank scratch d
  unfolding bank_call
  short_untouched s = untouched_one G (short_gate s)

  -- a call that does not answer 1 has passed the first gate
  not_one : (d.told.number ≡ 1 → ⊥) → G ≡ 1 → ⊥
  unfolding bank_call
  not_one h e = h (ap (λ (t : _). t.number) (untouched_one G e).told)

  -- after every other call the first words of the scratch are zero
  pub scratch_zero : (d.told.number ≡ 1 → ⊥) → take σ.scratch d.scratch ≡ replicate σ.scratch 0
  unfolding bank_call
  scratch_zero h = cleaned_zero σ G scratch (not_one h)

  -- the words beyond them stay
  pub scratch_beyond : drop σ.scratch d.scratch ≡ drop σ.scratch scratch
  unfolding bank_call
  scratch_beyond = cleaned_beyond σ G scratch

  pub scratch_length : length d.scratch ≡ length scratch
  unfolding bank_call
  scratch_length = cleaned-length σ G scratch (λ h. enough (ltb (length scratch) σ.scratch) refl h)
    where
      enough : (b : Bool) → ltb (length scratch) σ.scratch ≡ b → (G ≡ 1 → ⊥) → σ.scratch ≤ length scratch
      enough true e h = absurd (h (short_gate (inr (inl (ltb-true (length scratch) σ.scratch e)))))
      enough false e h = ltb-false (length scratch) σ.scratch e

  module _ (wide : 139 ≤ σ.slot) where
    beyond_gate : (g : ℕ) → G ≡ g → drop (σ.slots * σ.slot) (result g).bank ≡ drop (σ.slots * σ.slot) bank
    unfolding placed passed
    beyond_gate zero e =
        let k = inside σ (length bank) (length scratch) slot (room σ call) e in
        let l = slot_of-length σ bank slot k.part in
        let w = slot_whole σ call (slot_of σ bank slot) (omega (arith, l, wide)) ∙ l in
        put_beyond σ bank slot (on_slot σ call (slot_of σ bank slot)).slot k.part w (σ.slots * σ.slot) k.last
    beyond_gate (suc n) e = refl

    -- so do the bank's beyond its slots
    pub bank_beyond : drop (σ.slots * σ.slot) d.bank ≡ drop (σ.slots * σ.slot) bank
    unfolding bank_call
    bank_beyond = beyond_gate G refl

    pub bank_length : length d.bank ≡ length bank
    bank_length = call_length σ wide call slot bank scratch
