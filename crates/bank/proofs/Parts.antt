-- A slot of a bank after words were put into a slot. Assumes nothing.
use mathlib.Core.Path.{◌≡◌, refl, sym, ap, ◌∙◌}
use mathlib.Core.List.{List, ◌++◌, append_assoc}
use Prim.Native.Nat.{ℕ, ◌+◌, ◌*◌, ◌-◌, ◌≤◌, ◌<◌}
use native.Mathlib.Omega.{arith}
use native.Mathlib.Nat.{mul-le-mul_right, add-mul, one-mul}
use mathlib.Core.Bool.{Bool, true, false}
use lib.Dec.{ltb}
use borrow.Author.Tests.{ltb-true, ltb-false}
use lib.ListN.{length, take, drop, length-append, length-drop, take-append-drop}
use lib.Seq.{length-take-le, take_at, drop_at, drop-append-le, take-append-le, drop-append-add, drop-drop}
use Rattle.bank.specs.Sizes.{Sizes, slot_of, put_slot}

-- a slot that is before another ends where it begins, or before
pub ends_before : (i j n : ℕ) → i < j → i * n + n ≤ j * n
ends_before i j n h =
    let k : (i + 1) * n ≤ j * n = mul-le-mul_right n (let m : i + 1 ≤ j = omega arith in m) in
    let e : (i + 1) * n ≡ i * n + n = add-mul i 1 n ∙ ap (λ (x : ℕ). i * n + x) (one-mul n) in
    omega arith

module _ (σ : Sizes) (bank : List ℕ) (j : ℕ) (ws : List ℕ) (fits : j * σ.slot + σ.slot ≤ length bank) (full : length ws ≡ σ.slot) where
  head : length (take (j * σ.slot) bank) ≡ j * σ.slot
  head = length-take-le (j * σ.slot) bank (omega arith)

  pub put_length : length (put_slot σ bank j ws) ≡ length bank
  unfolding put_slot
  put_length = simp (length-append, length-drop) (omega (arith, head))

  pub put_same : slot_of σ (put_slot σ bank j ws) j ≡ ws
  unfolding put_slot slot_of
  put_same =
      let rest = drop σ.slot (drop (j * σ.slot) bank) in
      ap (take σ.slot) (drop_at (take (j * σ.slot) bank) (ws ++ rest) (j * σ.slot) head) ∙ take_at ws rest σ.slot full

  -- a slot before it: a part of the front, which both share
  front : (i : ℕ) (r : List ℕ) → i < j → take σ.slot (drop (i * σ.slot) (take (j * σ.slot) bank ++ r)) ≡ take σ.slot (drop (i * σ.slot) (take (j * σ.slot) bank))
  front i r h =
      let l = ends_before i j σ.slot h in
      let a = take (j * σ.slot) bank in
      ap (take σ.slot) (drop-append-le (i * σ.slot) a r (omega (arith, head)))
      ∙ take-append-le σ.slot (drop (i * σ.slot) a) r (simp length-drop (omega (arith, head)))

  before : (i : ℕ) → i < j → slot_of σ (put_slot σ bank j ws) i ≡ slot_of σ bank i
  unfolding put_slot slot_of
  before i h =
      front i _ h ∙ sym (front i (drop (j * σ.slot) bank) h) ∙ ap (λ (l : List ℕ). take σ.slot (drop (i * σ.slot) l)) (take-append-drop (j * σ.slot) bank)

  -- the words behind it are those behind it in the bank
  pub put_beyond : (n : ℕ) → j * σ.slot + σ.slot ≤ n → drop n (put_slot σ bank j ws) ≡ drop n bank
  unfolding put_slot
  put_beyond n h =
      let a = take (j * σ.slot) bank in
      let rest = drop σ.slot (drop (j * σ.slot) bank) in
      let d = n - (j * σ.slot + σ.slot) in
      let len : length (a ++ ws) + d ≡ n = simp length-append (omega (arith, head)) in
      let far : j * σ.slot + (σ.slot + d) ≡ n = omega arith in
      ap (drop n) (sym (append_assoc a ws rest))
      ∙ ap (λ (k : ℕ). drop k (a ++ ws ++ rest)) (sym len)
      ∙ drop-append-add (a ++ ws) rest d
      ∙ drop-drop d σ.slot (drop (j * σ.slot) bank)
      ∙ drop-drop (σ.slot + d) (j * σ.slot) bank
      ∙ ap (λ (k : ℕ). drop k bank) far

  -- a slot after it: a part of what is behind
  after : (i : ℕ) → j < i → slot_of σ (put_slot σ bank j ws) i ≡ slot_of σ bank i
  unfolding slot_of
  after i h = ap (take σ.slot) (put_beyond (i * σ.slot) (ends_before j i σ.slot h))

  pub put_other : (i : ℕ) → (j ≡ i → ⊥) → slot_of σ (put_slot σ bank j ws) i ≡ slot_of σ bank i
  put_other i h = go (ltb i j) refl
    where
      go : (b : Bool) → ltb i j ≡ b → slot_of σ (put_slot σ bank j ws) i ≡ slot_of σ bank i
      go true e = before i (ltb-true i j e)
      go false e = let l = ltb-false i j e in after i (omega arith)
