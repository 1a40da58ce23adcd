-- Dividing by a power of two is multiplying by its reciprocal, whatever is divided. Assumes nothing.
use Prim.Native.Nat.{ℕ, zero, suc, ◌+◌, ◌-◌, ◌*◌, ◌/◌, ◌%◌, ◌<◌, ◌≤◌}
use mathlib.Core.Path.{◌≡◌, refl, sym, ap, ◌∙◌}
use mathlib.Core.Bool.{Bool, false, not}
use mathlib.Core.List.{List}
use native.Mathlib.Omega.{arith}
use native.Mathlib.Nat.{one-mul, mul_comm}
use native.Mathlib.Decide.{dec_lt}
use borrow.Author.Tests.{lt-leb, le-leb, ne_eqb}
use lib.Dec.{T}
use lib.IntN.{ℤ, pos, negsuc, neg_ℤ}
use lib.ListN.{get_or, length, set}
use lib.Seq.{get_or-set_other, get_or-set_same}
use lib.Ieee.{Float, nan, inf, fin, Format, binary64, up, down, minus, mul, div, odd, of_fields, of_bits, is_nan, fits}
use lib.Count.{count_trailing_zeros}
use Rattle.numbers.specs.Operations.{◌⊗◌, ◌⊘◌}
use Rattle.numbers.specs.Words.{of_word, to_word}
use Rattle.numbers.proofs.WordLaws.{back, number_word}
use Rattle.colleague.specs.Matrix.{Matrix, at}
use Rattle.roots.specs.Reciprocals.{Reciprocal, Reciprocals}

up_neg : (d : ℤ) → up (neg_ℤ d) ≡ down d
up_neg (pos zero) = refl
up_neg (pos (suc k)) = refl
up_neg (negsuc k) = refl

down_neg : (d : ℤ) → down (neg_ℤ d) ≡ up d
down_neg (pos zero) = refl
down_neg (pos (suc k)) = refl
down_neg (negsuc k) = refl

-- nothing is asked of x, nor of the exponent: both round the same number
div_power : (f : Format) (x : Float) (t : Bool) (d : ℤ) → div f x (fin t 1 d) ≡ mul f x (fin t 1 (neg_ℤ d))
unfolding div mul
div_power f nan t d = refl
div_power f (inf s) t d = refl
div_power f (fin s m e) t d = rw (up_neg, down_neg, one-mul, one-mul, mul_comm (up d) (down e))

-- l - a is the negative of b - l where a + b is 2 l
neg_minus : (a b l : ℕ) → a + b ≡ l + l → neg_ℤ (minus a l) ≡ minus b l
neg_minus a b l h = pick (dec_lt a l) (dec_lt l a)
  where
    pick : Dec (a < l) → Dec (l < a) → neg_ℤ (minus a l) ≡ minus b l
    pick (yes p) q =
        let r : l ≤ b = omega arith in
        let z : suc (l - suc a) ≡ b - l = omega arith in
        rw (lt-leb l a p, le-leb l b r) (ap pos z)
    pick (no p) (yes q) =
        let r : l ≤ a = omega arith in
        let w : b < l = omega arith in
        let z : a - l ≡ suc (l - suc b) = omega arith in
        rw (le-leb l a r, lt-leb l b w, z) refl
    pick (no p) (no q) =
        let r : a ≡ l = omega arith in
        let w : b ≡ l = omega arith in
        let y : l ≤ l = omega arith in
        let z : l - l ≡ 0 = omega arith in
        rw (r, w, le-leb l l y, z) refl

-- the number whose word has the exponent's field e and nothing else
power_bits : (e : ℕ) → 1 ≤ e → e ≤ 2045 → of_bits binary64 (e * 0x0010_0000_0000_0000) ≡ fin false 1 (minus (e + 51) 1074)
unfolding of_bits of_fields odd count_trailing_zeros
power_bits zero l h = absurd (omega arith)
power_bits (suc e) l h =
    let n : suc e * 0x0010_0000_0000_0000 < 0x8000_0000_0000_0000 = omega arith in
    let b : suc e * 0x0010_0000_0000_0000 % 0x8000_0000_0000_0000 / 0x0010_0000_0000_0000 ≡ suc e = omega arith in
    let c : suc e * 0x0010_0000_0000_0000 % 0x0010_0000_0000_0000 ≡ 0 = omega arith in
    let z : e + 52 ≡ suc e + 51 = omega arith in
    rw (lt-leb 0x8000_0000_0000_0000 (suc e * 0x0010_0000_0000_0000) n, b, c, ne_eqb (suc e) 2047 (λ q. inside q))
    (ap (λ i. fin false 1 (minus i 1074)) z)
  where
    inside : suc e ≡ 2047 → ⊥
    inside q = omega arith

-- a number whose word is that is no NaN, and reads back
power_number : (x : Float) (e : ℕ) → 1 ≤ e → to_word x ≡ e * 0x0010_0000_0000_0000 → T (not (is_nan x))
unfolding to_word is_nan
power_number nan e l h = absurd (let z : 0 ≡ e * 0x0010_0000_0000_0000 = h in omega arith)
power_number (inf s) e l h = tt
power_number (fin s m d) e l h = tt

word_bits : (e : ℕ) → 1 ≤ e → e ≤ 2045 → of_word (e * 0x0010_0000_0000_0000) ≡ fin false 1 (minus (e + 51) 1074)
word_bits e l h =
    let b : e * 0x0010_0000_0000_0000 % 0x8000_0000_0000_0000 ≤ 0x7ff0_0000_0000_0000 = omega arith in
    sym (number_word (e * 0x0010_0000_0000_0000) b) ∙ power_bits e l h

power_same : (x : Float) (e : ℕ) → T (fits binary64 x) → 1 ≤ e → e ≤ 2045 → to_word x ≡ e * 0x0010_0000_0000_0000 → Reciprocal x (of_word ((2046 - e) * 0x0010_0000_0000_0000))
power_same x e f l h w =
    let is : x ≡ fin false 1 (minus (e + 51) 1074) = sym (back x f (power_number x e l w)) ∙ ap of_word w ∙ word_bits e l h in
    let inverse : of_word ((2046 - e) * 0x0010_0000_0000_0000) ≡ fin false 1 (minus (2046 - e + 51) 1074) = word_bits (2046 - e) (omega arith) (omega arith) in
    let z : e + 51 + (2046 - e + 51) ≡ 1074 + 1074 = omega arith in
    record {
      same = λ y. ap (λ t. y ⊘ t) is
          ∙ div_power binary64 y false (minus (e + 51) 1074)
          ∙ ap (λ d. y ⊗ fin false 1 d) (neg_minus (e + 51) (2046 - e + 51) 1074 z)
          ∙ ap (λ t. y ⊗ t) (sym inverse);
    }

-- by the tests of the code, of the number's word
pub reciprocal_is : (x : Float) (w : ℕ) → T (fits binary64 x) → w ≡ to_word x → w % 0x0010_0000_0000_0000 ≡ 0 → 1 ≤ w / 0x0010_0000_0000_0000 → w / 0x0010_0000_0000_0000 ≤ 2045
    → Reciprocal x (of_word ((2046 - w / 0x0010_0000_0000_0000) * 0x0010_0000_0000_0000))
reciprocal_is x w f e m l h =
    let z : w ≡ w / 0x0010_0000_0000_0000 * 0x0010_0000_0000_0000 = omega arith in
    power_same x (w / 0x0010_0000_0000_0000) f l h (sym e ∙ z)

-- ---- the first j of them
pub reciprocals_start : {a : Matrix} {v : List Float} → Reciprocals a (0 + 1) v
reciprocals_start = record { each = λ j h. absurd (none j h) }
  where
    none : (j : ℕ) → j < 0 + 1 - 1 → ⊥
    none j h = omega arith

module _ {a : Matrix} {j : ℕ} {v : List Float} (made : Reciprocals a (j + 1) v) where
  pub reciprocals_next : {r : Float} → j < length v → Reciprocal (at a j (j + 1)) r → Reciprocals a (j + 1 + 1) (set v j r)
  reciprocals_next {r} l h = record { each = λ i p. pick i p (dec_lt i j) }
    where
      other : {i : ℕ} → i < j → i ≡ j → ⊥
      other q e = omega arith

      pick : (i : ℕ) → i < j + 1 + 1 - 1 → Dec (i < j) → Reciprocal (at a i (i + 1)) (get_or (set v j r) i nan)
      pick i p (yes q) =
          let o : i < j + 1 - 1 = omega arith in
          rw (get_or-set_other v j i r nan (other q)) (made.each i o)
      pick i p (no q) = let z : i ≡ j = omega arith in rw (z, get_or-set_same v j r nan l) h

  pub reciprocals_end : {s : ℕ} → s - 1 ≤ j → Reciprocals a s v
  reciprocals_end {s} h = record { each = λ i p. made.each i (below i p) }
    where
      below : (i : ℕ) → i < s - 1 → i < j + 1 - 1
      below i p = omega arith
