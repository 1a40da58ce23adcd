-- What is written for a number reads back as the number, what is read can always be written, and the highest bit is the sign.
-- Assumes nothing.
use Prim.Native.Nat.{ℕ, zero, suc, ◌+◌, ◌<◌, ◌≤◌, ◌%◌}
use native.Mathlib.Omega.{arith}
use borrow.Author.Tests.{lt-ltb, le-ltb}
use mathlib.Core.Path.{◌≡◌, refl, sym, ◌∙◌, subst}
use mathlib.Core.Bool.{Bool, true, false, cond, not}
use lib.Dec.{T, ltb}
use lib.IntN.{ℤ}
use lib.Ieee.{Float, nan, inf, fin, binary64, of_bits, to_bits, nan_bits, is_nan, fits, ne}
use lib.Ieee.Bits.{of_bits-to_bits, to_bits-lt, of_bits-fits, nan_bits_is, nan_bits_above, is_false}
use lib.Ieee.Compare.{differs_from_itself}
use Rattle.numbers.specs.Floats.{sign}
use Rattle.numbers.specs.Words.{of_word, to_word}

pub back : (x : Float) → T (fits binary64 x) → T (not (is_nan x)) → of_word (to_word x) ≡ x
unfolding of_word to_word
back x f n =
    let e : is_nan x ≡ false = is_false (is_nan x) n in
    rw (e, nan_bits_is binary64 (to_bits binary64 x), of_bits-to_bits binary64 x f, e)

pub number_fits : (w : ℕ) → T (fits binary64 (of_word w))
unfolding of_word
number_fits w = pick (nan_bits binary64 w)
  where
    pick : (t : Bool) → T (fits binary64 (cond t (of_bits binary64 0) (of_bits binary64 w)))
    pick true = of_bits-fits binary64 0
    pick false = of_bits-fits binary64 w

pub number_is_no_nan : (w : ℕ) → is_nan (of_word w) ≡ false
unfolding of_word is_nan of_bits
number_is_no_nan w = pick (nan_bits binary64 w) (nan_bits_is binary64 w)
  where
    pick : (t : Bool) → t ≡ is_nan (of_bits binary64 w) → is_nan (cond t (of_bits binary64 0) (of_bits binary64 w)) ≡ false
    pick true e = refl
    pick false e = sym e

not-false : (t : Bool) → t ≡ false → T (not t)
not-false true e = let z : true ≡ false = e in subst (λ (b : Bool). T b) e tt
not-false false e = tt

-- reading, writing and reading again is reading
pub again : (w : ℕ) → of_word (to_word (of_word w)) ≡ of_word w
again w = back (of_word w) (number_fits w) (not-false _ (number_is_no_nan w))

-- the tests of the code
none_other : (y : Float) → ne y y ≡ false → is_nan y ≡ false
unfolding ne is_nan
none_other nan e = e
none_other (inf s) e = refl
none_other (fin s m x) e = refl

pub no_nan : (x : Float) → ne x x ≡ false → T (not (is_nan x))
no_nan x e = not-false _ (none_other x e)

pub word_of_nan : (x : Float) → ne x x ≡ true → 0 ≡ to_word x
unfolding to_word is_nan
word_of_nan x e = rw (differs_from_itself x (subst (λ (b : Bool). T b) (sym e) tt))

pub word_of_number : (x : Float) → ne x x ≡ false → to_bits binary64 x ≡ to_word x
unfolding to_word
word_of_number x e = rw (none_other x e)

module _ (w : ℕ) where
  pub nan_word : 0x7ff0_0000_0000_0000 < w % 0x8000_0000_0000_0000 → of_bits binary64 0 ≡ of_word w
  unfolding of_word
  nan_word h = rw (nan_bits_above binary64 w, lt-ltb _ _ h)

  plain : w % 0x8000_0000_0000_0000 ≤ 0x7ff0_0000_0000_0000 → nan_bits binary64 w ≡ false
  plain h = nan_bits_above binary64 w ∙ le-ltb _ _ h

  pub no_nan_word : w % 0x8000_0000_0000_0000 ≤ 0x7ff0_0000_0000_0000 → T (not (nan_bits binary64 w))
  no_nan_word h = not-false _ (plain h)

  pub number_word : w % 0x8000_0000_0000_0000 ≤ 0x7ff0_0000_0000_0000 → of_bits binary64 w ≡ of_word w
  unfolding of_word
  number_word h = rw (plain h)

-- ---- the sign is added to the word without it
signed : (m : ℕ) (e : ℤ) → to_bits binary64 (fin true m e) ≡ 0x8000_0000_0000_0000 + to_bits binary64 (fin false m e)
unfolding to_bits
signed m e = omega arith

fits_signed : (s : Bool) (m : ℕ) (e : ℤ) → T (fits binary64 (fin s m e)) → T (fits binary64 (fin true m e))
unfolding fits
fits_signed s zero e h = h
fits_signed s (suc m) e h = h

-- so it is the highest bit
pub sign_word : (x : Float) → T (fits binary64 x) → ltb (to_word x) 0x8000_0000_0000_0000 ≡ not (sign x)
unfolding to_word is_nan sign to_bits
sign_word nan h = refl
sign_word (inf true) h = refl
sign_word (inf false) h = refl
sign_word (fin true m e) h = le-ltb (to_bits binary64 (fin true m e)) 0x8000_0000_0000_0000 (omega (arith, signed m e))
sign_word (fin false m e) h =
    lt-ltb (to_bits binary64 (fin false m e)) 0x8000_0000_0000_0000 (omega (arith, signed m e, to_bits-lt binary64 (fin true m e) (fits_signed false m e h)))
