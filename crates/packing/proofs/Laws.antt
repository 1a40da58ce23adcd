-- How the words are read and written: a NaN's pattern, the count of the points held, and the three parts of the words. Assumes nothing.
use Prim.Native.Nat.{ℕ, ◌+◌, ◌/◌, ◌%◌, ◌<◌, ◌≤◌}
use mathlib.Core.Path.{◌≡◌, refl, sym, ◌∙◌}
use mathlib.Core.Bool.{Bool, true, false, cond}
use mathlib.Core.List.{List, ◌++◌, append-nil, append_assoc}
use native.Mathlib.Omega.{arith}
use borrow.Author.Tests.{lt-ltb}
use lib.ListN.{length, take, drop, drop_of_length-le, length-append, length-drop}
use lib.Seq.{take_at, drop_at}
use lib.Ieee.{Float, nan, inf, fin, binary64, of_bits, is_nan}
use lib.Ieee.Bits.{nan_bits_is, nan_bits_above}
use Rattle.bands.specs.declared.Symmetry.{Symmetry}
use Rattle.bands.specs.declared.Symmetry.TheVariants.{Even, Odd}
use Rattle.fir_types.specs.Kinds.{is_odd, functions}

the_nan : (x : Float) → is_nan x ≡ true → nan ≡ x
unfolding is_nan
the_nan nan e = refl
the_nan (inf s) e = absurd (let z : ◌≡◌ {A = ℕ} 0 1 = cc in omega arith)
the_nan (fin s m x) e = absurd (let z : ◌≡◌ {A = ℕ} 0 1 = cc in omega arith)

-- there is one NaN: every pattern of one reads as it
pub nan_bits : (w : ℕ) → 0x7ff0_0000_0000_0000 < w % 0x8000_0000_0000_0000 → nan ≡ of_bits binary64 w
nan_bits w h = the_nan (of_bits binary64 w) (sym (nan_bits_is binary64 w) ∙ nan_bits_above binary64 w ∙ lt-ltb _ _ h)

-- no more functions than half the taps and one
pub functions-few : (taps : ℕ) (s : Symmetry) → functions taps s ≤ taps / 2 + 1
functions-few taps Even = go (is_odd taps)
  where
    go : (odd : Bool) → cond odd (taps / 2 + 1) (taps / 2) ≤ taps / 2 + 1
    go true = omega arith
    go false = omega arith
functions-few taps Odd = omega arith

-- ---- three parts that are written one after the other fill the words
module _ (w a b : List ℕ) (long : length w ≡ 137) (na : length a ≡ 8) (nb : length b ≡ 64) where
  abbrev one : List ℕ
  one = a ++ drop 8 w

  abbrev two : List ℕ
  two = take 8 one ++ (b ++ drop 64 (drop 8 one))

  two_is : two ≡ (a ++ b) ++ drop 64 (drop 8 w)
  two_is = rw (take_at a (drop 8 w) 8 na, drop_at a (drop 8 w) 8 na, append_assoc)

  ab : length (a ++ b) ≡ 72
  ab = simp length-append (omega arith)

  pub two_length : length two ≡ 137
  two_length = rw two_is (simp (length-append, length-drop) (omega arith))

  pub three_parts : (d : List ℕ) → length d ≡ 65 → take 72 two ++ (d ++ drop 65 (drop 72 two)) ≡ a ++ (b ++ d)
  three_parts d nd =
      let z : length (drop 64 (drop 8 w)) ≤ 65 = simp length-drop (omega arith) in
      rw (two_is, take_at (a ++ b) (drop 64 (drop 8 w)) 72 ab, drop_at (a ++ b) (drop 64 (drop 8 w)) 72 ab, drop_of_length-le (drop 64 (drop 8 w)) {i = 65} z, append-nil, append_assoc)
