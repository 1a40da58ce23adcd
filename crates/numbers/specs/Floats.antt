-- The notions on numbers that the definitions share. Single operations and comparisons are IEEE 754's, as `lib.Ieee` has them.
use Rattle.std.specs.Prelude.{ℕ, ◌≡◌, Bool, true, false, ◌&&◌, cond, List, [], ◌∷◌, eqb, Float}
use Rattle.std.specs.Float.Ieee.Scale.{finite}
use Rattle.std.specs.Float.{nan, inf, fin, binary64}
use Rattle.std.specs.Float.Ieee.{lt, le, is_nan, of_bits}

-- the numbers 0.0 and 1.0, as a program writes them
abbrev pub zero64 : Float
zero64 = of_bits binary64 0

abbrev pub one64 : Float
one64 = of_bits binary64 0x3ff0_0000_0000_0000

-- the sign bit; a NaN has none
unfoldable pub sign : Float → Bool
sign nan = false
sign (inf s) = s
sign (fin s m e) = s

-- 0.0 and -0.0
abbrev pub is_zero : Float → Bool
is_zero nan = false
is_zero (inf s) = false
is_zero (fin s m e) = eqb m 0

-- the number with its sign cleared, that of -0.0 too
abbrev pub magnitude_of : Float → Float
magnitude_of nan = nan
magnitude_of (inf s) = inf false
magnitude_of (fin s m e) = fin false m e

-- from 2 ^ -1022 to the largest number, without the sign
unfoldable pub normal : Float → Bool
normal x =
    cond (le (of_bits binary64 0x0010_0000_0000_0000) (magnitude_of x)) (le (magnitude_of x) (of_bits binary64 0x7fef_ffff_ffff_ffff)) false

-- the smaller of two, the first on a tie
abbrev pub lesser : Float → Float → Float
lesser a b = cond (lt b a) b a

-- 1 for a number that is not finite
abbrev pub fault_of : Float → ℕ
fault_of x = cond (finite x) 0 1

unfoldable pub all_finite : List Float → Bool
all_finite [] = true
all_finite (x ∷ xs) = finite x && all_finite xs

-- brought into low to high: a number inside stays as it is, and a NaN goes to high
abbrev pub clamp : Float → Float → Float → Float
clamp low high x = cond (le x high) (cond (le low x) x low) high

-- a number from low to high: no NaN
pub record Inside (low high x : Float) : Type 0 where
  pub number : is_nan x ≡ false
  pub least : le low x ≡ true
  pub most : le x high ≡ true
