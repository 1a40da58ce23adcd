-- The taps of the coefficients a (equations 3 to 12 of McClellan, Parks and Rabiner, in the order and with the signs of the Rust):
-- the left side from the outside in, and its mirror image, negated for odd symmetry. -0.0 is told from 0.0.
use Rattle.std.specs.Prelude.{ℕ, ◌+◌, ◌-◌, ◌/◌, ◌≤◌, Bool, true, false, ◌&&◌, cond, List, leb, ltb, eqb, length, get_or, Float}
use Rattle.std.specs.Float.{nan, binary64}
use Rattle.std.specs.Float.Ieee.{of_bits, neg}
use Rattle.numbers.specs.Floats.{zero64, all_finite}
use Rattle.numbers.specs.Operations.{◌⊕◌, ◌⊖◌, ◌⊗◌}
use Rattle.numbers.specs.Loops.{tab}
use Rattle.numbers.specs.Outcome.{Outcome, unless, needed_list_of}
use Rattle.angles.specs.Constants.{half}
use Rattle.bands.specs.declared.Symmetry.{Symmetry}
use Rattle.bands.specs.declared.Symmetry.TheVariants.{Even, Odd}
use Rattle.fir_types.specs.Kinds.{functions, least_functions, is_odd, taps_in_range}

abbrev pub quarter : Float
quarter = of_bits binary64 0x3fd0_0000_0000_0000

abbrev pub entry : List Float → ℕ → Float
entry a i = get_or a i nan

-- tap j of the left side, j = 0 outermost; the two types with even taps join their coefficients by a sum and by a difference
abbrev pub even_taps_side : (Float → Float → Float) → List Float → ℕ → Float
even_taps_side by a j =
    let n = length a in
    cond (eqb j 0) (entry a (n - 1) ⊗ quarter)
    (cond (eqb j (n - 1)) (by (entry a 0 ⊗ half) (entry a 1 ⊗ quarter)) (quarter ⊗ by (entry a (n - 1 - j)) (entry a (n - j))))

abbrev pub even_side : List Float → ℕ → Float
even_side = even_taps_side (λ x y. x ⊕ y)

abbrev pub odd_side : List Float → ℕ → Float
odd_side = even_taps_side (λ x y. x ⊖ y)

abbrev pub odd_odd_side : List Float → ℕ → Float
odd_odd_side a j =
    let n = length a in
    cond (ltb j 2) (entry a (n - 1 - j) ⊗ quarter)
    (cond (eqb j (n - 1)) (entry a 0 ⊗ half ⊖ entry a 2 ⊗ quarter) (quarter ⊗ (entry a (n - 1 - j) ⊖ entry a (n + 1 - j))))

-- what the three have in common: coefficients m apart, joined by a sum or a difference; they are it where j is inside
abbrev pub joined_side : (Float → Float → Float) → ℕ → List Float → ℕ → Float
joined_side by m a j =
    let n = length a in
    cond (ltb j m) (entry a (n - 1 - j) ⊗ quarter)
    (cond (eqb j (n - 1)) (by (entry a 0 ⊗ half) (entry a m ⊗ quarter)) (quarter ⊗ by (entry a (n - 1 - j)) (entry a (n - 1 - j + m))))

abbrev pub side_tap : Symmetry → Bool → List Float → ℕ → Float
side_tap Even true a j = entry a (length a - 1 - j) ⊗ half
side_tap Even false a j = even_side a j
side_tap Odd true a j = odd_odd_side a j
side_tap Odd false a j = odd_side a j

-- the tap in the middle of an odd number
abbrev pub middle_tap : Symmetry → List Float → Float
middle_tap Even a = entry a 0
middle_tap Odd a = zero64

abbrev pub middle_of : ℕ → ℕ → Bool
middle_of taps i = is_odd taps && eqb i (taps / 2)

-- the mirror image of a tap
abbrev pub mirrored : Symmetry → Float → Float
mirrored Even t = t
mirrored Odd t = neg t

abbrev pub tap_at : Symmetry → ℕ → List Float → ℕ → Float
tap_at s taps a i =
    cond (ltb i (taps / 2)) (side_tap s (is_odd taps) a i)
    (cond (middle_of taps i) (middle_tap s a) (mirrored s (side_tap s (is_odd taps) a (taps - 1 - i))))

unfoldable pub taps_of : Symmetry → ℕ → List Float → List Float
taps_of s taps a = tab (tap_at s taps a) taps 0

-- as many coefficients as the taps have functions, and room for the taps
abbrev pub sized_for : ℕ → ℕ → Symmetry → ℕ → Bool
sized_for n taps s room = leb 1 n && leb n 64 && eqb n (functions taps s) && leb taps room

-- 15 where they are not, then 5 for taps out of range
unfoldable pub taps_for : List Float → ℕ → Symmetry → ℕ → Outcome (List Float)
taps_for a taps s room =
    unless (sized_for (length a) taps s room) 15 (unless (taps_in_range taps s) 5 (unless (all_finite a) 9 (needed_list_of (taps_of s taps a) room)))

-- what the private functions ask for: coefficients enough for every tap
pub record Fitting (s : Symmetry) (taps n : ℕ) : Type 0 where
  pub half : taps / 2 ≤ n
  pub least : least_functions s (is_odd taps) ≤ n
