-- The four types of filter, by symmetry and an odd number of taps, and the constants that go with them.
use Rattle.std.specs.Prelude.{ℕ, ◌+◌, ◌/◌, ◌%◌, Bool, true, false, not, ◌&&◌, cond, leb, eqb, Float}
use Rattle.std.specs.Float.{binary64}
use Rattle.std.specs.Float.Ieee.{of_bits}
use Rattle.bands.specs.declared.Symmetry.{Symmetry}
use Rattle.bands.specs.declared.Symmetry.TheVariants.{Even, Odd}

abbrev pub tau : Float
tau = of_bits binary64 0x4019_21fb_5444_2d18

-- 1e-4
abbrev pub margin : Float
margin = of_bits binary64 0x3f1a_36e2_eb1c_432d

-- f = 0 is a singular point of odd symmetry; f = 0.5 of even symmetry with even taps and of odd symmetry with odd taps
abbrev pub singular_zero : Symmetry → Bool
singular_zero Even = false
singular_zero Odd = true

abbrev pub singular_nyquist : Symmetry → Bool → Bool
singular_nyquist Even odd = not odd
singular_nyquist Odd odd = odd

abbrev pub is_odd : ℕ → Bool
is_odd taps = eqb (taps % 2) 1

-- taps / 2, plus 1 for even symmetry with odd taps
abbrev pub functions : ℕ → Symmetry → ℕ
functions taps Even = cond (is_odd taps) (taps / 2 + 1) (taps / 2)
functions taps Odd = taps / 2

-- at least 3 (even symmetry, odd taps), 4 (even taps), 7 (odd symmetry, odd taps)
abbrev pub least_taps : ℕ → Symmetry → ℕ
least_taps taps Even = cond (is_odd taps) 3 4
least_taps taps Odd = cond (is_odd taps) 7 4

-- so at least 3 functions for odd symmetry with odd taps, and 2 for the others
abbrev pub least_functions : Symmetry → Bool → ℕ
least_functions Even odd = 2
least_functions Odd odd = cond odd 3 2

abbrev pub most_taps : ℕ
most_taps = 128

abbrev pub taps_in_range : ℕ → Symmetry → Bool
taps_in_range taps s = leb (least_taps taps s) taps && leb taps most_taps
