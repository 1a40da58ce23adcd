-- Arccosine on -1 to 1 (document 01, item 1): outside, and for a NaN, refusal 9.
use Rattle.std.specs.Prelude.{Bool, cond, false, Float}
use Rattle.std.specs.Float.{binary64}
use Rattle.std.specs.Float.Ieee.{of_bits, le, neg}
use Rattle.numbers.specs.Floats.{zero64, one64, magnitude_of, clamp}
use Rattle.numbers.specs.Operations.{◌⊕◌, ◌⊖◌, ◌⊗◌}
use Rattle.numbers.specs.Outcome.{Outcome, gave, unless}
use Rattle.angles.specs.Constants.{pi, pi_tail, half_pi, half_pi_tail, half, two}
use Rattle.angles.specs.Root.{root_of}

-- (arcsine of s - s) / s^3 at z = s^2 from 0 to 1/4: the polynomial of degree 12 that agrees with it at the 13 Chebyshev points of
-- that interval. With w = z * z the terms of even and of odd degree are summed apart, each from the last inwards.
abbrev pub even_terms : Float → Float
even_terms w =
    of_bits binary64 0x3fc5_5555_5555_5556
    ⊕ w ⊗ (of_bits binary64 0x3fa6_db6d_b6e3_1f13
    ⊕ w ⊗ (of_bits binary64 0x3f96_e8bb_1c82_09a2
    ⊕ w ⊗ (of_bits binary64 0x3f8c_9cf0_7674_736a
    ⊕ w ⊗ (of_bits binary64 0x3f85_2420_b04b_37be
    ⊕ w ⊗ (of_bits binary64 0x3f91_d189_4083_14ee
    ⊕ w ⊗ of_bits binary64 0x3f9d_72b2_bc81_55f8)))))

abbrev pub odd_terms : Float → Float
odd_terms w =
    of_bits binary64 0x3fb3_3333_3333_2eca
    ⊕ w ⊗ (of_bits binary64 0x3f9f_1c71_c1db_0623
    ⊕ w ⊗ (of_bits binary64 0x3f91_c4d3_5cf9_5421
    ⊕ w ⊗ (of_bits binary64 0x3f87_8265_1caa_6547
    ⊕ w ⊗ (of_bits binary64 0x3f76_5a9c_4dfc_f8b2
    ⊖ w ⊗ of_bits binary64 0x3f8e_6aaa_8a0a_04cc))))

unfoldable pub arcsine_part : Float → Float
arcsine_part z = let w = z ⊗ z in even_terms w ⊕ z ⊗ odd_terms w

-- the arcsine of s, whose square is z: of 0 to 1/2
unfoldable pub arcsine : Float → Float → Float
arcsine s z = s ⊕ s ⊗ (z ⊗ arcsine_part z)

-- up to 1/2 by PI / 2 less the arcsine; beyond by twice the arcsine of the root of (1 - x) / 2, the sine of half the angle
unfoldable pub near_at : Float → Float
near_at x =
    let a = magnitude_of x in
    let t = arcsine a (a ⊗ a) in
    cond (le x zero64) (half_pi ⊕ (t ⊕ half_pi_tail)) (half_pi ⊖ (t ⊖ half_pi_tail))

unfoldable pub far_at : Float → Float
far_at x =
    let z = half ⊗ (one64 ⊖ magnitude_of x) in
    let t = arcsine (root_of z) z in
    cond (le x zero64) (pi ⊖ (two ⊗ t ⊖ pi_tail)) (two ⊗ t)

unfoldable pub in_unit : Float → Bool
in_unit x = cond (le (neg one64) x) (le x one64) false

unfoldable pub arccosine_at : Float → Float
arccosine_at x = cond (le (magnitude_of x) half) (near_at x) (far_at x)

-- what the last roundings might leave outside 0 to PI is brought back
unfoldable pub arccosine_of : Float → Outcome Float
arccosine_of x = unless (in_unit x) 9 (gave (clamp zero64 pi (arccosine_at x)))
