-- Sine and cosine of a reduced angle, from -PI / 4 to PI / 4, by their series at 0. With z = r * r and w = z * z the terms of
-- even and of odd place are summed apart, each from the last inwards.
use Rattle.std.specs.Prelude.{Float}
use Rattle.std.specs.Float.{binary64}
use Rattle.std.specs.Float.Ieee.{of_bits}
use Rattle.numbers.specs.Floats.{one64}
use Rattle.numbers.specs.Operations.{◌⊕◌, ◌⊖◌, ◌⊗◌}
use Rattle.angles.specs.Constants.{half}

-- a + w * (b + w * (c + w * d)), and the same of three
abbrev pub cubic : Float → Float → Float → Float → Float → Float
cubic w a b c d = a ⊕ w ⊗ (b ⊕ w ⊗ (c ⊕ w ⊗ d))

abbrev pub square : Float → Float → Float → Float → Float
square w a b c = a ⊕ w ⊗ (b ⊕ w ⊗ c)

-- r - r^3 / 3! + r^5 / 5! - .. + r^17 / 17!; of places even: 1 / 5!, 1 / 9!, 1 / 13!, 1 / 17!; odd: 1 / 3!, 1 / 7!, 1 / 11!, 1 / 15!
unfoldable pub sine_part : Float → Float
sine_part r =
    let z = r ⊗ r in
    let w = z ⊗ z in
    let even = cubic w (of_bits binary64 0x3f81_1111_1111_1111) (of_bits binary64 0x3ec7_1de3_a556_c734) (of_bits binary64 0x3de6_1246_13a8_6d09) (of_bits binary64 0x3ce9_52c7_7030_ad4a) in
    let odd = cubic w (of_bits binary64 0x3fc5_5555_5555_5555) (of_bits binary64 0x3f2a_01a0_1a01_a01a) (of_bits binary64 0x3e5a_e645_67f5_44e4) (of_bits binary64 0x3d6a_e7f3_e733_b81f) in
    r ⊕ r ⊗ (z ⊗ (z ⊗ even ⊖ odd))

-- 1 - r^2 / 2! + r^4 / 4! - .. + r^16 / 16!; of places even: 1 / 4!, 1 / 8!, 1 / 12!, 1 / 16!; odd: 1 / 6!, 1 / 10!, 1 / 14!
unfoldable pub cosine_part : Float → Float
cosine_part r =
    let z = r ⊗ r in
    let w = z ⊗ z in
    let even = cubic w (of_bits binary64 0x3fa5_5555_5555_5555) (of_bits binary64 0x3efa_01a0_1a01_a01a) (of_bits binary64 0x3e21_eed8_eff8_d898) (of_bits binary64 0x3d2a_e7f3_e733_b81f) in
    let odd = square w (of_bits binary64 0x3f56_c16c_16c1_6c17) (of_bits binary64 0x3e92_7e4f_b778_9f5c) (of_bits binary64 0x3da9_3974_a8c0_7c9d) in
    one64 ⊖ (half ⊗ z ⊖ w ⊗ (even ⊖ z ⊗ odd))
