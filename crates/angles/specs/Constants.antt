-- The numbers of the angle functions. PI and its half are written as a number and the tail that it lacks.
use Rattle.std.specs.Prelude.{Float}
use Rattle.std.specs.Float.{binary64}
use Rattle.std.specs.Float.Ieee.{of_bits}

abbrev pub pi : Float
pi = of_bits binary64 0x4009_21fb_5444_2d18

abbrev pub pi_tail : Float
pi_tail = of_bits binary64 0x3ca1_a626_3314_5c07

abbrev pub half_pi : Float
half_pi = of_bits binary64 0x3ff9_21fb_5444_2d18

abbrev pub half_pi_tail : Float
half_pi_tail = of_bits binary64 0x3c91_a626_3314_5c07

-- a quarter and three quarters of PI: an angle up to the first is its own reduced angle, up to the second it is taken from
-- PI / 2, and above from PI
abbrev pub quarter_pi : Float
quarter_pi = of_bits binary64 0x3fe9_21fb_5444_2d18

abbrev pub three_quarters_pi : Float
three_quarters_pi = of_bits binary64 0x4002_d97c_7f33_21d2

-- the largest angle taken
abbrev pub widest : Float
widest = of_bits binary64 0x400a_0000_0000_0000

abbrev pub half : Float
half = of_bits binary64 0x3fe0_0000_0000_0000

abbrev pub two : Float
two = of_bits binary64 0x4000_0000_0000_0000
