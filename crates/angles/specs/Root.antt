-- The square root that the arccosine needs: of 0, and of 2^-54 to 1/4. The number is scaled by powers of four into 1/16 to
-- 1/4, where three of Heron's steps from a first guess are enough.
use Rattle.std.specs.Prelude.{cond, Float}
use Rattle.std.specs.Float.{binary64}
use Rattle.std.specs.Float.Ieee.{of_bits, lt, eq}
use Rattle.numbers.specs.Floats.{zero64, one64}
use Rattle.numbers.specs.Operations.{◌⊕◌, ◌⊖◌, ◌⊗◌, ◌⊘◌}
use Rattle.angles.specs.declared.root.Scaled.{Scaled}
use Rattle.angles.specs.Constants.{half, two}

-- a scaled number and what its root is multiplied by in the end
abbrev pub scaled : Float → Float → Scaled
scaled z u = record { square = z; unit = u }

-- below the bound, up by a power of four; the root goes down by the power of two
unfoldable pub raise : Float → Float → Float → Scaled → Scaled
raise bound up down s = cond (lt s.square bound) (scaled (s.square ⊗ up) (s.unit ⊗ down)) s

-- into 2^-10 to 2^-2: below 2^-28 by 2^26, below 2^-16 by 2^14, below 2^-10 by 2^8
unfoldable pub lift : Scaled → Scaled
lift s =
    cond (lt s.square (of_bits binary64 0x3f50_0000_0000_0000))
    (raise (of_bits binary64 0x3f50_0000_0000_0000) (of_bits binary64 0x4070_0000_0000_0000) (of_bits binary64 0x3fb0_0000_0000_0000)
    (raise (of_bits binary64 0x3ef0_0000_0000_0000) (of_bits binary64 0x40d0_0000_0000_0000) (of_bits binary64 0x3f80_0000_0000_0000)
    (raise (of_bits binary64 0x3e30_0000_0000_0000) (of_bits binary64 0x4190_0000_0000_0000) (of_bits binary64 0x3f20_0000_0000_0000) s)))
    s

-- into 2^-4 to 2^-2: below 2^-6 by 2^4, below 2^-4 by 2^2
unfoldable pub settle : Scaled → Scaled
settle s =
    cond (lt s.square (of_bits binary64 0x3fb0_0000_0000_0000))
    (raise (of_bits binary64 0x3fb0_0000_0000_0000) (of_bits binary64 0x4010_0000_0000_0000) (of_bits binary64 0x3fe0_0000_0000_0000)
    (raise (of_bits binary64 0x3f90_0000_0000_0000) (of_bits binary64 0x4030_0000_0000_0000) (of_bits binary64 0x3fd0_0000_0000_0000) s))
    s

-- 0.136 + z * (2 - 2.2 * z): within a hundredth of the root
abbrev pub guess : Float → Float
guess z = of_bits binary64 0x3fc1_6872_b020_c49c ⊕ z ⊗ (two ⊖ of_bits binary64 0x4001_9999_9999_999a ⊗ z)

unfoldable pub heron : Float → Float → Float
heron z y = half ⊗ (y ⊕ z ⊘ y)

unfoldable pub root_in : Scaled → Float
root_in s = heron s.square (heron s.square (heron s.square (guess s.square))) ⊗ s.unit

unfoldable pub root_of : Float → Float
root_of z = cond (eq z zero64) zero64 (root_in (settle (lift (scaled z one64))))
