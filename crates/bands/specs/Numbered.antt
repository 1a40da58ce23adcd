-- What numbers stand for: a symmetry, 0 even and any other odd, and back; a value's kind, 0 constant and any other linear.
use Rattle.std.specs.Prelude.{ℕ, cond, eqb, Float}
use Rattle.bands.specs.declared.Symmetry.{Symmetry}
use Rattle.bands.specs.declared.Symmetry.TheVariants as symmetry
use Rattle.bands.specs.declared.Value.{Value}
use Rattle.bands.specs.declared.Value.TheVariants.{Constant, Linear}

abbrev pub symmetry_of : ℕ → Symmetry
symmetry_of n = cond (eqb n 0) symmetry.Even symmetry.Odd

abbrev pub symmetry_word : Symmetry → ℕ
symmetry_word symmetry.Even = 0
symmetry_word symmetry.Odd = 1

-- a constant takes the first of its two numbers
abbrev pub value_of : ℕ → Float → Float → Value
value_of kind a b = cond (eqb kind 0) (Constant a) (Linear a b)
