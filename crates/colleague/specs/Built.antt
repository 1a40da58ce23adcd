-- The colleague matrix of the derivative's coefficients c, whose high zeros are removed; its eigenvalues are the derivative's roots.
use Rattle.std.specs.Prelude.{ℕ, zero, suc, ◌+◌, ◌-◌, Bool, true, false, cond, List, eqb, ltb, leb, get_or, set, replicate, Float}
use Rattle.std.specs.Float.{nan, binary64}
use Rattle.std.specs.Float.Ieee.{of_bits, eq, neg}
use Rattle.numbers.specs.Floats.{zero64}
use Rattle.numbers.specs.Loops.{run}
use Rattle.numbers.specs.Operations.{◌⊕◌, ◌⊗◌, ◌⊘◌}
use Rattle.colleague.specs.Matrix.{Matrix, zeros}

abbrev pub half : Float
half = of_bits binary64 0x3fe0_0000_0000_0000

-- how many of the first n coefficients are left when the zeros at the end are removed
unfoldable pub without_zeros : List Float → ℕ → ℕ
without_zeros c zero = 0
without_zeros c (suc n) = let m = without_zeros c n in cond (eq (get_or c n nan) zero64) m (suc n)

abbrev pub set_if : Bool → ℕ → Float → List Float → List Float
set_if true i v r = set r i v
set_if false i v r = r

-- the first column: c_(s-1-i) times (-1/2 over the leading one), plus 1/2 in row 1
abbrev pub first_of : List Float → ℕ → ℕ → Float
first_of c s i = let t = get_or c (s - 1 - i) nan ⊗ (neg half ⊘ get_or c s nan) in cond (eqb i 1) (t ⊕ half) t

-- row i: 1/2 right of the diagonal, and left of it from row 2 on
abbrev pub row_of : List Float → ℕ → ℕ → List Float
row_of c s i =
    set (set_if (leb 2 i) (i - 1) half (set_if (ltb (i + 1) s) (i + 1) half (replicate 15 zero64))) 0 (first_of c s i)

-- s by s, of s + 1 coefficients
unfoldable pub built_of : List Float → ℕ → Matrix
built_of c s = run (λ i a. set a i (row_of c s i)) s 0 zeros
