-- Matrices as lists of rows: 15 rows of 15, of which the first s by s are worked with and the others are zero.
use Rattle.std.specs.Prelude.{ℕ, Bool, List, [], get_or, set, replicate, Float}
use Rattle.std.specs.Float.{nan}
use Rattle.numbers.specs.Floats.{zero64, all_finite}
use Rattle.numbers.specs.Loops.{every}

abbrev pub Matrix : Type 0
Matrix = List (List Float)

-- entry (i, j), and the matrix with it replaced
abbrev pub at : Matrix → ℕ → ℕ → Float
at a i j = get_or (get_or a i []) j nan

abbrev pub put : Matrix → ℕ → ℕ → Float → Matrix
put a i j v = set a i (set (get_or a i []) j v)

abbrev pub zeros : Matrix
zeros = replicate 15 (replicate 15 zero64)

-- every entry is finite
abbrev pub entries_finite : Matrix → Bool
entries_finite a = every (λ i. all_finite (get_or a i [])) 15
