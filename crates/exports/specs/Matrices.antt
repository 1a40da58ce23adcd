-- A matrix as C hands it over and is given it: its entries row by row.
use Rattle.std.specs.Prelude.{ℕ, ◌+◌, ◌*◌, ◌/◌, ◌%◌, ◌&&◌, cond, List, [], ◌∷◌, leb, ltb, eqb, length, get_or, Float}
use Rattle.std.specs.Float.{nan}
use Rattle.numbers.specs.Floats.{zero64}
use Rattle.numbers.specs.Loops.{until, tab}
use Rattle.numbers.specs.Outcome.{Outcome, gave, bind, unless}
use Rattle.colleague.specs.declared.Colleague.{Colleague}
use Rattle.colleague.specs.Answer.{colleague_for}
use Rattle.roots.specs.Answer.{roots_for}
use Rattle.exports.specs.Answers.{Told, told}
use Rattle.exports.specs.Plans.{number_at}

-- how many rows a square matrix of n entries has: up to 15, else 16, which is refused as too many
abbrev pub side_of : ℕ → ℕ
side_of n = until (λ s. eqb n (s * s)) (λ s. s) (λ s u. u) (λ u. 16) 16 0 (tt {0})

-- entry (i, j) of the s by s entries l, zero beyond them
abbrev pub entry_from : List Float → ℕ → ℕ → ℕ → Float
entry_from l s i j = cond (ltb j s) (number_at l (i * s + j)) zero64

abbrev pub row_from : List Float → ℕ → ℕ → List Float
row_from l s i = tab (entry_from l s i) 15 0

unfoldable pub matrix_of : List Float → Colleague
matrix_of l =
    let s = side_of (length l) in
    record { rows = tab (row_from l s) 15 0; size = s; passes = 0 }

-- entry (i, j) of a matrix, and entry k, counted row by row
abbrev pub entry_of : Colleague → ℕ → ℕ → Float
entry_of m i j = get_or (get_or m.rows i []) j nan

abbrev pub entry_at : Colleague → ℕ → Float
entry_at m k = entry_of m (k / m.size) (k % m.size)

-- its rows and passes, and its entries
abbrev pub unrolled : Colleague → Told
unrolled m = told (m.size ∷ m.passes ∷ []) (tab (entry_at m) (m.size * m.size) 0)

-- 15 for outputs without room for two counts and for 15 rows of 15
unfoldable pub balanced_matrix_for : List Float → ℕ → ℕ → Outcome Told
balanced_matrix_for c counts room =
    unless (leb 2 counts && leb 225 room) 15 (bind (colleague_for c) (λ m. gave (unrolled m)))

-- the roots and their number: 15 for an output without room for one count
unfoldable pub roots_of : List Float → ℕ → ℕ → Outcome Told
roots_of l counts room =
    unless (leb 1 counts) 15 (bind (roots_for (matrix_of l) room) (λ r. gave (told (length r ∷ []) r)))
