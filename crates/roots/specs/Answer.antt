-- The leaf: from the balanced matrix to its roots, the lower ends of the brackets.
use Rattle.std.specs.Prelude.{ℕ, ◌&&◌, cond, List, [], leb, eqb, length, Float}
use Rattle.numbers.specs.Floats.{all_finite}
use Rattle.numbers.specs.Outcome.{Outcome, gave, bind, unless}
use Rattle.colleague.specs.declared.Colleague.{Colleague}
use Rattle.colleague.specs.Matrix.{Matrix, entries_finite}
use Rattle.colleague.specs.Answer.{colleague_for}
use Rattle.roots.specs.declared.brackets.Bracket.{Bracket}
use Rattle.roots.specs.Brackets.{grid, found, low_ends}

abbrev pub rows_of : Colleague → Matrix
rows_of m = m.rows

-- all 65 residuals are worked out, whatever is yielded; 12 where one is not finite, or for more roots than rows
abbrev pub brackets_of : Matrix → ℕ → Outcome (List Bracket)
brackets_of a s =
    unless (all_finite (grid a s)) 12 (bind (found a s (grid a s) 64 0) (λ l. unless (leb (length l) s) 12 (gave l)))

-- 15 for more than 15 rows or too short an output; 9 for an entry that is not finite; a matrix of no rows has no roots
unfoldable pub roots_for : Colleague → ℕ → Outcome (List Float)
roots_for m room =
    unless (leb m.size 15 && leb m.size room) 15
    (unless (entries_finite (rows_of m)) 9
    (cond (eqb m.size 0) (gave []) (low_ends (brackets_of (rows_of m) m.size))))

-- the roots of a derivative, of its coefficients: 15, 9, 10 and 11 for its matrix, then 15 and 12
abbrev pub derivative_roots : List Float → ℕ → Outcome (List Float)
derivative_roots c room = bind (colleague_for c) (λ m. roots_for m room)
