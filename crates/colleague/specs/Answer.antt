-- The leaf: from the derivative's coefficients to the balanced matrix and the pass count.
use Rattle.std.specs.Prelude.{ℕ, ◌-◌, ◌&&◌, cond, List, leb, eqb, length, Float}
use Rattle.numbers.specs.Floats.{all_finite}
use Rattle.numbers.specs.Outcome.{Outcome, gave, bind, unless}
use Rattle.colleague.specs.declared.Colleague.{Colleague}
use Rattle.colleague.specs.Matrix.{Matrix, zeros, entries_finite}
use Rattle.colleague.specs.Built.{without_zeros, built_of}
use Rattle.colleague.specs.Balance.{balanced_of}

abbrev pub most_coefficients : ℕ
most_coefficients = 16

abbrev pub shown : Matrix → ℕ → ℕ → Colleague
shown a s passes = record { rows = a; size = s; passes = passes }

-- no rows
abbrev pub no_rows : Colleague
no_rows = shown zeros 0 0

-- s by s of s + 1 coefficients: 9 for an entry that is not finite, before balancing and after
abbrev pub balanced_for : List Float → ℕ → Outcome Colleague
balanced_for c s =
    unless (entries_finite (built_of c s)) 9
    (bind (balanced_of (built_of c s) s) (λ b. unless (entries_finite b.matrix) 9 (gave (shown b.matrix s b.passes))))

-- 15 for no coefficients or more than 16, 9 for one that is not finite, 10 when all are zero; one nonzero coefficient gives no rows
unfoldable pub colleague_for : List Float → Outcome Colleague
colleague_for c =
    let n = without_zeros c (length c) in
    unless (leb 1 (length c) && leb (length c) most_coefficients) 15
    (unless (all_finite c) 9 (unless (leb 1 n) 10 (cond (eqb n 1) (gave no_rows) (balanced_for c (n - 1)))))
