-- The same matrix left in a lent one of 15 rows of 15, whose rows are those of the answer; all zero where there is none.
use Rattle.std.specs.Prelude.{Result, Ok, Err}
use Rattle.numbers.specs.declared.Refusal.{Refusal}
use Rattle.std.specs.Prelude.{ℕ, ◌<◌, ◌≤◌, ◌≡◌, List, [], length, get_or, replicate, Float}
use Rattle.std.specs.Float.{nan}
use Rattle.std.specs.Float.Ieee.{neg}
use Rattle.numbers.specs.Floats.{zero64}
use Rattle.numbers.specs.Operations.{◌⊘◌}
use Rattle.numbers.specs.Outcome.{Outcome, refused, gave, bind}
use Rattle.numbers.specs.Refusals.{refusal_number}
use Rattle.colleague.specs.declared.Colleague.{Colleague}
use Rattle.colleague.specs.Matrix.{Matrix, zeros}
use Rattle.colleague.specs.Built.{half}
use Rattle.colleague.specs.Answer.{shown}

-- what the lent matrix is left with
abbrev pub left_by : Outcome Colleague → Matrix
left_by (refused n) = zeros
left_by (gave m) = m.rows

-- how many rows there are, as a count answers it
abbrev pub size_of : Result ℕ Refusal → Outcome ℕ
size_of (Ok n) = gave n
size_of (Err q) = refused (refusal_number q)

-- The contract of the leaf that answers how many rows the matrix has, of what is to be made and the lent matrix at exit.
pub record Lent (o : Outcome Colleague) (r : Result ℕ Refusal) (a' : Matrix) : Type 0 where
  pub is : size_of r ≡ bind o (λ m. gave m.size)
  pub out : a' ≡ left_by o

-- inside the crate, with the passes: what is made, of the answer and the matrix that is left
abbrev pub Held : Type 0
Held = Result (ℕ × ℕ) Refusal

abbrev pub held_of : Held → Matrix → Outcome Colleague
held_of (Ok h) a = gave (shown a h.0 h.1)
held_of (Err q) a = refused (refusal_number q)

pub record Made (o : Outcome Colleague) (r : Held) (a' : Matrix) : Type 0 where
  pub is : held_of r a' ≡ o
  pub out : a' ≡ left_by o

-- -1/2 over the leading coefficient
abbrev pub over_leading : List Float → ℕ → Float
over_leading c s = neg half ⊘ get_or c s nan

-- 15 rows, those from j on zero
pub record Blank (j : ℕ) (a : Matrix) : Type 0 where
  pub long : length a ≡ 15
  pub rest : (k : ℕ) → j ≤ k → k < 15 → get_or a k [] ≡ replicate 15 zero64
