-- What an answer tells C is the number of its outcome. Assumes nothing.
use Rattle.std.specs.Prelude.{Result, Ok, Err}
use Rattle.numbers.specs.declared.Refusal.{Refusal}
use Prim.Native.Nat.{ℕ}
use mathlib.Core.Path.{◌≡◌, ◌∙◌}
use mathlib.Core.List.{List}
use Rattle.numbers.specs.Outcome.{Outcome}
use Rattle.numbers.specs.Refusals.{verdict_of, Filled}
use Rattle.exports.specs.Answers.{number_of, said, Numbered}

pub said_is : {A : Type 0} {o : Outcome A} (v : Result Unit Refusal) (a : A) → verdict_of v a ≡ o → said v ≡ number_of o
said_is (Ok tt) a e = rw (← e)
said_is (Err q) a e = rw (← e)

-- ---- a leaf that writes a list
pub numbered : {A : Type 0} {o : Outcome (List A)} {n r : ℕ} {v : Result Unit Refusal} {w w' : List A} → r ≡ said v → Filled o n v w w' → Numbered o r w w'
numbered {A} {o} {n} {r} {v} {w} {w'} e f = record { is = e ∙ said_is v _ f.is; out = f.out }
