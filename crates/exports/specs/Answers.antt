-- What a caller in C is given.
use Rattle.std.specs.Prelude.{Result, Ok, Err}
use Rattle.numbers.specs.declared.Refusal.{Refusal}
use Rattle.std.specs.Prelude.{ℕ, ◌≡◌, List, [], ◌∷◌, leb, Float}
use Rattle.std.specs.Float.{nan}
use Rattle.numbers.specs.Outcome.{Outcome, refused, gave, bind, unless}
use Rattle.numbers.specs.Refusals.{refusal_number, front}

-- the number, or a NaN where the call is refused
abbrev pub or_nan : Outcome Float → Float
or_nan (refused n) = nan
or_nan (gave x) = x

-- 0 where something was given, else document 01's number of the refusal
abbrev pub number_of : {A : Type 0} → Outcome A → ℕ
number_of (refused n) = n
number_of (gave a) = 0

abbrev pub said : Result Unit Refusal → ℕ
said (Ok tt) = 0
said (Err q) = refusal_number q

-- a single number as a list, for an output of that room: refusal 15 where it has none
abbrev pub single : ℕ → Outcome Float → Outcome (List Float)
single room o = unless (leb 1 room) 15 (bind o (λ x. gave (x ∷ [])))

-- The contract of a function that writes to an output, w at entry and w' at exit: what it answers, and the numbers in front.
pub record Numbered {A : Type 0} (o : Outcome (List A)) (r : ℕ) (w w' : List A) : Type 0 where
  pub is : r ≡ number_of o
  pub out : w' ≡ front o w

-- numbers, and whole numbers that say how many there are or how they were come by
pub record Told : Type 0 where
  pub counts : List ℕ
  pub list : List Float

abbrev pub told : List ℕ → List Float → Told
told c l = record { counts = c; list = l }

-- The contract of a function that writes to two outputs, counts to c and numbers to w.
pub record Counted (o : Outcome Told) (r : ℕ) (c c' : List ℕ) (w w' : List Float) : Type 0 where
  pub is : r ≡ number_of o
  pub counts : c' ≡ front (bind o (λ t. gave t.counts)) c
  pub out : w' ≡ front (bind o (λ t. gave t.list)) w
