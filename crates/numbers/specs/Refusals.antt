-- Document 01's number of each refusal, and the outcome that each answer stands for.
use Rattle.std.specs.Prelude.{ℕ, ◌≤◌, ◌<◌, List, ◌++◌, ◌≡◌, length, take, drop, Float, Result, Ok, Err}
use Rattle.numbers.specs.declared.Refusal.{Refusal}
use Rattle.numbers.specs.declared.Refusal.TheVariants as why
use Rattle.numbers.specs.Outcome.{Outcome, refused, gave}

abbrev pub refusal_number : Refusal → ℕ
refusal_number why.Room = 1
refusal_number why.Slot = 2
refusal_number why.State = 3
refusal_number why.Words = 4
refusal_number why.Request = 5
refusal_number why.Bands = 6
refusal_number why.Response = 7
refusal_number why.Edges = 8
refusal_number why.NotFinite = 9
refusal_number why.Derivative = 10
refusal_number why.Balancing = 11
refusal_number why.Roots = 12
refusal_number why.Extrema = 13
refusal_number why.Layout = 14
refusal_number why.Lists = 15

abbrev pub outcome_of : {A : Type 0} → Result A Refusal → Outcome A
outcome_of (Ok a) = gave a
outcome_of (Err r) = refused (refusal_number r)

-- of a leaf that has written a
abbrev pub verdict_of : {A : Type 0} → Result Unit Refusal → A → Outcome A
verdict_of (Ok u) a = gave a
verdict_of (Err r) a = refused (refusal_number r)

-- of a leaf that has written as many at the front of a list
abbrev pub count_of : {A : Type 0} → Result ℕ Refusal → List A → Outcome (List A)
count_of (Ok n) l = gave (take n l)
count_of (Err r) l = refused (refusal_number r)

abbrev pub few : Result ℕ Refusal → ℕ
few (Ok n) = n
few (Err r) = 0

-- a lent list with what was given in front, as it was beyond; all as it was where that was refused
abbrev pub front : {A : Type 0} → Outcome (List A) → List A → List A
front (refused n) w = w
front (gave l) w = l ++ drop (length l) w

-- The contract of a leaf that writes a list of n numbers into a lent one, w at entry and w' at exit: its outcome, answered, and
-- what is written.
pub record Filled {A : Type 0} (o : Outcome (List A)) (n : ℕ) (r : Result Unit Refusal) (w w' : List A) : Type 0 where
  pub is : verdict_of r (take n w') ≡ o
  pub out : w' ≡ front o w

-- The contract of one that answers how many it has written.
pub record Wrote {A : Type 0} (o : Outcome (List A)) (r : Result ℕ Refusal) (w w' : List A) : Type 0 where
  pub is : count_of r w' ≡ o
  pub out : w' ≡ front o w
  pub room : few r ≤ length w'

-- The contract of a leaf whose answer is a verdict beside a value a: the value that was given, and a fixed one where none was.
abbrev pub given_or : {A : Type 0} → A → Outcome A → A
given_or none (refused n) = none
given_or none (gave a) = a

pub record Answers {A : Type 0} (none : A) (o : Outcome A) (v : Result Unit Refusal) (a : A) : Type 0 where
  pub is : verdict_of v a ≡ o
  pub value : a ≡ given_or none o

-- a call at each place below n can only return what g gives there
abbrev pub Gives : ℕ → (ℕ → Result Float Refusal → Type 0) → (ℕ → Outcome Float) → Type 0
Gives n post g = (k : ℕ) (r : Result Float Refusal) → k < n → post k r → outcome_of r ≡ g k
