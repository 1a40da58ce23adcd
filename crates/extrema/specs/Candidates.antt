-- Candidates: places with their errors, behind those that are already there.
use Rattle.std.specs.Prelude.{Result}
use Rattle.numbers.specs.declared.Refusal.{Refusal}
use Rattle.std.specs.Prelude.{ℕ, ◌+◌, ◌/◌, ◌≤◌, ◌≡◌, cond, List, ◌++◌, eqb, length, get_or, Float}
use Rattle.std.specs.Float.{nan}
use Rattle.numbers.specs.Loops.{tab}
use Rattle.numbers.specs.Outcome.{Outcome, gave, bind}
use Rattle.numbers.specs.Refusals.{count_of, few}
use Rattle.pruning.specs.declared.candidates.Candidate.{Candidate}
use Rattle.pruning.specs.Candidates.{all, view}
use Rattle.extrema.specs.Errors.{Curve, errors_for}

abbrev pub candidate : Float → Float → Candidate
candidate x e = record { x = x; error = e }

abbrev pub joined : List Float → List Float → List Candidate
joined places errors = tab (λ i. candidate (get_or places i nan) (get_or errors i nan)) (length places) 0

-- the candidates at the places, after those of l; no places give none
unfoldable pub candidates_for : Curve → List Float → List Candidate → Outcome (List Candidate)
candidates_for c places l =
    cond (eqb (length places) 0) (gave l) (bind (errors_for c places) (λ e. gave (l ++ joined places e)))

-- ---- the contract of every function that works on the candidates in the words: from the first n of w to those of w', at most k
-- more, as f says
pub record Stage (k : ℕ) (f : List Candidate → Outcome (List Candidate)) (n : ℕ) (r : Result ℕ Refusal) (w w' : List ℕ) : Type 0 where
  pub is : count_of r (all w') ≡ f (view w n)
  pub most : few r ≤ n + k
  pub long : length w' ≡ length w

-- room for k candidates more behind the first n
abbrev pub Room : ℕ → ℕ → List ℕ → Type 0
Room k n w = n + k ≤ length w / 2
