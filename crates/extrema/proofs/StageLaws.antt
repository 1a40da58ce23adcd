-- One stage after another, and a stage as a turn of a loop. Assumes nothing.
use Rattle.std.specs.Prelude.{Result, Ok, Err}
use Prim.Native.Nat.{ℕ, ◌+◌, ◌≤◌, ◌<◌}
use mathlib.Core.Path.{◌≡◌}
use mathlib.Core.List.{List}
use lib.ListN.{length, get_or}
use Rattle.numbers.specs.Outcome.{Outcome, refused, gave}
use Rattle.numbers.specs.Refusals.{refusal_number, count_of, few}
use Rattle.numbers.specs.declared.Refusal.{Refusal}
use Rattle.numbers.proofs.OutcomeLaws.{Sweeping, sweeps_next, sweeps_stop}
use Rattle.pruning.specs.declared.candidates.Candidate.{Candidate}
use Rattle.pruning.specs.Candidates.{all, view}
use Rattle.extrema.specs.Candidates.{Stage}

-- ---- what a match on a stage's answer tells
module _ {k n : ℕ} {f : List Candidate → Outcome (List Candidate)} {r : Result ℕ Refusal} {w w' : List ℕ} (a : Stage k f n r w w') where
  pub stage_is : {m : ℕ} → r ≡ Ok m → gave (view w' m) ≡ f (view w n)
  stage_is e = let z : count_of r (all w') ≡ f (view w n) = a.is in rw e at z

  pub stage_refused : {q : Refusal} → r ≡ Err q → refused (refusal_number q) ≡ f (view w n)
  stage_refused e = let z : count_of r (all w') ≡ f (view w n) = a.is in rw e at z

  pub stage_most : {m : ℕ} → r ≡ Ok m → m ≤ n + k
  stage_most e = let z : few r ≤ n + k = a.most in rw e at z

-- ---- as a turn of a loop
module _ {A : Type 0} {f : A → List Candidate → Outcome (List Candidate)} {ys : List A} {i k n : ℕ} {w w' : List ℕ} {r : Result ℕ Refusal} {o : Outcome (List Candidate)}
    (d x : A) (at : get_or ys i d ≡ x) (h : i < length ys) (inv : Sweeping f ys i (view w n) o) (a : Stage k (f x) n r w w') where
  pub turn_next : {m : ℕ} → r ≡ Ok m → Sweeping f ys (i + 1) (view w' m) o
  turn_next e = sweeps_next d inv h (rw at (stage_is a e))

  pub turn_stop : {q : Refusal} → r ≡ Err q → refused (refusal_number q) ≡ o
  turn_stop e = sweeps_stop d inv h (rw at (stage_refused a e))
