-- Pruning of 1 to 1,241 errors is refused with 9 or 13 alone: what holds of these numbers holds of every refusal. Assumes nothing.
use Prim.Native.Nat.{ℕ, ◌≤◌}
use mathlib.Core.List.{List}
use borrow.Author.Tests.{le-leb}
use lib.Dec.{leb}
use lib.ListN.{length}
use lib.Ieee.{Float}
use Rattle.numbers.specs.Floats.{all_finite}
use Rattle.numbers.specs.Outcome.{gave}
use Rattle.numbers.proofs.Refusing.{Refuses, refuses_gave, refuses_unless}
use Rattle.pruning.specs.Prune.{runs, cut, prune}
use Rattle.pruning.specs.Errors.{most_candidates, negative_at, size_at, places_of, kept_places, prune_for}

module _ {P : ℕ → Type 0} (e : List Float) (n : ℕ) where
  places_refuse : P 13 → Refuses P (kept_places e n)
  unfolding kept_places prune
  places_refuse thirteen =
      let r = runs (negative_at e) (size_at e) (places_of e) in
      refuses_unless (leb n (length r)) 13 (gave (cut (negative_at e) (size_at e) n r)) (λ t. thirteen) (λ t. refuses_gave (cut (negative_at e) (size_at e) n r))

  pub pruning_refuses : P 9 → P 13 → (room : ℕ) → 1 ≤ length e → length e ≤ most_candidates → n ≤ room → Refuses P (prune_for e n room)
  unfolding prune_for
  pruning_refuses nine thirteen room a b h =
      rw (le-leb 1 (length e) a, le-leb (length e) most_candidates b, le-leb n room h)
      (refuses_unless (all_finite e) 9 (kept_places e n) (λ t. nine) (λ t. places_refuse thirteen))
