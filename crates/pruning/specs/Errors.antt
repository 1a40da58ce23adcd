-- Pruning of errors, to the places of those that are kept. Negative means below zero, so 0 and -0.0 count as nonnegative.
use Rattle.std.specs.Prelude.{ℕ, ◌≤◌, List, Bool, ◌&&◌, leb, length, get_or, Float}
use Rattle.std.specs.Float.{nan}
use Rattle.std.specs.Float.Ieee.{lt}
use Rattle.numbers.specs.Floats.{zero64, magnitude_of, all_finite}
use Rattle.numbers.specs.Loops.{tab}
use Rattle.numbers.specs.Outcome.{Outcome, unless}
use Rattle.pruning.specs.Prune.{prune}

-- subintervals times (degree + 1)
abbrev pub most_candidates : ℕ
most_candidates = 1241

abbrev pub negative_at : List Float → ℕ → Bool
negative_at e i = lt (get_or e i nan) zero64

abbrev pub size_at : List Float → ℕ → Float
size_at e i = magnitude_of (get_or e i nan)

-- the places 0, 1, .. of a list
abbrev pub places_of : List Float → List ℕ
places_of e = tab (λ i. i) (length e) 0

unfoldable pub kept_places : List Float → ℕ → Outcome (List ℕ)
kept_places e n = prune (negative_at e) (size_at e) n (places_of e)

-- some errors and no more than there may be, and an output that is long enough
abbrev pub sized : ℕ → ℕ → ℕ → Bool
sized count n room = leb 1 count && leb count most_candidates && leb n room

-- 15 for lists of the wrong length; 9 for an error that is not finite; then 13
unfoldable pub prune_for : List Float → ℕ → ℕ → Outcome (List ℕ)
prune_for e n room = unless (sized (length e) n room) 15 (unless (all_finite e) 9 (kept_places e n))

-- lists that `sized` lets through
pub record Fitting (count n room : ℕ) : Type 0 where
  pub some : 1 ≤ count
  pub most : count ≤ most_candidates
  pub fits : n ≤ room
