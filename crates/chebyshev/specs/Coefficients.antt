-- The coefficients a_k of the sum of a_k T_k that takes the given values at the Chebyshev nodes of the second kind: first and last
-- value halved, Clenshaw's sum at each node's cosine times 2 / n, first and last result halved.
use Rattle.std.specs.Prelude.{ℕ, ◌-◌, ◌&&◌, ◌||◌, cond, List, leb, eqb, length, get_or, Float}
use Rattle.std.specs.Float.{nan}
use Rattle.numbers.specs.Floats.{zero64, all_finite}
use Rattle.numbers.specs.Operations.{◌⊕◌, ◌⊖◌, ◌⊗◌, ◌⊘◌}
use Rattle.numbers.specs.Loops.{run, tab}
use Rattle.numbers.specs.Outcome.{Outcome, bind, gave, unless, gather, needed_list_of}
use Rattle.angles.specs.Constants.{half, two}
use Rattle.angles.specs.Turns.{cosine_of}
use Rattle.chebyshev.specs.declared.Pair.{Pair}
use Rattle.chebyshev.specs.Angles.{whole, coefficient_angle}

abbrev pub least_values : ℕ
least_values = 2

abbrev pub most_values : ℕ
most_values = 64

-- the first and the last times 1/2
abbrev pub halve_ends : List Float → List Float
halve_ends l = tab (λ i. cond (eqb i 0 || eqb i (length l - 1)) (get_or l i nan ⊗ half) (get_or l i nan)) (length l) 0

-- one of Clenshaw's turns, downwards from the last but one: turn t takes the coefficient at length - 2 - t
abbrev pub clenshaw_step : List Float → Float → ℕ → Pair → Pair
clenshaw_step a x t s = record { b1 = (two ⊗ x ⊗ s.b1 ⊖ s.b2) ⊕ get_or a (length a - 2 - t) nan; b2 = s.b1 }

unfoldable pub clenshaw : List Float → Float → Float
clenshaw a x =
    let s = run (clenshaw_step a x) (length a - 2) 0 (record { b1 = get_or a (length a - 1) nan; b2 = zero64 }) in
    (x ⊗ s.b1 ⊖ s.b2) ⊕ get_or a 0 nan

-- b_j of the values d, whose ends are halved
abbrev pub coefficient_at : List Float → ℕ → Outcome Float
coefficient_at d j =
    let n = length d - 1 in
    bind (cosine_of (coefficient_angle n j)) (λ x. gave (clenshaw d x ⊗ (two ⊘ whole n)))

-- 15 for fewer than 2 values or more than 64, or too short an output; 9 for a number that is not finite
unfoldable pub coefficients_for : List Float → ℕ → Outcome (List Float)
coefficients_for p room =
    unless (leb least_values (length p) && leb (length p) most_values && leb (length p) room) 15
    (unless (all_finite p) 9 (bind (gather (coefficient_at (halve_ends p)) (length p) 0) (λ b. needed_list_of (halve_ends b) room)))
