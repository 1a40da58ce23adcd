-- The places of the coefficients side by side, as they are worked out: turn by turn, all places in each turn.
use Rattle.std.specs.Prelude.{ℕ, ◌-◌, ◌≤◌, ◌≡◌, length, get_or, Float}
use mathlib.Core.List.{List, zip_with}
use Rattle.std.specs.Float.{nan}
use Rattle.numbers.specs.Loops.{tab}
use Rattle.numbers.specs.Operations.{◌⊕◌, ◌⊖◌, ◌⊗◌, ◌⊘◌}
use Rattle.numbers.specs.Outcome.{Outcome, bind, gather, needed_list_of}
use Rattle.angles.specs.Constants.{two}
use Rattle.angles.specs.Turns.{cosine_of}
use Rattle.chebyshev.specs.declared.Pair.{Pair}
use Rattle.chebyshev.specs.Angles.{whole, coefficient_angle}
use Rattle.chebyshev.specs.Coefficients.{halve_ends, clenshaw, coefficient_at}

-- the places of n coefficients: the cosines of their angles
abbrev pub places_for : ℕ → Outcome (List Float)
places_for n = gather (λ j. cosine_of (coefficient_angle (n - 1) j)) n 0

abbrev pub pair : Float → Float → Pair
pair b c = record { b1 = b; b2 = c }

abbrev pub no_pair : Pair
no_pair = pair nan nan

-- the two running numbers of every place, from a list of each
abbrev pub pairs : List Float → List Float → List Pair
pairs b c = zip_with pair b c

-- clenshaw_step with the coefficient itself, and the same at every place
abbrev pub turn : Float → Float → Pair → Pair
turn x a s = pair ((two ⊗ x ⊗ s.b1 ⊖ s.b2) ⊕ a) s.b1

abbrev pub turned : List Float → Float → List Pair → List Pair
turned xs a ss = tab (λ k. turn (get_or xs k nan) a (get_or ss k no_pair)) (length xs) 0

-- the last turn at every place, times the scale
abbrev pub ended : List Float → Float → Float → List Float → List Float → List Float
ended xs a scale b c = tab (λ k. ((get_or xs k nan ⊗ get_or b k nan ⊖ get_or c k nan) ⊕ a) ⊗ scale) (length xs) 0

-- b_j of the values d from its place, the cosine of its angle, and from every place
abbrev pub scaled : List Float → Float → Float
scaled d x = clenshaw d x ⊗ (two ⊘ whole (length d - 1))

abbrev pub summed : List Float → List Float → List Float
summed d xs = tab (λ k. scaled d (get_or xs k nan)) (length xs) 0

-- 2 to 64 values, and as many places
pub record Placed (d x : List Float) : Type 0 where
  pub least : 2 ≤ length d
  pub most : length d ≤ 64
  pub same : length x ≡ length d

-- what is left of the coefficients once the values are taken
abbrev pub coefficients_of : List Float → ℕ → Outcome (List Float)
coefficients_of p room = bind (gather (coefficient_at (halve_ends p)) (length p) 0) (λ b. needed_list_of (halve_ends b) room)
