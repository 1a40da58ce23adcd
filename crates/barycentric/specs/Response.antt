-- The response at a place x0 by the barycentric formula, over the points x with weights w and abscissas y (document 01, item 2):
-- at a node that node's y exactly, the first of equal nodes.
use Rattle.std.specs.Prelude.{ℕ, Bool, ◌&&◌, List, leb, length, get_or, Float}
use Rattle.std.specs.Float.{nan}
use Rattle.std.specs.Float.Ieee.{eq}
use Rattle.std.specs.Float.Ieee.Scale.{finite}
use Rattle.numbers.specs.Floats.{all_finite}
use Rattle.numbers.specs.Operations.{◌⊕◌, ◌⊖◌, ◌⊗◌, ◌⊘◌}
use Rattle.numbers.specs.Loops.{until, tab}
use Rattle.numbers.specs.Outcome.{Outcome, unless, needed_of, needed_list_of}
use Rattle.barycentric.specs.declared.Sums.{Sums}
use Rattle.barycentric.specs.Limits.{sized, three_alike, three_finite}
use Rattle.barycentric.specs.Delta.{no_sums, quotient}

-- x0 is point i
abbrev pub is_node : Float → List Float → ℕ → Bool
is_node x0 x i = eq x0 (get_or x i nan)

-- point i's term of both sums
abbrev pub response_step : Float → List Float → List Float → List Float → ℕ → Sums → Sums
response_step x0 x w y i s =
    let z = get_or w i nan ⊘ (x0 ⊖ get_or x i nan) in record { numer = s.numer ⊕ z ⊗ get_or y i nan; denom = s.denom ⊕ z }

unfoldable pub response_of : Float → List Float → List Float → List Float → Float
response_of x0 x w y = until (is_node x0 x) (λ i. get_or y i nan) (response_step x0 x w y) quotient (length x) 0 no_sums

unfoldable pub response_for : Float → List Float → List Float → List Float → Outcome Float
response_for x0 x w y =
    unless (three_alike (length x) (length w) (length y)) 15 (unless (finite x0 && three_finite x w y) 9 (needed_of (response_of x0 x w y)))

-- the same at each place of a list
unfoldable pub responses_of : List Float → List Float → List Float → List Float → List Float
responses_of places x w y = tab (λ i. response_of (get_or places i nan) x w y) (length places) 0

unfoldable pub responses_for : List Float → List Float → List Float → List Float → ℕ → Outcome (List Float)
responses_for places x w y room =
    unless (sized (length places) && three_alike (length x) (length w) (length y) && leb (length places) room) 15
    (unless (all_finite places && three_finite x w y) 9 (needed_list_of (responses_of places x w y) room))
