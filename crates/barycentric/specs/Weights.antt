-- The barycentric weights of the points x (document 01, item 2): one over the product of the differences from the other points,
-- each difference doubled, taken by a stride.
use Rattle.std.specs.Prelude.{ℕ, ◌+◌, ◌-◌, ◌/◌, ◌&&◌, cond, List, leb, eqb, length, get_or, Float}
use Rattle.std.specs.Float.{nan, binary64}
use Rattle.std.specs.Float.Ieee.{of_bits}
use Rattle.numbers.specs.Floats.{one64, all_finite}
use Rattle.numbers.specs.Operations.{◌⊖◌, ◌⊗◌, ◌⊘◌}
use Rattle.numbers.specs.Loops.{run, strided, tab}
use Rattle.numbers.specs.Outcome.{Outcome, unless, needed_list_of}
use Rattle.barycentric.specs.Limits.{most_points}

-- point j's factor of point k's product p; a point has none of its own
abbrev pub factor : List Float → ℕ → ℕ → Float → Float
factor x k j p = cond (eqb j k) p (p ⊗ ((get_or x k nan ⊖ get_or x j nan) ⊗ of_bits binary64 0x4000_0000_0000_0000))

-- 16 points give 1, 17 give 2
abbrev pub stride : ℕ → ℕ
stride n = (n - 2) / 15 + 1

-- the factors of the points a, a + d, a + 2d, ..
unfoldable pub lane : List Float → ℕ → ℕ → ℕ → Float → Float
lane x k d a p = strided (factor x k) d (length x) (length x) a p

-- all factors, lane by lane
unfoldable pub product : List Float → ℕ → Float
product x k = run (lane x k (stride (length x))) (stride (length x)) 0 one64

abbrev pub weight : List Float → ℕ → Float
weight x k = one64 ⊘ product x k

unfoldable pub weights_of : List Float → List Float
weights_of x = tab (weight x) (length x) 0

-- 15 for fewer than 2 points or more than there may be, or too short an output; 9 for a number that is not finite
unfoldable pub weights_for : List Float → ℕ → Outcome (List Float)
weights_for x room =
    unless (leb 2 (length x) && leb (length x) most_points && leb (length x) room) 15 (unless (all_finite x) 9 (needed_list_of (weights_of x) room))
