-- How many points there are, and what makes lists fit to be worked with (refusal 15 otherwise).
use Rattle.std.specs.Prelude.{ℕ, Bool, ◌&&◌, List, leb, eqb, Float}
use Rattle.numbers.specs.Floats.{all_finite}

abbrev pub most_points : ℕ
most_points = 65

-- a list of points, of weights, of places: not empty, and no longer than the points may be
abbrev pub sized : ℕ → Bool
sized n = leb 1 n && leb n most_points

-- lists of one length
abbrev pub alike : ℕ → ℕ → Bool
alike n m = sized n && eqb m n

abbrev pub three_alike : ℕ → ℕ → ℕ → Bool
three_alike n m k = sized n && eqb m n && eqb k n

abbrev pub three_finite : List Float → List Float → List Float → Bool
three_finite a b c = all_finite a && all_finite b && all_finite c
