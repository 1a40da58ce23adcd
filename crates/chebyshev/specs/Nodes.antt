-- The Chebyshev nodes of the second kind on -1 to 1: degree + 1 of them, falling.
use Rattle.std.specs.Prelude.{ℕ, ◌+◌, ◌&&◌, List, leb, ltb, Float}
use Rattle.numbers.specs.Outcome.{Outcome, unless, gather}
use Rattle.angles.specs.Turns.{cosine_of}
use Rattle.chebyshev.specs.Angles.{node_angle}

abbrev pub least_degree : ℕ
least_degree = 2

abbrev pub most_degree : ℕ
most_degree = 16

-- 15 for too short an output, 5 for a degree out of range
unfoldable pub nodes_for : ℕ → ℕ → Outcome (List Float)
nodes_for n room = unless (ltb n room) 15 (unless (leb least_degree n && leb n most_degree) 5 (gather (λ j. cosine_of (node_angle n j)) (n + 1) 0))
