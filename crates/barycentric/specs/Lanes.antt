-- Work in lanes: an inner loop carries every place of a list one turn on, side by side. Each place goes through what its own
-- definition says, in its order.
use Rattle.std.specs.Prelude.{ℕ, ◌<◌, ◌≤◌, ◌≡◌, cond, List, length, get_or, Float}
use Rattle.std.specs.Float.{nan}
use Rattle.std.specs.Float.Ieee.{eq}
use Rattle.numbers.specs.Floats.{one64}
use Rattle.numbers.specs.Operations.{◌⊕◌, ◌⊖◌, ◌⊗◌, ◌⊘◌}
use Rattle.numbers.specs.Loops.{run, until}
use Rattle.barycentric.specs.declared.Sums.{Sums}
use Rattle.barycentric.specs.Limits.{most_points}
use Rattle.barycentric.specs.Delta.{no_sums}
use Rattle.barycentric.specs.Response.{is_node, response_step}

-- p' is p with the number at each place k taken through f k
pub record Each (f : ℕ → Float → Float) (p p' : List Float) : Type 0 where
  pub same : length p' ≡ length p
  pub at : (k : ℕ) → k < length p → get_or p' k nan ≡ f k (get_or p k nan)

-- ---- weights: a product for each point, to begin with 1
pub record Products (x p : List Float) : Type 0 where
  pub least : 2 ≤ length x
  pub most : length x ≤ most_points
  pub room : length p ≡ length x
  pub ones : (k : ℕ) → k < length x → get_or p k nan ≡ one64

-- ---- responses: two sums for each place
abbrev pub both : List Float → List Float → ℕ → Sums
both n d k = record { numer = get_or n k nan; denom = get_or d k nan }

-- the sums n and d of the places, to begin with 0
pub record Places (places x w y n d : List Float) : Type 0 where
  pub weights : length w ≡ length x
  pub values : length y ≡ length x
  pub numers : length n ≡ length places
  pub denoms : length d ≡ length places
  pub zeros : (k : ℕ) → k < length places → both n d k ≡ no_sums

-- a point's term, added to both sums of each place
pub record Added (places : List Float) (x w y : Float) (n d n' d' : List Float) : Type 0 where
  pub numers : Each (λ k s. s ⊕ w ⊘ (get_or places k nan ⊖ x) ⊗ y) n n'
  pub denoms : Each (λ k s. s ⊕ w ⊘ (get_or places k nan ⊖ x)) d d'

-- all points' terms
pub record Summed (places x w y n' d' : List Float) : Type 0 where
  pub numers : length n' ≡ length places
  pub denoms : length d' ≡ length places
  pub at : (k : ℕ) → k < length places → both n' d' k ≡ run (response_step (get_or places k nan) x w y) (length x) 0 no_sums

-- the y of the first point that x0 is; q where x0 is none
unfoldable pub node_or : Float → List Float → List Float → Float → Float
node_or x0 x y q = until (is_node x0 x) (λ i. get_or y i nan) (λ i s. s) (λ s. s) (length x) 0 q

-- a quotient that is a number stays; only for a NaN is a node looked for
abbrev pub settle : Float → List Float → List Float → Float → Float
settle x0 x y q = cond (eq q q) q (node_or x0 x y q)
