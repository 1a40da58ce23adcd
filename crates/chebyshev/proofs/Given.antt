-- What is given: as many nodes and coefficients as asked for, each finite, and every node in -1 to 1. Assumes nothing.
use Prim.Native.Nat.{ℕ, ◌+◌, ◌<◌}
use mathlib.Core.Path.{◌≡◌, sym, ap, ◌∙◌}
use mathlib.Core.Bool.{true, ◌&&◌}
use mathlib.Core.List.{List}
use lib.Dec.{leb, ltb}
use lib.ListN.{length, get_or}
use lib.Ieee.{Float, nan, neg}
use Rattle.numbers.specs.Floats.{one64, Inside, all_finite}
use Rattle.numbers.specs.Outcome.{gave, unless, gather, needed_list_of}
use Rattle.numbers.proofs.Given.{gave_same, unless_given, bind_given, needed_list_given, gather-length, gather-at}
use Rattle.angles.specs.Turns.{cosine_of}
use Rattle.angles.proofs.Range.{cosine_range}
use Rattle.chebyshev.specs.Angles.{node_angle}
use Rattle.chebyshev.specs.Nodes.{nodes_for}
use Rattle.chebyshev.specs.Coefficients.{halve_ends, coefficient_at, coefficients_for}
use Rattle.chebyshev.specs.Places.{coefficients_of}
use Rattle.chebyshev.proofs.NodeLaws.{cosines, cosines_length, cosines_finite}
use Rattle.chebyshev.proofs.CoefficientLaws.{halves_length}

-- ---- nodes: degree + 1 of them, each finite and in -1 to 1
module _ (n room : ℕ) (l : List Float) (e : nodes_for n room ≡ gave l) where
  cosines_given : cosines n ≡ gave l
  unfolding nodes_for
  cosines_given = (unless_given (leb 2 n && leb n 16) 5 (cosines n) (unless_given (ltb n room) 15 (unless (leb 2 n && leb n 16) 5 (cosines n)) e).rest).rest

  pub nodes_length : length l ≡ n + 1
  nodes_length = cosines_length n l cosines_given

  pub nodes_finite : all_finite l ≡ true
  nodes_finite = cosines_finite n l cosines_given

  pub nodes_range : (k : ℕ) → k < n + 1 → Inside (neg one64) one64 (get_or l k nan)
  nodes_range k h = cosine_range (node_angle n (0 + k)) (get_or l k nan) (gather-at (λ j. cosine_of (node_angle n j)) (n + 1) 0 l k nan cosines_given h)

-- ---- coefficients: as many as values, each finite
module _ (p l : List Float) (room : ℕ) (e : coefficients_for p room ≡ gave l) where
  values_given : coefficients_of p room ≡ gave l
  unfolding coefficients_for
  values_given = (unless_given (all_finite p) 9 (coefficients_of p room) (unless_given (leb 2 (length p) && leb (length p) 64 && leb (length p) room) 15 (unless (all_finite p) 9 (coefficients_of p room)) e).rest).rest

  pub coefficients_length : length l ≡ length p
  coefficients_length =
      let b = bind_given (gather (coefficient_at (halve_ends p)) (length p) 0) (λ b. needed_list_of (halve_ends b) room) values_given in
      let n = needed_list_given (halve_ends b.value) l room b.rest in
      sym (ap length (gave_same n.rest)) ∙ halves_length b.value ∙ gather-length (coefficient_at (halve_ends p)) (length p) 0 b.value b.given

  pub coefficients_finite : all_finite l ≡ true
  coefficients_finite =
      let b = bind_given (gather (coefficient_at (halve_ends p)) (length p) 0) (λ b. needed_list_of (halve_ends b) room) values_given in
      let n = needed_list_given (halve_ends b.value) l room b.rest in
      sym (ap all_finite (gave_same n.rest)) ∙ n.test
