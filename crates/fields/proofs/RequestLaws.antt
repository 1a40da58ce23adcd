-- How many functions and points taps in range have, and what an accepted request tells. Assumes nothing.
use Prim.Native.Nat.{ℕ, ◌/◌, ◌%◌, ◌+◌, ◌≤◌}
use mathlib.Core.Path.{◌≡◌, refl}
use mathlib.Core.Bool.{Bool, true, false, ◌&&◌, cond}
use mathlib.Core.List.{List}
use native.Mathlib.Omega.{arith}
use borrow.Author.Tests.{leb-true, eqb-true}
use lib.Dec.{leb, eqb}
use Rattle.numbers.specs.Outcome.{gave, bind}
use Rattle.numbers.proofs.Order.{and_1, and_2}
use Rattle.numbers.proofs.Given.{unless_given}
use Rattle.bands.specs.declared.Symmetry.{Symmetry}
use Rattle.bands.specs.declared.Symmetry.TheVariants.{Even, Odd}
use Rattle.fir_types.specs.declared.edges.Interval.{Interval}
use Rattle.fir_types.specs.Kinds.{functions, least_taps, most_taps, taps_in_range}
use Rattle.fir_types.specs.Edges.{adjusted_for}
use Rattle.fir_types.specs.Realizable.{realizable_for}
use Rattle.fields.specs.declared.request.Request.{Request}
use Rattle.fields.specs.Request.{odd_taps, points_of, in_range, threshold_holds, most_exchanges, request_for}

pub record Functions (n : ℕ) : Type 0 where
  pub least : 2 ≤ n
  pub most : n ≤ 64

even_range : (taps : ℕ) (b : Bool) → eqb (taps % 2) 1 ≡ b → cond b 3 4 ≤ taps → taps ≤ 128 → Functions (cond b (taps / 2 + 1) (taps / 2))
even_range taps true e h k = let z : taps % 2 ≡ 1 = eqb-true (taps % 2) 1 e in record { least = omega arith; most = omega arith }
even_range taps false e h k = record { least = omega arith; most = omega arith }

odd_range : (taps : ℕ) (b : Bool) → cond b 7 4 ≤ taps → taps ≤ 128 → Functions (taps / 2)
odd_range taps true h k = record { least = omega arith; most = omega arith }
odd_range taps false h k = record { least = omega arith; most = omega arith }

-- taps in range have 2 to 64 functions
pub functions_range : (taps : ℕ) (s : Symmetry) → taps_in_range taps s ≡ true → Functions (functions taps s)
functions_range taps Even h =
    even_range taps (eqb (taps % 2) 1) refl (leb-true (least_taps taps Even) taps (and_1 (leb (least_taps taps Even) taps) (leb taps most_taps) h))
    (leb-true taps most_taps (and_2 (leb (least_taps taps Even) taps) (leb taps most_taps) h))
functions_range taps Odd h =
    odd_range taps (eqb (taps % 2) 1) (leb-true (least_taps taps Odd) taps (and_1 (leb (least_taps taps Odd) taps) (leb taps most_taps) h))
    (leb-true taps most_taps (and_2 (leb (least_taps taps Odd) taps) (leb taps most_taps) h))

-- ---- a request in range, part by part
module _ (r : Request) (h : in_range r ≡ true) where
  abbrev taps_test : Bool
  taps_test = taps_in_range r.taps r.symmetry

  abbrev least_test : Bool
  least_test = leb 2 r.degree

  abbrev most_test : Bool
  most_test = leb r.degree 16

  degree_tests : (taps_test && least_test && most_test) ≡ true
  unfolding in_range
  degree_tests =
      and_1 (taps_test && least_test && most_test) (leb r.exchanges most_exchanges)
      (and_1 (taps_test && least_test && most_test && leb r.exchanges most_exchanges) (threshold_holds r.threshold) h)

  pub taps_hold : taps_in_range r.taps r.symmetry ≡ true
  taps_hold = and_1 taps_test least_test (and_1 (taps_test && least_test) most_test degree_tests)

  pub degree_least : 2 ≤ r.degree
  degree_least = leb-true 2 r.degree (and_2 taps_test least_test (and_1 (taps_test && least_test) most_test degree_tests))

  pub degree_most : r.degree ≤ 16
  degree_most = leb-true r.degree 16 (and_2 (taps_test && least_test) most_test degree_tests)

  pub exchanges_most : r.exchanges ≤ 100
  unfolding in_range
  exchanges_most =
      leb-true r.exchanges 100
      (and_2 (taps_test && least_test && most_test) (leb r.exchanges most_exchanges)
      (and_1 (taps_test && least_test && most_test && leb r.exchanges most_exchanges) (threshold_holds r.threshold) h))

  pub points_least : 3 ≤ points_of r
  points_least = let n = functions_range r.taps r.symmetry taps_hold in omega (arith, n.least)

  pub points_most : points_of r ≤ 65
  points_most = let n = functions_range r.taps r.symmetry taps_hold in omega (arith, n.most)

-- an accepted request is in range
pub accepted_range : (r : Request) (l : List Interval) → request_for r ≡ gave l → in_range r ≡ true
unfolding request_for
accepted_range r l e =
    (unless_given (in_range r) 5 (bind (realizable_for r.plan r.symmetry (odd_taps r)) (λ _. adjusted_for r.plan r.symmetry (odd_taps r))) e).test
