-- The first points: as many as asked for, each finite; and where their number is in range they are refused with 9 alone.
-- Assumes nothing.
use Prim.Native.Nat.{ℕ, ◌+◌, ◌≤◌}
use mathlib.Core.Path.{◌≡◌, refl, sym, ap, ◌∙◌}
use mathlib.Core.Bool.{true}
use mathlib.Core.List.{List}
use native.Mathlib.Omega.{arith}
use borrow.Author.Tests.{le-leb}
use lib.ListN.{length}
use lib.IntN.{pos}
use lib.Ieee.{Float, binary64, of_int}
use Rattle.numbers.specs.Floats.{all_finite}
use Rattle.numbers.specs.Operations.{◌⊘◌}
use Rattle.numbers.specs.Outcome.{gave, unless, needed_list_of}
use Rattle.numbers.proofs.Given.{Passed, gave_same, unless_given, needed_list_given}
use Rattle.numbers.proofs.Refusing.{Refuses, Only, refuses_unless, refuses_needed_list}
use Rattle.fir_types.specs.Edges.{Edges}
use Rattle.subdivision.specs.First.{total_length, at_start, most_functions, first_points, edges_finite, first_sized, first_for}
use Rattle.subdivision.proofs.WalkLaws.{length-points}

first_length : (e : Edges) (functions : ℕ) → length (first_points e functions) ≡ functions + 1
first_length e functions = length-points e (total_length e ⊘ of_int binary64 (pos functions)) (functions + 1) 0 at_start

module _ (e : Edges) (functions room : ℕ) (l : List Float) (given : first_for e functions room ≡ gave l) where
  points_given : Passed (all_finite (first_points e functions)) (gave (first_points e functions)) l
  unfolding first_for
  points_given =
      needed_list_given (first_points e functions) l room
      (unless_given (edges_finite e) 9 (needed_list_of (first_points e functions) room)
      (unless_given (first_sized e functions room) 15 (unless (edges_finite e) 9 (needed_list_of (first_points e functions) room)) given).rest).rest

  pub first_many : length l ≡ functions + 1
  first_many = sym (ap length (gave_same points_given.rest)) ∙ first_length e functions

  pub first_finite : all_finite l ≡ true
  first_finite = sym (ap all_finite (gave_same points_given.rest)) ∙ points_given.test

pub first_refuses :
    (e : Edges) (functions room : ℕ) → 1 ≤ e.count → e.count ≤ 8 → 1 ≤ functions → functions ≤ most_functions → functions + 1 ≤ room → Refuses (Only 9) (first_for e functions room)
unfolding first_for
first_refuses e functions room a b c d h =
    rw (le-leb 1 e.count a, le-leb e.count 8 b, le-leb 1 functions c, le-leb functions most_functions d, le-leb (functions + 1) room h)
    (refuses_unless (edges_finite e) 9 (needed_list_of (first_points e functions) room) (λ t. refl)
    (λ t. refuses_needed_list (first_points e functions) room (omega (arith, first_length e functions))))
