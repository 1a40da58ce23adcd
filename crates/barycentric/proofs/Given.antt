-- What each leaf gives, where it gives something: the numbers of its definition, every one finite. Assumes nothing.
use Prim.Native.Nat.{ℕ, ◌≤◌}
use mathlib.Core.Path.{◌≡◌}
use mathlib.Core.Bool.{Bool, true, ◌&&◌}
use mathlib.Core.List.{List}
use borrow.Author.Tests.{leb-true}
use lib.Dec.{leb}
use lib.ListN.{length}
use lib.Ieee.{Float}
use lib.Ieee.Scale.{finite}
use Rattle.numbers.specs.Floats.{all_finite}
use Rattle.numbers.specs.Outcome.{Outcome, gave, unless, needed_of, needed_list_of}
use Rattle.numbers.proofs.FiniteLaws.{given_finite}
use Rattle.numbers.proofs.Given.{unless_given}
use Rattle.barycentric.specs.Limits.{most_points, sized, alike, three_alike, three_finite}
use Rattle.barycentric.specs.Weights.{weights_of, weights_for}
use Rattle.barycentric.specs.Delta.{delta_of, delta_for}
use Rattle.barycentric.specs.Abscissas.{abscissas_of, abscissas_for}
use Rattle.barycentric.specs.Response.{response_of, response_for, responses_of, responses_for}

-- two tests that were passed
pub passed-both : {A : Type 0} (t u : Bool) (n m : ℕ) (o : Outcome A) (a : A) → unless t n (unless u m o) ≡ gave a
    → (t ≡ true) × (u ≡ true) × (o ≡ gave a)
passed-both t u n m o a e =
    let p = unless_given t n (unless u m o) e in
    let q = unless_given u m o p.rest in
    (p.test, q.test, q.rest)

-- one number
pub record Number (x y : Float) : Type 0 where
  pub is : y ≡ x
  pub finite_is : finite y ≡ true

pub number_given : (x y : Float) → needed_of x ≡ gave y → Number x y
number_given x y e =
    let p = unless_given (finite x) 9 (gave x) e in
    record { is = cc p.rest; finite_is = given_finite x y e }

-- a list
pub record Numbers (l k : List Float) (room : ℕ) : Type 0 where
  pub are : k ≡ l
  pub held : length l ≤ room
  pub all_finite_fact : all_finite k ≡ true

pub numbers_given : (l k : List Float) (room : ℕ) → needed_list_of l room ≡ gave k → Numbers l k room
numbers_given l k room e =
    let p = passed-both (leb (length l) room) (all_finite l) 15 9 (gave l) k e in
    let h : k ≡ l = cc p.2 in
    record { are = h; held = leb-true (length l) room p.0; all_finite_fact = rw h p.1 }

pub weights_given : (x : List Float) (room : ℕ) (l : List Float) → weights_for x room ≡ gave l → Numbers (weights_of x) l room
unfolding weights_for
weights_given x room l e =
    numbers_given (weights_of x) l room
    (passed-both (leb 2 (length x) && leb (length x) most_points && leb (length x) room) (all_finite x) 15 9 (needed_list_of (weights_of x) room) l e).2

pub delta_given : (w d v : List Float) (z : Float) → delta_for w d v ≡ gave z → Number (delta_of w d v) z
unfolding delta_for
delta_given w d v z e =
    number_given (delta_of w d v) z
    (passed-both (three_alike (length w) (length d) (length v)) (three_finite w d v) 15 9 (needed_of (delta_of w d v)) z e).2

pub abscissas_given : (delta : Float) (d v : List Float) (room : ℕ) (l : List Float) → abscissas_for delta d v room ≡ gave l → Numbers (abscissas_of delta d v) l room
unfolding abscissas_for
abscissas_given delta d v room l e =
    numbers_given (abscissas_of delta d v) l room
    (passed-both (alike (length d) (length v) && leb (length d) room) (finite delta && all_finite d && all_finite v) 15 9 (needed_list_of (abscissas_of delta d v) room) l e).2

pub response_given : (x0 : Float) (x w y : List Float) (z : Float) → response_for x0 x w y ≡ gave z → Number (response_of x0 x w y) z
unfolding response_for
response_given x0 x w y z e =
    number_given (response_of x0 x w y) z
    (passed-both (three_alike (length x) (length w) (length y)) (finite x0 && three_finite x w y) 15 9 (needed_of (response_of x0 x w y)) z e).2

-- what the list form was given, and what it gives
pub record Responses (places x w y : List Float) (room : ℕ) (l : List Float) : Type 0 where
  pub sizes : (sized (length places) && three_alike (length x) (length w) (length y) && leb (length places) room) ≡ true
  pub inputs : (all_finite places && three_finite x w y) ≡ true
  pub answer : Numbers (responses_of places x w y) l room

pub responses_given : (places x w y : List Float) (room : ℕ) (l : List Float) → responses_for places x w y room ≡ gave l → Responses places x w y room l
unfolding responses_for
responses_given places x w y room l e =
    let p = passed-both (sized (length places) && three_alike (length x) (length w) (length y) && leb (length places) room)
    (all_finite places && three_finite x w y) 15 9 (needed_list_of (responses_of places x w y) room) l e in
    record { sizes = p.0; inputs = p.1; answer = numbers_given (responses_of places x w y) l room p.2 }
