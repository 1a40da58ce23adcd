-- Candidates worked out many at a time: first their places, then the errors there. The contracts of private functions; what a search
-- promises is in Extrema, and proofs/BatchLaws shows that where nothing is refused the two give the same.
use denote.Ref.{Bor, MutBor}
use Rattle.std.specs.Prelude.{Result, Ok}
use Rattle.numbers.specs.declared.Refusal.{Refusal}
use Rattle.std.specs.Prelude.{ℕ, ◌+◌, ◌≤◌, ◌≡◌, List, [], ◌∷◌, ◌++◌, map, length, Float}
use Rattle.numbers.specs.Floats.{zero64, all_finite}
use Rattle.numbers.specs.Outcome.{Outcome, gave, bind, unless}
use Rattle.numbers.specs.Refusals.{count_of, few}
use Rattle.chebyshev.specs.Coefficients.{coefficients_for}
use Rattle.fir_types.specs.declared.edges.Interval.{Interval}
use Rattle.pruning.specs.declared.candidates.Candidate.{Candidate}
use Rattle.pruning.specs.Candidates.{view, Framed}
use Rattle.roots.specs.Answer.{derivative_roots}
use Rattle.extrema.specs.Errors.{Curve, errors_for}
use Rattle.extrema.specs.Candidates.{candidate, Stage, Room}
use Rattle.extrema.specs.Proxy.{scaled, derivative}

-- ---- the places inside a subinterval
-- of the derivative's coefficients: 10, 11, 12
abbrev pub of_derivative : Interval → List Float → Outcome (List Float)
of_derivative v a = bind (derivative_roots (derivative a) 15) (λ r. gave (scaled v r))

-- of the errors at the nodes
unfoldable pub of_nodes : Interval → List Float → Outcome (List Float)
of_nodes v e = bind (coefficients_for e (length e)) (of_derivative v)

unfoldable pub places_in : Curve → List Float → Interval → Outcome (List Float)
places_in c nodes v = bind (errors_for c (scaled v nodes)) (of_nodes v)

-- as many of them at the front of a lent list, at most 15
pub record Listed (o : Outcome (List Float)) (r : Result ℕ Refusal) (out : List Float) : Type 0 where
  pub is : count_of r out ≡ o
  pub most : few r ≤ 15

-- ---- places as candidates whose errors are still to come, behind those of l; 9 where one is not finite
abbrev pub mark : Float → Candidate
mark x = candidate x zero64

unfoldable pub marked : List Float → List Candidate → Outcome (List Candidate)
marked places l = unless (all_finite places) 9 (gave (l ++ map mark places))

-- a stage that leaves the first n as they are, also where it refuses
pub record Behind (k : ℕ) (f : List Candidate → Outcome (List Candidate)) (n : ℕ) (r : Result ℕ Refusal) (w w' : List ℕ) : Type 0 where
  pub stage : Stage k f n r w w'
  pub front : view w' n ≡ view w n
  pub least : (m : ℕ) → r ≡ Ok m → n ≤ m

-- ---- the closures of a sweep over the subintervals
-- may be called at a subinterval and a list of k, and then finds at most k places, at the front of that list
pub record Finds (k : ℕ) (pre : Interval → MutBor (List Float) → Type 0) (post : Interval → MutBor (List Float) → Result ℕ Refusal → MutBor (List Float) → Type 0) : Type 0 where
  pub takes : (v : Interval) (w : MutBor (List Float)) → length w.now ≡ k → pre v w
  pub most : (v : Interval) (w w' : MutBor (List Float)) (r : Result ℕ Refusal) → length w.now ≡ k → post v w r w' → few r ≤ k

-- and finds those that `place` tells
pub record FindsAt (k : ℕ) (post : Interval → MutBor (List Float) → Result ℕ Refusal → MutBor (List Float) → Type 0) (place : Interval → Outcome (List Float)) : Type 0 where
  pub is : (v : Interval) (w w' : MutBor (List Float)) (r : Result ℕ Refusal) → length w.now ≡ k → post v w r w' → count_of r w'.now ≡ place v
  pub short : (v : Interval) (places : List Float) → place v ≡ gave places → length places ≤ k

-- may be called at up to k places where there is room for them behind the first n candidates, keeps those n and puts no more
pub record Puts (k : ℕ) (pre : Bor (List Float) → MutBor (List ℕ) → ℕ → Type 0) (post : Bor (List Float) → MutBor (List ℕ) → ℕ → Result ℕ Refusal → MutBor (List ℕ) → Type 0) : Type 0 where
  pub takes : (p : Bor (List Float)) (w : MutBor (List ℕ)) (n : ℕ) → length p.now ≤ k → Room (length p.now) n w.now → pre p w n
  pub most : (p : Bor (List Float)) (w w' : MutBor (List ℕ)) (n : ℕ) (r : Result ℕ Refusal) → length p.now ≤ k → Room (length p.now) n w.now → post p w n r w' → few r ≤ n + length p.now
  pub least : (p : Bor (List Float)) (w w' : MutBor (List ℕ)) (n m : ℕ) → length p.now ≤ k → Room (length p.now) n w.now → post p w n (Ok m) w' → n ≤ m

-- and those that g tells
abbrev pub PutsAt : ℕ → (Bor (List Float) → MutBor (List ℕ) → ℕ → Result ℕ Refusal → MutBor (List ℕ) → Type 0) → (List Float → List Candidate → Outcome (List Candidate)) → Type 0
PutsAt k post g = (p : Bor (List Float)) (w w' : MutBor (List ℕ)) (n : ℕ) (r : Result ℕ Refusal) → length p.now ≤ k → Room (length p.now) n w.now → post p w n r w' → Behind (length p.now) (g p.now) n r w.now w'.now

-- ---- a candidate whose error is that at its place
abbrev pub place_of : Candidate → Float
place_of k = k.x

abbrev pub Right : Curve → Candidate → Type 0
Right c k = errors_for c (k.x ∷ []) ≡ gave (k.error ∷ [])

unfoldable pub EachRight : Curve → List Candidate → Type 0
EachRight c [] = Unit {0}
EachRight c (k ∷ l) = Right c k × EachRight c l

-- The errors are there from the candidate i of w to the n-th: all of them at their places, the places and what lies before and
-- beyond as it was.
pub record Settled (c : Curve) (i n : ℕ) (w w' : List ℕ) : Type 0 where
  pub new : List Candidate
  pub is : view w' n ≡ view w i ++ new
  pub right : EachRight c new
  pub places : map place_of (view w' n) ≡ map place_of (view w n)
  pub framed : Framed n w w'

-- the same where nothing was refused; where something was, those before i are as they were
pub record Tried (c : Curve) (i n : ℕ) (r : Result Unit Refusal) (w w' : List ℕ) : Type 0 where
  pub settled : r ≡ Ok tt → Settled c i n w w'
  pub front : view w' i ≡ view w i
  pub long : length w' ≡ length w
