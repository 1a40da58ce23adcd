-- Why a node need be looked for only where the quotient is a NaN: at a node a point's term is not finite, then neither sum is,
-- and the quotient of two such is a NaN. No number need be finite for it. Assumes nothing.
use Prim.Native.Nat.{ℕ, zero, suc, ◌+◌}
use mathlib.Core.Path.{◌≡◌, refl}
use mathlib.Core.Bool.{Bool, true, false, cond}
use mathlib.Core.List.{List}
use lib.ListN.{length, get_or}
use lib.Ieee.{Float, nan, binary64, eq}
use lib.Ieee.Scale.{finite}
use Rattle.numbers.specs.Operations.{◌⊖◌, ◌⊗◌, ◌⊘◌}
use Rattle.numbers.specs.Loops.{run, until}
use Rattle.numbers.proofs.NotFinite.{add_left_not_finite, add_right_not_finite, mul_left_not_finite, div-not_finite, over_difference}
use Rattle.barycentric.specs.declared.Sums.{Sums}
use Rattle.barycentric.specs.Delta.{no_sums, quotient}
use Rattle.barycentric.specs.Response.{is_node, response_step, response_of}
use Rattle.barycentric.specs.Lanes.{node_or, settle}

-- neither sum is finite
record NotFinite (s : Sums) : Type 0 where
  above : finite s.numer ≡ false
  below : finite s.denom ≡ false

quotient_nan : {s : Sums} → NotFinite s → quotient s ≡ nan
quotient_nan {s} a = div-not_finite binary64 s.numer s.denom a.above a.below

settle-same : (b : Bool) (q : Float) → cond b q q ≡ q
settle-same true q = refl
settle-same false q = refl

settle_nan : (q a : Float) → q ≡ nan → cond (eq q q) q a ≡ a
unfolding eq
settle_nan q a e = rw e

-- a turn of both searches, by whether it finds a node
turn : (b : Bool) (q a r r' : Float) → (b ≡ true → q ≡ nan) → cond (eq q q) q r ≡ r' → cond (eq q q) q (cond b a r) ≡ cond b a r'
turn true q a r r' h e = settle_nan q a (h refl)
turn false q a r r' h e = e

module _ (x0 : Float) (x w y : List Float) where
  abbrev step : ℕ → Sums → Sums
  step = response_step x0 x w y

  abbrev term : ℕ → Float
  term i = get_or w i nan ⊘ (x0 ⊖ get_or x i nan)

  step_keeps : (i : ℕ) (s : Sums) → NotFinite s → NotFinite (step i s)
  step_keeps i s a =
      record {
        above = add_left_not_finite binary64 s.numer (term i ⊗ get_or y i nan) a.above;
        below = add_left_not_finite binary64 s.denom (term i) a.below;
      }

  run_keeps : (n i : ℕ) (s : Sums) → NotFinite s → NotFinite (run step n i s)
  unfolding run
  run_keeps zero i s a = a
  run_keeps (suc n) i s a = run_keeps n (i + 1) (step i s) (step_keeps i s a)

  node_makes : (i : ℕ) (s : Sums) → is_node x0 x i ≡ true → NotFinite (step i s)
  node_makes i s e =
      let t : finite (term i) ≡ false = over_difference binary64 (get_or w i nan) x0 (get_or x i nan) e in
      record {
        above = add_right_not_finite binary64 s.numer (term i ⊗ get_or y i nan) (mul_left_not_finite binary64 (term i) (get_or y i nan) t);
        below = add_right_not_finite binary64 s.denom (term i) t;
      }

  settles : (n i : ℕ) (s : Sums)
      → (let q = quotient (run step n i s) in cond (eq q q) q (until (is_node x0 x) (λ i. get_or y i nan) (λ i s. s) (λ s. s) n i q))
      ≡ until (is_node x0 x) (λ i. get_or y i nan) step quotient n i s
  unfolding run until
  settles zero i s = settle-same (eq (quotient s) (quotient s)) (quotient s)
  settles (suc n) i s =
      turn (is_node x0 x i) (quotient (run step n (i + 1) (step i s))) (get_or y i nan) _ _
      (λ e. quotient_nan (run_keeps n (i + 1) (step i s) (node_makes i s e)))
      (settles n (i + 1) (step i s))

  -- the response is what settling the quotient of the whole sums gives
  pub response_settles : settle x0 x y (quotient (run (response_step x0 x w y) (length x) 0 no_sums)) ≡ response_of x0 x w y
  unfolding node_or response_of
  response_settles = settles (length x) 0 no_sums
