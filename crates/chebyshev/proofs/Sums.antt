-- Clenshaw's sums, the places side by side: each place ends with its own sum. Assumes nothing.
use Prim.Native.Nat.{ℕ, ◌-◌, ◌<◌, ◌≤◌}
use mathlib.Core.Path.{◌≡◌, sym, ap, ◌∙◌}
use mathlib.Core.List.{List, ◌++◌}
use native.Mathlib.Omega.{arith}
use native.Mathlib.Nat.{zero-add}
use lib.ListN.{length, get_or, take, drop, replicate, get_or-replicate}
use lib.Seq.{length-take-le, take_at, get_or-take}
use lib.Ieee.{Float, nan}
use Rattle.numbers.specs.Floats.{zero64}
use Rattle.numbers.specs.Operations.{◌⊕◌, ◌⊖◌, ◌⊗◌, ◌⊘◌}
use Rattle.numbers.specs.Loops.{run}
use Rattle.numbers.proofs.Lanes.{row, lanes, tab-same, tab-get}
use Rattle.numbers.proofs.InPlace.{zip_length, zip_get}
use Rattle.angles.specs.Constants.{two}
use Rattle.chebyshev.specs.declared.Pair.{Pair}
use Rattle.chebyshev.specs.Angles.{whole}
use Rattle.chebyshev.specs.Coefficients.{clenshaw_step, clenshaw}
use Rattle.chebyshev.specs.Places.{pair, pairs, no_pair, ended, scaled, summed}

-- what each place starts with: two lists of which each repeats its number
module _ (m : ℕ) (v w : Float) (h : m ≤ 64) where
  abbrev pub started : List Pair
  started = pairs (take m (replicate 64 v)) (take m (replicate 64 w))

  first_length : length (take m (replicate 64 v)) ≡ m
  first_length = length-take-le m (replicate 64 v) h

  second_length : length (take m (replicate 64 w)) ≡ m
  second_length = length-take-le m (replicate 64 w) h

  started_length : length started ≡ m
  started_length = zip_length pair (take m (replicate 64 v)) (take m (replicate 64 w)) (first_length ∙ sym second_length) ∙ first_length

  started_at : (k : ℕ) → k < m → get_or started k no_pair ≡ pair v w
  started_at k q =
      let l : k < 64 = omega arith in
      zip_get pair (take m (replicate 64 v)) (take m (replicate 64 w)) k nan nan no_pair (omega (arith, first_length)) (omega (arith, second_length))
      ∙ (λ i. pair ((get_or-take m (replicate 64 v) k nan q ∙ get_or-replicate 64 k v nan l) i) ((get_or-take m (replicate 64 w) k nan q ∙ get_or-replicate 64 k w nan l) i))

-- every place after the turns: the sums, with the last turn and the scale, are the definition's
module _ (a x b c : List Float) (n : Float) (p : length x ≤ 64) (hb : length b ≡ length x) (hc : length c ≡ length x) where
  abbrev pub lane_turn : ℕ → ℕ → Pair → Pair
  lane_turn k = clenshaw_step a (get_or x k nan)

  abbrev pub last : Float
  last = get_or a (length a - 1) nan

  abbrev pub after_turns : List Pair
  after_turns = run (row lane_turn (length x) no_pair) (length a - 2) 0 (started (length x) last zero64 p)

  place_ends : pairs b c ≡ after_turns → (k : ℕ) → k < length x → pair (get_or b k nan) (get_or c k nan) ≡ run (lane_turn k) (length a - 2) 0 (pair last zero64)
  place_ends e k q =
      sym (zip_get pair b c k nan nan no_pair (omega arith) (omega arith))
      ∙ ap (λ l. get_or l k no_pair) (e ∙ lanes lane_turn (length x) no_pair (length a - 2) 0 (started (length x) last zero64 p) (started_length (length x) last zero64 p))
      ∙ tab-get (λ k. run (lane_turn k) (length a - 2) 0 (get_or (started (length x) last zero64 p) k no_pair)) (length x) k no_pair q
      ∙ ap (run (lane_turn k) (length a - 2) 0) (started_at (length x) last zero64 p k q)

  pub places_end : pairs b c ≡ after_turns → n ≡ whole (length a - 1) → ended x (get_or a 0 nan) (two ⊘ n) b c ≡ summed a x
  unfolding clenshaw
  places_end e w =
      tab-same (λ k. ((get_or x k nan ⊗ get_or b k nan ⊖ get_or c k nan) ⊕ get_or a 0 nan) ⊗ (two ⊘ n)) (λ k. scaled a (get_or x k nan)) (length x) 0
      (λ k l q. (λ i. ((get_or x k nan ⊗ (place_ends e k (rw zero-add at q) i).b1 ⊖ (place_ends e k (rw zero-add at q) i).b2) ⊕ get_or a 0 nan) ⊗ (two ⊘ w i)))

-- a turn at the front of two longer lists
pub turn_back : (m : ℕ) (u v b c : List Float) (r : List Pair) → length u ≡ m → length v ≡ m → pairs u v ≡ r → pairs (take m (u ++ drop m b)) (take m (v ++ drop m c)) ≡ r
turn_back m u v b c r hu hv e = rw (take_at u (drop m b) m hu, take_at v (drop m c) m hv) e
