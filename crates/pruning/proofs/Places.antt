-- The places that pruning keeps: n of them, strictly rising and each a place of the list, where the errors alternate in sign.
-- It refuses exactly where no n places, in rising order, hold such errors. Assumes nothing.
use Prim.Native.Nat.{ℕ, zero, suc, ◌+◌, ◌≤◌}
use mathlib.Core.Path.{◌≡◌, refl}
use mathlib.Core.List.{List, [], ◌∷◌}
use mathlib.Core.Bool.{true, ◌&&◌}
use mathlib.Core.Logic.{◌↔◌}
use native.Mathlib.Omega.{arith}
use native.Mathlib.Nat.{zero-add}
use native.Mathlib.Numerals.{add-one}
use borrow.Author.Tests.{leb-true}
use lib.Dec.{leb}
use lib.ListN.{length}
use lib.Ieee.{Float}
use Rattle.numbers.specs.Floats.{all_finite}
use Rattle.numbers.specs.Outcome.{refused, gave, unless}
use Rattle.numbers.specs.Loops.{tab}
use Rattle.pruning.specs.Alternation.{Sub, done, skip, keep, Alternate, Alternating, RisingFrom}
use Rattle.pruning.specs.Errors.{most_candidates, negative_at, size_at, places_of, kept_places, sized, prune_for, Fitting}
use Rattle.numbers.proofs.Order.{and_1, and_2}
use Rattle.numbers.proofs.Given.{unless_given}
use Rattle.pruning.proofs.Kept.{prune_gives, prune_refuses}

lower : (k n : ℕ) (u : List ℕ) → RisingFrom (suc k) n u → RisingFrom k n u
unfolding RisingFrom
lower k n [] r = tt
lower k n (i ∷ u) r = let h : suc k ≤ i = r.0 in (omega arith, r.1, r.2)

rising : {u l : List ℕ} → Sub u l → (m k n : ℕ) → k + m ≡ n → l ≡ tab (λ i. i) m k → RisingFrom k n u
unfolding RisingFrom tab
rising done m k n h e = tt
rising (skip {x} {u} {l} p) zero k n h e = absurd (let z : ◌≡◌ {A = ℕ} 0 1 = cc in omega arith)
rising (skip {x} {u} {l} p) (suc m) k n h e = lower k n u (rising p m (suc k) n (omega arith) (rest e))
  where
    rest : x ∷ l ≡ k ∷ tab (λ i. i) m (k + 1) → l ≡ tab (λ i. i) m (suc k)
    rest e = cc (add-one k)
rising (keep {x} {u} {l} p) zero k n h e = absurd (let z : ◌≡◌ {A = ℕ} 0 1 = cc in omega arith)
rising (keep {x} {u} {l} p) (suc m) k n h e = first e (rising p m (suc k) n (omega arith) (rest e))
  where
    rest : x ∷ l ≡ k ∷ tab (λ i. i) m (k + 1) → l ≡ tab (λ i. i) m (suc k)
    rest e = cc (add-one k)

    first : x ∷ l ≡ k ∷ tab (λ i. i) m (k + 1) → RisingFrom (suc k) n u → RisingFrom k n (x ∷ u)
    first e r = let z : k ≡ x = cc in rw (← z) (omega arith, omega arith, r)

module _ (e : List Float) (n : ℕ) where
  pub places_kept : (u : List ℕ) → kept_places e n ≡ gave u → Alternating (negative_at e) n u (places_of e)
  unfolding kept_places
  places_kept u h = prune_gives (negative_at e) (size_at e) n (places_of e) u h

  pub places_rise : (u : List ℕ) → kept_places e n ≡ gave u → RisingFrom 0 (length e) u
  places_rise u h = rising (places_kept u h).sub (length e) 0 (length e) (zero-add (length e)) refl

  pub places_refused : kept_places e n ≡ refused 13 ↔ ((u : List ℕ) → Sub u (places_of e) → Alternate (negative_at e) u → length u ≡ n → ⊥)
  unfolding kept_places
  places_refused = prune_refuses (negative_at e) (size_at e) n (places_of e)

-- ---- the leaf: within the limits and of finite errors it refuses with 13 exactly where no n of them, in order, alternate in sign;
-- and what it gives are always n places, in order, whose errors alternate
pub leaf_refused : (e : List Float) (n room : ℕ) → sized (length e) n room ≡ true → all_finite e ≡ true
    → prune_for e n room ≡ refused 13 ↔ ((u : List ℕ) → Sub u (places_of e) → Alternate (negative_at e) u → length u ≡ n → ⊥)
unfolding prune_for
leaf_refused e n room s f = rw (s, f) (places_refused e n)

pub leaf_gives : (e : List Float) (n room : ℕ) (u : List ℕ) → prune_for e n room ≡ gave u → Alternating (negative_at e) n u (places_of e)
unfolding prune_for
leaf_gives e n room u h =
    let a = unless_given (sized (length e) n room) 15 (unless (all_finite e) 9 (kept_places e n)) h in
    places_kept e n u (unless_given (all_finite e) 9 (kept_places e n) a.rest).rest

-- what `sized` lets through
pub fitting : (count n room : ℕ) → sized count n room ≡ true → Fitting count n room
fitting count n room h =
    let a = and_1 (leb 1 count && leb count most_candidates) (leb n room) h in
    record {
      some = leb-true 1 count (and_1 (leb 1 count) (leb count most_candidates) a);
      most = leb-true count most_candidates (and_2 (leb 1 count) (leb count most_candidates) a);
      fits = leb-true n room (and_2 (leb 1 count && leb count most_candidates) (leb n room) h);
    }
