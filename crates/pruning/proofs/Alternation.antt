-- However some of the entries are chosen in their order: if their signs alternate, they are no more than the runs. Assumes nothing.
use Prim.Native.Nat.{ℕ, suc, ◌+◌, ◌≤◌}
use mathlib.Core.Path.{◌≡◌, refl, subst}
use mathlib.Core.List.{List, [], ◌∷◌}
use mathlib.Core.Bool.{Bool, true, false, cond, not, ◌||◌}
use mathlib.Core.Logic.{◌⊎◌, inl, inr, ⊎_elim}
use native.Mathlib.Omega.{arith}
use lib.ListN.{length}
use lib.Ieee.{Float, lt, unlike}
use Rattle.pruning.specs.Alternation.{Sub, done, skip, keep, AlternateFrom, Alternate}
use Rattle.pruning.specs.Prune.{emit, turned, better, runs, runs_from}

-- ---- signs
pub like : (z y : Bool) → unlike z y ≡ false → z ≡ y
like true true e = refl
like true false e = cc
like false true e = cc
like false false e = refl

-- ---- some of a list
pub no_sub : {A : Type 0} {x : A} {u l : List A} → Sub (x ∷ u) l → l ≡ [] → ⊥
no_sub (skip p) e = let z : ◌≡◌ {A = ℕ} 0 1 = cc in omega arith
no_sub (keep p) e = let z : ◌≡◌ {A = ℕ} 0 1 = cc in omega arith

pub sub_trans : {A : Type 0} {u v w : List A} → Sub u v → Sub v w → Sub u w
sub_trans p done = p
sub_trans p (skip q) = skip (sub_trans p q)
sub_trans (skip p) (keep q) = skip (sub_trans p q)
sub_trans (keep p) (keep q) = keep (sub_trans p q)

pub sub_refl : {A : Type 0} (l : List A) → Sub l l
sub_refl [] = done
sub_refl (x ∷ l) = keep (sub_refl l)

bit : (t : Bool) → cond t 1 0 ≤ 1
bit true = omega arith
bit false = omega arith

module _ {A : Type 0} (negative : A → Bool) where
  -- how often the sign changes, from z on
  unfoldable changes : Bool → List A → ℕ
  changes z [] = 0
  changes z (x ∷ l) = cond (unlike z (negative x)) 1 0 + changes (negative x) l

  -- the sign that the count starts from matters by one at most
  drift : (z y : Bool) (l : List A) → changes z l ≤ suc (changes y l)
  unfolding changes
  drift z y [] = omega arith
  drift z y (x ∷ l) = omega (arith, bit (unlike z (negative x)))

  passed : (t z : Bool) (x : A) (l : List A) (n : ℕ) → unlike z (negative x) ≡ t → n ≤ changes z l
      → n ≤ cond t 1 0 + changes (negative x) l
  passed true z x l n e h = omega (arith, drift z (negative x) l)
  passed false z x l n e h = omega (arith, subst (λ (y : Bool). n ≤ changes y l) (like z (negative x) e) h)

  -- entries that alternate and start unlike z are no more than the changes from z on
  short : {u l : List A} → Sub u l → (z : Bool) → AlternateFrom negative z u → length u ≤ changes z l
  unfolding AlternateFrom changes
  short done z a = omega arith
  short (skip {x} {u} {l} p) z a = passed (unlike z (negative x)) z x l (length u) refl (short p z a)
  short (keep {x} {u} {l} p) z a = rw a.0 (omega (arith, short p (negative x) a.1))

  -- the signs alternate: either the first is unlike z, or it is unlike the other
  starts : (z : Bool) (u : List A) → Alternate negative u → AlternateFrom negative z u ⊎ AlternateFrom negative (not z) u
  unfolding AlternateFrom Alternate
  starts z [] a = inl tt
  starts true (x ∷ u) a = pick (negative x) refl
    where
      pick : (y : Bool) → negative x ≡ y → AlternateFrom negative true (x ∷ u) ⊎ AlternateFrom negative false (x ∷ u)
      pick true e = inr (rw e, a)
      pick false e = inl (rw e, a)
  starts false (x ∷ u) a = pick (negative x) refl
    where
      pick : (y : Bool) → negative x ≡ y → AlternateFrom negative false (x ∷ u) ⊎ AlternateFrom negative true (x ∷ u)
      pick true e = inl (rw e, a)
      pick false e = inr (rw e, a)

  unlike_self : (z : Bool) → unlike z z ≡ false
  unlike_self true = refl
  unlike_self false = refl

  unlike_not : (z : Bool) → unlike (not z) z ≡ true
  unlike_not true = refl
  unlike_not false = refl

  -- so entries that alternate are one more than the changes, at most
  short_all : (b : A) (l u : List A) → Sub u (b ∷ l) → Alternate negative u → length u ≤ suc (changes (negative b) l)
  unfolding changes
  short_all b l u p a = ⊎_elim
      (λ f. omega (arith, rw (unlike_self (negative b)) at (short p (negative b) f)))
      (λ f. omega (arith, rw (unlike_not (negative b)) at (short p (not (negative b)) f)))
      (starts (negative b) u a)

  -- ---- the runs
  module _ (size : A → Float) where
    -- what takes b's place has a's sign
    pub better_sign : (b a : A) → negative (better negative size b a) ≡ negative a
    better_sign b a = pick (unlike (negative b) (negative a)) (lt (size b) (size a)) refl
      where
        pick : (t m : Bool) → unlike (negative b) (negative a) ≡ t → negative (cond (t || m) a b) ≡ negative a
        pick true m e = refl
        pick false true e = refl
        pick false false e = like (negative b) (negative a) e

    length_emit : (t : Bool) (b : A) (r : List A) → length (emit t b r) ≡ cond t 1 0 + length r
    length_emit true b r = omega arith
    length_emit false b r = omega arith

    -- as many runs as changes, and one
    runs_count : (b : A) (l : List A) → length (runs_from negative size b l) ≡ suc (changes (negative b) l)
    unfolding runs_from changes
    runs_count b [] = refl
    runs_count b (a ∷ l) =
        let e = better_sign b a in
        let r = runs_from negative size (better negative size b a) l in
        let h : length r ≡ suc (changes (negative a) l) = rw e at (runs_count (better negative size b a) l) in
        omega (arith, length_emit (turned negative size b a) b r)

    -- entries that alternate are no more than the runs
    pub longest : (l u : List A) → Sub u l → Alternate negative u → length u ≤ length (runs negative size l)
    unfolding runs
    longest [] [] p a = omega arith
    longest [] (x ∷ u) p a = absurd (no_sub p refl)
    longest (b ∷ l) u p a = rw (runs_count b l) (short_all b l u p a)
