-- What pruning keeps: n of the entries, in their order, with alternating signs. It refuses exactly where no n entries
-- alternate. Assumes nothing.
use Prim.Native.Nat.{ℕ, zero, suc, ◌+◌, ◌-◌, ◌*◌, ◌/◌, ◌%◌, ◌≤◌, ◌<◌}
use mathlib.Core.Path.{◌≡◌, refl, ◌∙◌, subst}
use mathlib.Core.List.{List, [], ◌∷◌}
use mathlib.Core.Bool.{Bool, true, false, cond, not, ◌||◌}
use mathlib.Core.Logic.{◌↔◌}
use native.Mathlib.Omega.{arith}
use native.Mathlib.Nat.{not-suc-le-zero}
use borrow.Author.Tests.{leb-true, leb-false, eqb-true, eqb-false}
use lib.ListN.{length, take}
use lib.Seq.{length-take-le}
use lib.Dec.{leb, eqb}
use lib.Ieee.{Float, lt, le, unlike}
use Rattle.numbers.specs.Outcome.{refused, gave, unless}
use Rattle.pruning.specs.Alternation.{Sub, done, skip, keep, AlternateFrom, Alternate, Alternating}
use Rattle.pruning.specs.Prune.{emit, better, runs, runs_from, drop_pair, weaker, weakest_from, weakest}
use Rattle.pruning.specs.Prune.{without_pairs, last_from, without_end, cut, prune}
use Rattle.pruning.proofs.Alternation.{sub_trans, sub_refl, longest, like, better_sign}

sub_in : {A : Type 0} {b : A} {u l : List A} (a : A) → Sub u (b ∷ l) → Sub u (b ∷ a ∷ l)
sub_in a (skip p) = skip (skip p)
sub_in a (keep p) = keep (skip p)

sub_nil : {A : Type 0} (l : List A) → Sub [] l
sub_nil [] = done
sub_nil (x ∷ l) = skip (sub_nil l)

sub-take : {A : Type 0} (k : ℕ) (l : List A) → Sub (take k l) l
sub-take zero l = sub_nil l
sub-take (suc k) [] = done
sub-take (suc k) (x ∷ l) = keep (sub-take k l)

sub-pair : {A : Type 0} (i : ℕ) (l : List A) → Sub (drop_pair i l) l
unfolding drop_pair
sub-pair i [] = done
sub-pair i (x ∷ []) = keep done
sub-pair zero (x ∷ y ∷ l) = skip (skip (sub_refl l))
sub-pair (suc i) (x ∷ y ∷ l) = keep (sub-pair i (y ∷ l))

length-pair : {A : Type 0} (i : ℕ) (l : List A) → suc i < length l → length (drop_pair i l) + 2 ≡ length l
unfolding drop_pair
length-pair i [] h = absurd (not-suc-le-zero h)
length-pair i (x ∷ []) h = omega arith
length-pair zero (x ∷ y ∷ l) h = omega arith
length-pair (suc i) (x ∷ y ∷ l) h = omega (arith, length-pair i (y ∷ l) (omega arith))

module _ {A : Type 0} (negative : A → Bool) where
  alternate_of : (z : Bool) (u : List A) → AlternateFrom negative z u → Alternate negative u
  unfolding AlternateFrom Alternate
  alternate_of z [] a = tt
  alternate_of z (x ∷ u) a = a.1

  alternate_from_take : (k : ℕ) (z : Bool) (l : List A) → AlternateFrom negative z l → AlternateFrom negative z (take k l)
  unfolding AlternateFrom
  alternate_from_take zero z l a = tt
  alternate_from_take (suc k) z [] a = tt
  alternate_from_take (suc k) z (x ∷ l) a = (a.0, alternate_from_take k (negative x) l a.1)

  pub alternate_take : (k : ℕ) (l : List A) → Alternate negative l → Alternate negative (take k l)
  unfolding Alternate
  alternate_take zero l a = tt
  alternate_take (suc k) [] a = tt
  alternate_take (suc k) (x ∷ l) a = alternate_from_take k (negative x) l a

  alternate_from_pair : (i : ℕ) (z : Bool) (l : List A) → AlternateFrom negative z l → AlternateFrom negative z (drop_pair i l)
  unfolding AlternateFrom drop_pair
  alternate_from_pair i z [] a = a
  alternate_from_pair i z (x ∷ []) a = a
  alternate_from_pair zero z (x ∷ y ∷ l) a =
      subst (λ (w : Bool). AlternateFrom negative w l) (back z (negative x) (negative y) a.0 a.1.0) a.1.1
    where
      back : (z x y : Bool) → unlike z x ≡ true → unlike x y ≡ true → y ≡ z
      back true true y e f = cc
      back true false true e f = refl
      back true false false e f = cc
      back false false y e f = cc
      back false true true e f = cc
      back false true false e f = refl
  alternate_from_pair (suc i) z (x ∷ y ∷ l) a = (a.0, alternate_from_pair i (negative x) (y ∷ l) a.1)

  alternate_pair : (i : ℕ) (l : List A) → Alternate negative l → Alternate negative (drop_pair i l)
  unfolding Alternate AlternateFrom drop_pair
  alternate_pair i [] a = tt
  alternate_pair i (x ∷ []) a = tt
  alternate_pair zero (x ∷ y ∷ l) a = alternate_of (negative y) l a.1
  alternate_pair (suc i) (x ∷ y ∷ l) a = alternate_from_pair i (negative x) (y ∷ l) a

  module _ (size : A → Float) where
    abbrev from : A → List A → List A
    from b l = runs_from negative size b l

    abbrev next : A → A → A
    next b a = better negative size b a

    abbrev largest : List A → List A
    largest l = runs negative size l

    abbrev kept : ℕ → List A → List A
    kept n l = cut negative size n (largest l)

    abbrev enough : ℕ → List A → Bool
    enough n l = leb n (length (largest l))

    abbrev lesser : A → A → Float
    lesser x y = weaker negative size x y

    abbrev weak : List A → ℕ
    weak l = weakest negative size l

    runs_sub : (b : A) (l : List A) → Sub (from b l) (b ∷ l)
    unfolding runs_from
    runs_sub b [] = keep done
    runs_sub b (a ∷ l) = pick (unlike (negative b) (negative a)) (lt (size b) (size a)) (runs_sub (next b a) l)
      where
        pick : (t m : Bool) → Sub (from (cond (t || m) a b) l) (cond (t || m) a b ∷ l)
            → Sub (emit t b (from (cond (t || m) a b) l)) (b ∷ a ∷ l)
        pick true m p = keep p
        pick false true p = skip p
        pick false false p = sub_in a p

    runs_alternate : (z : Bool) (b : A) (l : List A) → unlike z (negative b) ≡ true → AlternateFrom negative z (from b l)
    unfolding runs_from AlternateFrom
    runs_alternate z b [] e = (e, tt)
    runs_alternate z b (a ∷ l) e = pick (unlike (negative b) (negative a)) refl (λ w f. runs_alternate w (next b a) l f)
      where
        s : negative (next b a) ≡ negative a
        s = better_sign negative size b a

        pick : (t : Bool) → unlike (negative b) (negative a) ≡ t
            → ((w : Bool) → unlike w (negative (next b a)) ≡ true → AlternateFrom negative w (from (next b a) l))
            → AlternateFrom negative z (emit t b (from (next b a) l))
        pick true f k = (e, k (negative b) (rw s f))
        pick false f k = k z (rw (s, ← like (negative b) (negative a) f) e)

    other : (z : Bool) → unlike (not z) z ≡ true
    other true = refl
    other false = refl

    pub runs_are : (l : List A) → Sub (largest l) l × Alternate negative (largest l)
    unfolding runs Alternate
    runs_are [] = (done, tt)
    runs_are (b ∷ l) =
        (runs_sub b l, alternate_of (not (negative b)) (from b l) (runs_alternate (not (negative b)) b l (other (negative b))))

    -- the pair that goes is a pair of the list
    weakest_below : (k best : ℕ) (v : Float) (x : A) (l : List A) → best < k → weakest_from negative size k best v x l < k + length l
    unfolding weakest_from
    weakest_below k best v x [] h = omega arith
    weakest_below k best v x (y ∷ l) h =
        let t = lt (lesser x y) v in
        omega (arith, weakest_below (suc k) _ (cond t (lesser x y) v) y l (pick t))
      where
        pick : (t : Bool) → cond t k best < suc k
        pick true = omega arith
        pick false = omega arith

    pub weakest_in : (l : List A) → 2 ≤ length l → suc (weak l) < length l
    unfolding weakest
    weakest_in [] h = absurd (not-suc-le-zero h)
    weakest_in (x ∷ []) h = omega arith
    weakest_in (x ∷ y ∷ l) h = omega (arith, weakest_below 1 0 (lesser x y) y l (omega arith))

    -- each pair that goes leaves entries that alternate, fewer by two
    pairs_good : (k n : ℕ) (l : List A) → length l ≡ n + 2 * k → Alternate negative l → Alternating negative n (without_pairs negative size k l) l
    unfolding without_pairs
    pairs_good zero n l e a = record { count = omega arith; sub = sub_refl l; alternate = a }
    pairs_good (suc k) n l e a =
        let w = weakest_in l (omega arith) in
        let h : length (drop_pair (weak l) l) ≡ n + 2 * k = omega (arith, length-pair (weak l) l w) in
        let g = pairs_good k n (drop_pair (weak l) l) h (alternate_pair (weak l) l a) in
        record { count = g.count; sub = sub_trans g.sub (sub-pair (weak l) l); alternate = g.alternate }

    end_good : (n : ℕ) (l : List A) → length l ≡ suc n → Alternate negative l → Alternating negative n (without_end negative size l) l
    unfolding without_end Alternate
    end_good n [] e a = record { count = omega arith; sub = done; alternate = tt }
    end_good n (x ∷ l) e a = pick (le (size (last_from negative size x l)) (size x))
      where
        pick : (t : Bool) → Alternating negative n (cond t (take (length l) (x ∷ l)) l) (x ∷ l)
        pick true =
            record {
              count = length-take-le (length l) (x ∷ l) (omega arith) ∙ omega arith;
              sub = sub-take (length l) (x ∷ l);
              alternate = alternate_take (length l) (x ∷ l) a;
            }
        pick false = record { count = omega arith; sub = skip (sub_refl l); alternate = alternate_of (negative x) l a }

    pub cut_good : (n : ℕ) (r : List A) → n ≤ length r → Alternate negative r → Alternating negative n (cut negative size n r) r
    cut_good n r h a = pick (eqb ((length r - n) % 2) 1) refl
      where
        pick : (t : Bool) → eqb ((length r - n) % 2) 1 ≡ t
            → Alternating negative n (without_pairs negative size ((length r - n) / 2) (cond t (without_end negative size r) r)) r
        pick true e =
            let o : (length r - n) % 2 ≡ 1 = eqb-true _ _ e in
            let f = end_good (length r - 1) r (omega arith) a in
            let g = pairs_good ((length r - n) / 2) n (without_end negative size r) (f.count ∙ omega arith) f.alternate in
            record { count = g.count; sub = sub_trans g.sub f.sub; alternate = g.alternate }
        pick false e =
            let o : ((length r - n) % 2 ≡ 1 → ⊥) = eqb-false _ _ e in
            pairs_good ((length r - n) / 2) n r (omega arith) a

    kept_of_fact : (n : ℕ) (l : List A) → n ≤ length (largest l) → Alternating negative n (kept n l) l
    kept_of_fact n l h =
        let g = cut_good n (largest l) h (runs_are l).1 in
        record { count = g.count; sub = sub_trans g.sub (runs_are l).0; alternate = g.alternate }

    -- what is given: n of the entries, in their order, with alternating signs
    pub prune_gives : (n : ℕ) (l u : List A) → prune negative size n l ≡ gave u → Alternating negative n u l
    unfolding prune
    prune_gives n l u e = pick (enough n l) refl e
      where
        pick : (t : Bool) → enough n l ≡ t → unless t 13 (gave (kept n l)) ≡ gave u → Alternating negative n u l
        pick false f q = let z : ◌≡◌ {A = ℕ} 0 1 = cc in absurd (omega arith)
        pick true f q =
            let p : kept n l ≡ u = cc in
            subst (λ (v : List A). Alternating negative n v l) p (kept_of_fact n l (leb-true _ _ f))

    -- it refuses where no n of the entries, in their order, alternate in sign, and nowhere else
    pub prune_refuses : (n : ℕ) (l : List A)
        → prune negative size n l ≡ refused 13 ↔ ((u : List A) → Sub u l → Alternate negative u → length u ≡ n → ⊥)
    unfolding prune
    prune_refuses n l = (there, back)
      where
        there : unless (enough n l) 13 (gave (kept n l)) ≡ refused 13
            → (u : List A) → Sub u l → Alternate negative u → length u ≡ n → ⊥
        there e u s a k = pick (enough n l) refl e
          where
            pick : (t : Bool) → enough n l ≡ t → unless t 13 (gave (kept n l)) ≡ refused 13 → ⊥
            pick false f q = omega (arith, leb-false n (length (largest l)) f, longest negative size l u s a, k)
            pick true f q = let z : ◌≡◌ {A = ℕ} 0 1 = cc in omega arith

        back : ((u : List A) → Sub u l → Alternate negative u → length u ≡ n → ⊥)
            → unless (enough n l) 13 (gave (kept n l)) ≡ refused 13
        back f = pick (enough n l) refl
          where
            pick : (t : Bool) → enough n l ≡ t → unless t 13 (gave (kept n l)) ≡ refused 13
            pick false h = refl
            pick true h =
                let g = kept_of_fact n l (leb-true _ _ h) in
                absurd (f (kept n l) g.sub g.alternate g.count)
