-- A gap that is closed by moving entries down, and what goes with it: an end, or the weakest pair. Assumes nothing.
use Prim.Native.Nat.{ℕ, zero, suc, ◌+◌, ◌-◌, ◌/◌, ◌%◌, ◌≤◌, ◌<◌}
use mathlib.Core.Path.{◌≡◌, refl, ap, sym, ◌∙◌}
use mathlib.Core.List.{List, [], ◌∷◌, ◌++◌}
use mathlib.Core.Bool.{Bool, true, false, cond}
use native.Mathlib.Nat.{not-suc-le-zero}
use native.Mathlib.Omega.{arith}
use borrow.Author.Tests.{le-leb, lt-leb, eq-eqb, ne_eqb}
use lib.ListN.{length, get_or, take, drop}
use lib.Seq.{get_or-take, length-take-le, take-take, take-paste}
use lib.Ieee.{Float, le}
use Rattle.std.specs.List.{copy_within}
use Rattle.std.proofs.lemmas.List.{drop-take, length-drop}
use Rattle.numbers.specs.Outcome.{refused, gave}
use Rattle.pruning.specs.Prune.{without, drop_pair, weakest, without_pairs, last_from, without_end, cut, runs, prune}
use Rattle.pruning.proofs.Kept.{weakest_in}

-- ---- of the first n of l those from i + gap on moved down to i
pub closed : {A : Type 0} (n i gap : ℕ) (l : List A) → i + gap ≤ n → n ≤ length l → take (n - gap) (copy_within l (i + gap) n i) ≡ without i gap (take n l)
closed n i gap l h k =
    let d : ℕ = n - (i + gap) in
    let a : n - gap ≡ i + d = omega arith in
    let b : n ≡ i + gap + d = omega arith in
    let f : take i (take n l) ≡ take i l = take-take i n l (omega arith) in
    let g : drop (i + gap) (take n l) ≡ take d (drop (i + gap) l) = ap (λ m. drop (i + gap) (take m l)) b ∙ drop-take (i + gap) d l in
    ap (λ m. take m (copy_within l (i + gap) n i)) a
    ∙ take-paste l i (drop (i + gap) l) d (omega arith) (omega (arith, length-drop (i + gap) l))
    ∙ (λ j. sym f j ++ sym g j)

pair_is : {A : Type 0} (i : ℕ) (l : List A) → i + 2 ≤ length l → drop_pair i l ≡ without i 2 l
unfolding drop_pair
pair_is i [] h = absurd (omega arith)
pair_is i (x ∷ []) h = absurd (omega arith)
pair_is zero (x ∷ y ∷ l) h = refl
pair_is {A} (suc i) (x ∷ y ∷ l) h =
    let e : suc i + 2 ≡ suc (i + 2) = omega arith in
    rw e (ap (λ (r : List A). x ∷ r) (pair_is i (y ∷ l) (omega arith)))

module _ {A : Type 0} (negative : A → Bool) (size : A → Float) where
  -- ---- pairs still to go: k entries are left of which n are to stay
  pub record Dropping (n k : ℕ) (l r : List A) : Type 0 where
    pub within : n ≤ k
    pub even : (k - n) % 2 ≡ 0
    pub rest : without_pairs negative size ((k - n) / 2) (take k l) ≡ r

  -- the weakest pair is one of the list
  pub pair_inside : (k : ℕ) (l : List A) → k ≤ length l → 2 ≤ k → weakest negative size (take k l) + 2 ≤ k
  pair_inside k l f h =
      let g : length (take k l) ≡ k = length-take-le k l f in
      omega (arith, weakest_in negative size (take k l) (omega arith))

  pub pairs_next : {n k w : ℕ} {l l' r : List A} → Dropping n k l r → k ≤ length l → n < k → w ≡ weakest negative size (take k l)
      → take (k - 2) l' ≡ without w 2 (take k l) → Dropping n (k - 2) l' r
  unfolding without_pairs
  pairs_next {n} {k} {w} {l} {l'} {r} a f h e t =
      let o : (k - n) % 2 ≡ 0 = a.even in
      let s : (k - n) / 2 ≡ suc ((k - 2 - n) / 2) = omega arith in
      let g : length (take k l) ≡ k = length-take-le k l f in
      let i : w + 2 ≤ length (take k l) = omega (arith, pair_inside k l f (omega arith)) in
      let q : take (k - 2) l' ≡ drop_pair (weakest negative size (take k l)) (take k l) =
      t ∙ sym (pair_is w (take k l) i) ∙ ap (λ (z : ℕ). drop_pair z (take k l)) e in
      record { within = omega arith; even = omega arith; rest = rw q (rw s at a.rest) }

  pub pairs_end : {n k : ℕ} {l r : List A} → Dropping n k l r → k ≤ n → take n l ≡ r
  unfolding without_pairs
  pairs_end {n} {k} {l} {r} a h =
      let w : n ≤ k = a.within in
      let e : k ≡ n = omega arith in
      let z : (k - n) / 2 ≡ 0 = omega arith in
      rw (z, e) at a.rest

  -- ---- an end goes
  last_is : (d x : A) (l : List A) → last_from negative size x l ≡ get_or (x ∷ l) (length l) d
  unfolding last_from
  last_is d x [] = refl
  last_is d x (y ∷ l) = last_is d y l

  end_is : (d : A) (l : List A) → 0 < length l
      → without_end negative size l ≡ cond (le (size (get_or l (length l - 1) d)) (size (get_or l 0 d))) (take (length l - 1) l) (drop 1 l)
  unfolding without_end
  end_is d [] h = absurd (not-suc-le-zero h)
  end_is d (x ∷ l) h = let e : suc (length l) - 1 ≡ length l = omega arith in rw (e, last_is d x l)

  module _ (d : A) (l : List A) (m : ℕ) (fits : m ≤ length l) (some : 1 ≤ m) where
    end_of : without_end negative size (take m l)
        ≡ cond (le (size (get_or l (m - 1) d)) (size (get_or l 0 d))) (take (m - 1) (take m l)) (drop 1 (take m l))
    end_of =
        let here : length (take m l) ≡ m = length-take-le m l fits in
        rw (← get_or-take m l (m - 1) d (omega arith), ← get_or-take m l 0 d (omega arith)) (rw here at (end_is d (take m l) (omega arith)))

    pub end_last : le (size (get_or l (m - 1) d)) (size (get_or l 0 d)) ≡ true → take (m - 1) l ≡ without_end negative size (take m l)
    end_last t = rw (end_of, t, take-take (m - 1) m l (omega arith))

    pub end_first : le (size (get_or l (m - 1) d)) (size (get_or l 0 d)) ≡ false → without 0 1 (take m l) ≡ without_end negative size (take m l)
    end_first t = rw (end_of, t)

  -- ---- the whole cut of the first m
  module _ (n m : ℕ) (l : List A) (fits : m ≤ length l) where
    here : length (take m l) ≡ m
    here = length-take-le m l fits

    pub cut_odd : (m - n) % 2 ≡ 1 → (l' : List A) {u : List A} → take (m - 1) l' ≡ without_end negative size (take m l)
        → u ≡ without_pairs negative size ((m - 1 - n) / 2) (take (m - 1) l') → u ≡ cut negative size n (take m l)
    cut_odd o l' {u} e f =
        let s : (m - 1 - n) / 2 ≡ (m - n) / 2 = omega arith in
        rw (here, eq-eqb ((m - n) % 2) 1 o, f, e, s)

    pub cut_even : {u : List A} → ((m - n) % 2 ≡ 1 → ⊥)
        → u ≡ without_pairs negative size ((m - n) / 2) (take m l) → u ≡ cut negative size n (take m l)
    cut_even {u} o f = rw (here, ne_eqb ((m - n) % 2) 1 o, f)

  -- ---- the outcome, where the first m are the runs of all
  module _ (n m : ℕ) (l all : List A) (fits : m ≤ length l) (are : take m l ≡ runs negative size all) where
    many : length (runs negative size all) ≡ m
    many = rw are at (length-take-le m l fits)

    pub too_few : m < n → refused 13 ≡ prune negative size n all
    unfolding prune
    too_few h = rw (many, lt-leb n m h)

    pub kept_are : {u : List A} → n ≤ m → u ≡ cut negative size n (take m l) → gave u ≡ prune negative size n all
    unfolding prune
    kept_are {u} h e = rw (e, are, many, le-leb n m h)
