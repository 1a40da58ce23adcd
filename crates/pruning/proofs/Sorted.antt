-- The sort by a key: no entry is below an earlier one, the entries are those that were given, and those of one key stay in
-- their order; for every list, also where a key is a NaN. Assumes nothing.
use Prim.Native.Nat.{suc, ◌+◌}
use mathlib.Core.Path.{◌≡◌, refl, ap, sym, ◌∙◌}
use mathlib.Core.List.{List, [], ◌∷◌, ◌++◌, append_assoc, append-nil}
use mathlib.Core.List.Permᴰ
use mathlib.Core.List.{Permᴰ}
use mathlib.Core.Bool.{Bool, true, false, cond}
use native.Mathlib.Omega.{arith}
use lib.ListN.{length}
use lib.Ieee.{Float, lt, eq}
use Rattle.numbers.proofs.Order.{no, lt_trans, lt_asym}
use Rattle.numbers.proofs.Chains.{eq_sym, eq_trans, eq_lt_trans, lt_eq_trans, lt-not_eq}
use Rattle.pruning.specs.Prune.{emit}
use Rattle.pruning.specs.Sort.{insert, onto, sorted, NoneBelow, Ordered, those}

emit-append : {A : Type 0} (t : Bool) (x : A) (p q : List A) → emit t x (p ++ q) ≡ emit t x p ++ q
emit-append true x p q = refl
emit-append false x p q = refl

-- what is not below v is not below a lesser u
not_below : (z u v : Float) → lt u v ≡ true → lt z v ≡ false → lt z u ≡ false
not_below z u v h k = pick (lt z u) refl
  where
    pick : (t : Bool) → lt z u ≡ t → t ≡ false
    pick true e = no (sym k ∙ lt_trans z u v e h)
    pick false e = refl

module _ {A : Type 0} (key : A → Float) where
  -- ---- order
  none_lower : (u v : Float) (l : List A) → lt u v ≡ true → NoneBelow key v l → NoneBelow key u l
  unfolding NoneBelow
  none_lower u v [] h n = tt
  none_lower u v (z ∷ l) h n = (not_below (key z) u v h n.0, none_lower u v l h n.1)

  insert_none : (v : Float) (c : A) (l : List A) → NoneBelow key v l → lt (key c) v ≡ false → NoneBelow key v (insert key c l)
  unfolding NoneBelow insert
  insert_none v c [] n h = (h, tt)
  insert_none v c (y ∷ l) n h = pick (lt (key c) (key y)) (insert_none v c l n.1 h)
    where
      pick : (t : Bool) → NoneBelow key v (insert key c l) → NoneBelow key v (cond t (c ∷ y ∷ l) (y ∷ insert key c l))
      pick true m = (h, n)
      pick false m = (n.0, m)

  pub insert_ordered : (c : A) (l : List A) → Ordered key l → Ordered key (insert key c l)
  unfolding NoneBelow Ordered insert
  insert_ordered c [] o = (tt, tt)
  insert_ordered c (y ∷ l) o = pick (lt (key c) (key y)) refl (insert_ordered c l o.1)
    where
      pick : (t : Bool) → lt (key c) (key y) ≡ t → Ordered key (insert key c l)
          → Ordered key (cond t (c ∷ y ∷ l) (y ∷ insert key c l))
      pick true e m = ((lt_asym (key c) (key y) e, none_lower (key c) (key y) l e o.0), o)
      pick false e m = (insert_none (key y) c l o.0 e, m)

  onto_ordered : (s l : List A) → Ordered key s → Ordered key (onto key s l)
  unfolding onto
  onto_ordered s [] o = o
  onto_ordered s (c ∷ l) o = onto_ordered (insert key c s) l (insert_ordered c s o)

  pub sorted_ordered : (l : List A) → Ordered key (sorted key l)
  unfolding Ordered
  sorted_ordered l = onto_ordered [] l tt

  -- ---- the same entries
  insert_same : (c : A) (l : List A) → Permᴰ (insert key c l) (c ∷ l)
  unfolding insert
  insert_same c [] = Permᴰ.refl (c ∷ [])
  insert_same c (y ∷ l) = pick (lt (key c) (key y)) (insert_same c l)
    where
      pick : (t : Bool) → Permᴰ (insert key c l) (c ∷ l)
          → Permᴰ (cond t (c ∷ y ∷ l) (y ∷ insert key c l)) (c ∷ y ∷ l)
      pick true d = Permᴰ.refl (c ∷ y ∷ l)
      pick false d = Permᴰ.trans (Permᴰ.cons refl d) (Permᴰ.swap refl refl)

  onto_same : (s l : List A) → Permᴰ (onto key s l) (l ++ s)
  unfolding onto
  onto_same s [] = Permᴰ.refl s
  onto_same s (c ∷ l) =
      Permᴰ.trans (onto_same (insert key c s) l)
      (Permᴰ.trans (Permᴰ.append_left l (insert_same c s)) (Permᴰ.middle c l s))

  pub sorted_same : (l : List A) → Permᴰ (sorted key l) l
  sorted_same l = Permᴰ.trans (onto_same [] l) (Permᴰ.append-nil l)

  -- ---- those of one key stay in their order
  -- where c has the key v and is below y, none of what follows y has it
  none_left : (v : Float) (c y : A) (l : List A) → eq (key c) v ≡ true
      → lt (key c) (key y) ≡ true → NoneBelow key (key y) l → those key v l ≡ []
  unfolding NoneBelow those
  none_left v c y [] e h n = refl
  none_left v c y (z ∷ l) e h n = pick (eq (key z) v) refl (none_left v c y l e h n.1)
    where
      pick : (t : Bool) → eq (key z) v ≡ t → those key v l ≡ [] → emit t z (those key v l) ≡ []
      pick true f m =
          no (sym n.0 ∙ eq_lt_trans (key z) (key c) (key y) (eq_trans (key z) v (key c) f (eq_sym (key c) v e)) h)
      pick false f m = m

  insert_stable : (v : Float) (c : A) (s : List A) → Ordered key s
      → those key v (insert key c s) ≡ those key v s ++ those key v (c ∷ [])
  unfolding insert those Ordered
  insert_stable v c [] o = refl
  insert_stable v c (y ∷ l) o = pick (lt (key c) (key y)) refl (insert_stable v c l o.1)
    where
      first : (t u : Bool) → eq (key c) v ≡ t → eq (key y) v ≡ u → lt (key c) (key y) ≡ true
          → emit t c (emit u y (those key v l)) ≡ emit u y (those key v l) ++ emit t c []
      first false u e f h = sym (append-nil _)
      first true true e f h = no (sym (lt-not_eq (key c) v (lt_eq_trans (key c) (key y) v h f)) ∙ e)
      first true false e f h = rw (none_left v c y l e h o.0)

      pick : (t : Bool) → lt (key c) (key y) ≡ t → those key v (insert key c l) ≡ those key v l ++ emit (eq (key c) v) c []
          → those key v (cond t (c ∷ y ∷ l) (y ∷ insert key c l))
          ≡ emit (eq (key y) v) y (those key v l) ++ emit (eq (key c) v) c []
      pick true h m = first (eq (key c) v) (eq (key y) v) refl refl h
      pick false h m = ap (emit (eq (key y) v) y) m ∙ emit-append (eq (key y) v) y (those key v l) (emit (eq (key c) v) c [])

  onto_stable : (v : Float) (s l : List A) → Ordered key s → those key v (onto key s l) ≡ those key v s ++ those key v l
  unfolding onto those
  onto_stable v s [] o = sym (append-nil _)
  onto_stable v s (c ∷ l) o =
      onto_stable v (insert key c s) l (insert_ordered c s o)
      ∙ ap (λ (p : List A). p ++ those key v l) (insert_stable v c s o)
      ∙ append_assoc (those key v s) (emit (eq (key c) v) c []) (those key v l)
      ∙ ap (λ (p : List A). those key v s ++ p) (sym (emit-append (eq (key c) v) c [] (those key v l)))

  pub sorted_stable : (v : Float) (l : List A) → those key v (sorted key l) ≡ those key v l
  unfolding those Ordered
  sorted_stable v l = onto_stable v [] l tt

  -- ---- as many, and one more at the end
  length_insert : (c : A) (l : List A) → length (insert key c l) ≡ suc (length l)
  unfolding insert
  length_insert c [] = refl
  length_insert c (y ∷ l) = pick (lt (key c) (key y)) (length_insert c l)
    where
      pick : (t : Bool) → length (insert key c l) ≡ suc (length l)
          → length (cond t (c ∷ y ∷ l) (y ∷ insert key c l)) ≡ suc (suc (length l))
      pick true m = refl
      pick false m = ap suc m

  length_onto : (s l : List A) → length (onto key s l) ≡ length s + length l
  unfolding onto
  length_onto s [] = omega arith
  length_onto s (c ∷ l) = length_onto (insert key c s) l ∙ omega (arith, length_insert c s)

  pub length_sorted : (l : List A) → length (sorted key l) ≡ length l
  length_sorted l = length_onto [] l ∙ omega arith

  onto_more : (s l : List A) (c : A) → onto key s (l ++ c ∷ []) ≡ insert key c (onto key s l)
  unfolding onto
  onto_more s [] c = refl
  onto_more s (y ∷ l) c = onto_more (insert key y s) l c

  pub sorted_more : (l : List A) (c : A) → sorted key (l ++ c ∷ []) ≡ insert key c (sorted key l)
  sorted_more l c = onto_more [] l c
