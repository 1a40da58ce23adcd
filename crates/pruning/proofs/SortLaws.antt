-- Insertion from behind: entries above the new one move up by one, and where the hole then is, it belongs. The sorted words are
-- the sorted view. Assumes nothing.
use Prim.Native.Nat.{ℕ, zero, suc, ◌+◌, ◌-◌, ◌*◌, ◌/◌, ◌≤◌, ◌<◌, min}
use mathlib.Core.Path.{◌≡◌, refl, ap, sym, ◌∙◌, subst}
use mathlib.Core.List.{List, [], ◌∷◌, ◌++◌, append_assoc, append-nil, map}
use mathlib.Core.Bool.{Bool, true, false, cond}
use native.Mathlib.Numerals.{add-one}
use native.Mathlib.Omega.{arith}
use borrow.Author.Tests.{leb-true, leb-false}
use lib.Dec.{leb}
use lib.ListN.{length, set, length-set, get_or, take, drop, length-append, drop_of_length-le, take-append-drop, get_or-append}
use lib.Seq.{drop-cons, drop-drop, take-suc, take-take, take_all, take_at, drop_at, get_or-take, get_or_at, set_at, split_at, length-take-le}
use lib.Ieee.{Float, lt, is_nan}
use Rattle.numbers.proofs.MapLaws.{map_take}
use Rattle.numbers.proofs.Order.{not-lt_trans}
use Rattle.numbers.proofs.WordLaws.{number_is_no_nan}
use Rattle.pruning.specs.declared.candidates.Raw.{Raw}
use Rattle.pruning.specs.Candidates.{candidate, raws, leftover, words_of, zeros, all, view, put_raw, Framed}
use Rattle.pruning.specs.Sort.{insert, onto, sorted, NoneBelow, Ordered, by_x, by_word, sorted_words, inserted_words, Insertable}
use Rattle.pruning.proofs.ViewLaws.{length-raws, raws_words, leftover_words, words_are, length-same, drop_words}
use Rattle.pruning.proofs.Sorted.{sorted_ordered, sorted_more, length_sorted}

module _ {A : Type 0} (key : A → Float) (d : A) where
  none_at : (v : Float) (l : List A) (j : ℕ) → NoneBelow key v l → j < length l → lt (key (get_or l j d)) v ≡ false
  unfolding NoneBelow
  none_at v [] j n h = absurd (omega arith)
  none_at v (x ∷ l) zero n h = n.0
  none_at v (x ∷ l) (suc j) n h = none_at v l j n.1 (omega arith)

  -- c belongs where the entry before is not above it, and the one after is
  pub insert_here : ((y : A) → is_nan (key y) ≡ false) → (c : A) (l : List A) (k : ℕ) → k ≤ length l → Ordered key l
      → ((j : ℕ) → suc j ≡ k → lt (key c) (key (get_or l j d)) ≡ false) → (k < length l → lt (key c) (key (get_or l k d)) ≡ true)
      → take k l ++ c ∷ drop k l ≡ insert key c l
  unfolding insert Ordered
  insert_here n c [] zero h o f g = refl
  insert_here n c [] (suc k) h o f g = absurd (omega arith)
  insert_here n c (y ∷ l) zero h o f g = rw (g (omega arith))
  insert_here n c (y ∷ l) (suc zero) h o f g =
      rw (f zero refl)
      (ap (λ (r : List A). y ∷ r) (insert_here n c l zero (omega arith) o.1 (λ j e. absurd (omega arith)) (λ q. g (omega arith))))
  insert_here n c (y ∷ l) (suc (suc k)) h o f g =
      let e : lt (key c) (key (get_or l k d)) ≡ false = f (suc k) refl in
      let t : lt (key c) (key y) ≡ false =
      not-lt_trans (key y) (key (get_or l k d)) (key c) (n (get_or l k d)) (none_at (key y) l k o.0 (omega arith)) e in
      rw t
      (ap (λ (r : List A). y ∷ r) (insert_here n c l (suc k) (omega arith) o.1 (λ j q. f (suc j) (ap suc q)) (λ q. g (omega arith))))

  -- ---- the hole at k: before it all is as it was, from it on everything up to i has moved up
  pub record Shifting (r : List A) (i : ℕ) (c : A) (k : ℕ) (s : List A) : Type 0 where
    pub within : k ≤ i
    pub above : k < i → lt (key c) (key (get_or r k d)) ≡ true
    pub hole : A
    pub rest : s ≡ take k r ++ hole ∷ (drop k (take i r) ++ drop (i + 1) r)

  module _ (r : List A) (i : ℕ) (inside : i < length r) (c : A) where
    front : length (take i r) ≡ i
    front = length-take-le i r (omega arith)

    pub shift_start : Shifting r i c i r
    shift_start =
        record {
          within = omega arith;
          above = λ h. absurd (omega arith);
          hole = get_or r i d;
          rest = rw (drop_of_length-le (take i r) {i = i} (omega (arith, front)), add-one i) (split_at r i d inside);
        }

    module _ {s : List A} where
      read_suc : (j : ℕ) → Shifting r i c (suc j) s → get_or s j d ≡ get_or r j d
      read_suc j a =
          let w : suc j ≤ i = a.within in
          let l : length (take (suc j) r) ≡ suc j = length-take-le (suc j) r (omega arith) in
          rw (
            a.rest,
            get_or-append (take (suc j) r) (a.hole ∷ (drop (suc j) (take i r) ++ drop (i + 1) r)) d j (omega arith),
            get_or-take (suc j) r j d (omega arith),
          )

      next_suc : (j : ℕ) → Shifting r i c (suc j) s → lt (key c) (key (get_or r j d)) ≡ true
          → Shifting r i c j (set s (suc j) (get_or r j d))
      next_suc j a t =
          let w : suc j ≤ i = a.within in
          let l : length (take (suc j) r) ≡ suc j = length-take-le (suc j) r (omega arith) in
          let q : drop j (take i r) ≡ get_or r j d ∷ drop (suc j) (take i r) =
          rw (drop-cons (take i r) j d (omega (arith, front)), get_or-take i r j d (omega arith)) in
          record {
            within = omega arith;
            above = λ h. t;
            hole = get_or r j d;
            rest =
                ap (λ (z : List A). set z (suc j) (get_or r j d)) a.rest
                ∙ set_at (take (suc j) r) a.hole (drop (suc j) (take i r) ++ drop (i + 1) r) (get_or r j d) (suc j) l
                ∙ rw (take-suc r j d (omega arith), append_assoc, q);
          }

      end_here : (k : ℕ) → ((y : A) → is_nan (key y) ≡ false) → Shifting r i c k s → Ordered key (take i r)
          → ((j : ℕ) → suc j ≡ k → lt (key c) (key (get_or r j d)) ≡ false) → set s k c ≡ insert key c (take i r) ++ drop (i + 1) r
      end_here k n a o f =
          let w : k ≤ i = a.within in
          let l : length (take k r) ≡ k = length-take-le k r (omega arith) in
          ap (λ (z : List A). set z k c) a.rest
          ∙ set_at (take k r) a.hole (drop k (take i r) ++ drop (i + 1) r) c k l
          ∙ ap (λ (z : List A). z ++ c ∷ (drop k (take i r) ++ drop (i + 1) r)) (sym (take-take k i r w))
          ∙ sym (append_assoc (take k (take i r)) (c ∷ drop k (take i r)) (drop (i + 1) r))
          ∙ ap (λ (z : List A). z ++ drop (i + 1) r)
          (insert_here n c (take i r) k (omega (arith, front)) o
          (λ j e. rw (get_or-take i r j d (omega arith)) (f j e))
          (λ h. rw (get_or-take i r k d (omega (arith, front))) (a.above (omega (arith, front)))))

      -- the same as the code counts
      pub shift_read : (k : ℕ) → Shifting r i c k s → 0 < k → get_or s (k - 1) d ≡ get_or r (k - 1) d
      shift_read k a h = let e : k ≡ suc (k - 1) = omega arith in read_suc (k - 1) (subst (λ (z : ℕ). Shifting r i c z s) e a)

      pub shift_next : (k : ℕ) → Shifting r i c k s → 0 < k → lt (key c) (key (get_or s (k - 1) d)) ≡ true
          → Shifting r i c (k - 1) (set s k (get_or s (k - 1) d))
      shift_next k a h t =
          let e : k ≡ suc (k - 1) = omega arith in
          let q = shift_read k a h in
          let n = next_suc (k - 1) (subst (λ (z : ℕ). Shifting r i c z s) e a) (rw q at t) in
          rw q (subst (λ (z : ℕ). Shifting r i c (k - 1) (set s z (get_or r (k - 1) d))) (sym e) n)

      pub shift_end : (k : ℕ) → ((y : A) → is_nan (key y) ≡ false) → Shifting r i c k s → Ordered key (take i r)
          → (0 < k → lt (key c) (key (get_or s (k - 1) d)) ≡ false) → set s k c ≡ insert key c (take i r) ++ drop (i + 1) r
      shift_end k n a o f = end_here k n a o (λ j e. before j e)
        where
          before : (j : ℕ) → suc j ≡ k → lt (key c) (key (get_or r j d)) ≡ false
          before j e =
              let p : 0 < k = omega arith in
              let z : k - 1 ≡ j = omega arith in
              rw (← z, ← shift_read k a p) (f p)

-- ---- on words
pub record Moving (w : List ℕ) (i : ℕ) (c : Raw) (k : ℕ) (w' : List ℕ) : Type 0 where
  pub long : length w' ≡ length w
  pub last : leftover w' ≡ leftover w
  pub shift : Shifting by_word zeros (raws w) i c k (raws w')

module _ (w : List ℕ) (i : ℕ) (inside : i < length w / 2) (c : Raw) where
  in_raws : i < length (raws w)
  in_raws = omega (arith, length-raws w)

  pub move_start : Moving w i c i w
  move_start = record { long = refl; last = refl; shift = shift_start by_word zeros (raws w) i in_raws c }

  module _ {k : ℕ} {v : List ℕ} (a : Moving w i c k v) where
    pub move_next : {p : Raw} → 0 < k → p ≡ get_or (raws v) (k - 1) zeros → lt (by_word c) (by_word p) ≡ true
        → Moving w i c (k - 1) (put_raw v k p)
    move_next {p} h e t =
        record {
          long = length-same (set (raws v) k p) v (length-set (raws v) k p) ∙ a.long;
          last = leftover_words (set (raws v) k p) v ∙ a.last;
          shift = rw (raws_words (set (raws v) k p) v, e) (shift_next by_word zeros (raws w) i in_raws c k a.shift h (rw e at t));
        }

    pub move_end : Ordered by_word (take i (raws w)) → c ≡ get_or (raws w) i zeros
        → (0 < k → lt (by_word c) (by_word (get_or (raws v) (k - 1) zeros)) ≡ false) → put_raw v k c ≡ inserted_words w i
    move_end o e f =
        rw (shift_end by_word zeros (raws w) i in_raws c k (λ y. number_is_no_nan y.x) a.shift o f, a.last)
        (ap (λ (z : Raw). words_of (insert by_word z (take i (raws w)) ++ drop (i + 1) (raws w)) (leftover w)) e)

-- ---- the first i sorted, and one more
pub sorted_start : (w : List ℕ) → w ≡ sorted_words w 0
unfolding sorted_words onto
sorted_start w = sym (words_are w)

module _ (w : List ℕ) (n : ℕ) where
  raws_sorted : raws (sorted_words w n) ≡ sorted by_word (take n (raws w)) ++ drop n (raws w)
  unfolding sorted_words
  raws_sorted = raws_words (sorted by_word (take n (raws w)) ++ drop n (raws w)) w

  leftover_sorted : leftover (sorted_words w n) ≡ leftover w
  unfolding sorted_words
  leftover_sorted = leftover_words (sorted by_word (take n (raws w)) ++ drop n (raws w)) w

  pub length_sorted_words : length (sorted_words w n) ≡ length w
  unfolding sorted_words
  length_sorted_words =
      length-same (sorted by_word (take n (raws w)) ++ drop n (raws w)) w
      (length-append (sorted by_word (take n (raws w))) (drop n (raws w))
      ∙ ap (λ (z : ℕ). z + length (drop n (raws w))) (length_sorted by_word (take n (raws w)))
      ∙ sym (length-append (take n (raws w)) (drop n (raws w)))
      ∙ ap length (take-append-drop n (raws w)))

module _ (w : List ℕ) (i : ℕ) (inside : i < length w / 2) where
  pairs : length (raws w) ≡ length w / 2
  pairs = length-raws w

  long : length (sorted by_word (take i (raws w))) ≡ i
  long = length_sorted by_word (take i (raws w)) ∙ length-take-le i (raws w) (omega (arith, pairs))

  pub sorted_insertable : Insertable (sorted_words w i) i
  sorted_insertable =
      record {
        inside = rw (length_sorted_words w i) inside;
        ordered =
            rw (raws_sorted w i, take_at (sorted by_word (take i (raws w))) (drop i (raws w)) i long)
            (sorted_ordered by_word (take i (raws w)));
      }

  pub sorted_next : inserted_words (sorted_words w i) i ≡ sorted_words w (i + 1)
  unfolding sorted_words
  sorted_next =
      let s = sorted by_word (take i (raws w)) in
      let h : i < length (raws w) = omega (arith, pairs) in
      let q : drop i (raws w) ≡ get_or (raws w) i zeros ∷ drop (suc i) (raws w) = drop-cons (raws w) i zeros h in
      let at : get_or (s ++ drop i (raws w)) i zeros ≡ get_or (raws w) i zeros =
      rw q (get_or_at s (get_or (raws w) i zeros) (drop (suc i) (raws w)) zeros i long) in
      let after : drop (i + 1) (s ++ drop i (raws w)) ≡ drop (i + 1) (raws w) =
      sym (drop-drop 1 i (s ++ drop i (raws w))) ∙ ap (drop 1) (drop_at s (drop i (raws w)) i long) ∙ drop-drop 1 i (raws w) in
      let more : sorted by_word (take (i + 1) (raws w)) ≡ insert by_word (get_or (raws w) i zeros) s =
      rw (add-one i, take-suc (raws w) i zeros h) (sorted_more by_word (take i (raws w)) (get_or (raws w) i zeros)) in
      rw (raws_sorted w i, leftover_sorted w i, at, after, take_at s (drop i (raws w)) i long, more)

-- more than there are is all
pub sorted-min : (w : List ℕ) (m n : ℕ) → m ≡ min n (length w / 2) → sorted_words w m ≡ sorted_words w n
unfolding sorted_words
sorted-min w m n e = pick (leb n (length (raws w))) refl
  where
    pick : (t : Bool) → leb n (length (raws w)) ≡ t
        → words_of (sorted by_word (take m (raws w)) ++ drop m (raws w)) (leftover w)
        ≡ words_of (sorted by_word (take n (raws w)) ++ drop n (raws w)) (leftover w)
    pick true t = let z : m ≡ n = omega (arith, leb-true n (length (raws w)) t, length-raws w) in rw z
    pick false t =
        let a : length (raws w) ≤ n = omega (arith, leb-false n (length (raws w)) t) in
        let b : length (raws w) ≤ m = omega (arith, leb-false n (length (raws w)) t, length-raws w) in
        rw (take_all n (raws w) a, take_all m (raws w) b, drop_of_length-le (raws w) {i = n} a, drop_of_length-le (raws w) {i = m} b)

-- ---- the view of the sorted words is the sorted view
map-insert : {A B : Type 0} (f : A → B) (key : B → Float) (c : A) (l : List A)
    → map f (insert (λ a. key (f a)) c l) ≡ insert key (f c) (map f l)
unfolding insert
map-insert f key c [] = refl
map-insert {A} {B} f key c (y ∷ l) = pick (lt (key (f c)) (key (f y))) (map-insert f key c l)
  where
    pick : (t : Bool) → map f (insert (λ a. key (f a)) c l) ≡ insert key (f c) (map f l)
        → map f (cond t (c ∷ y ∷ l) (y ∷ insert (λ a. key (f a)) c l)) ≡ cond t (f c ∷ f y ∷ map f l) (f y ∷ insert key (f c) (map f l))
    pick true e = refl
    pick false e = ap (λ (z : List B). f y ∷ z) e

map-onto : {A B : Type 0} (f : A → B) (key : B → Float) (s l : List A)
    → map f (onto (λ a. key (f a)) s l) ≡ onto key (map f s) (map f l)
unfolding onto
map-onto f key s [] = refl
map-onto f key s (c ∷ l) = map-onto f key (insert (λ a. key (f a)) c s) l ∙ ap (λ z. onto key z (map f l)) (map-insert f key c s)

front_is : {A : Type 0} (key : A → Float) (n : ℕ) (l : List A) → take n (sorted key (take n l) ++ drop n l) ≡ sorted key (take n l)
front_is key n l = pick (leb n (length l)) refl
  where
    pick : (t : Bool) → leb n (length l) ≡ t → take n (sorted key (take n l) ++ drop n l) ≡ sorted key (take n l)
    pick true t =
        take_at (sorted key (take n l)) (drop n l) n (length_sorted key (take n l) ∙ length-take-le n l (leb-true n (length l) t))
    pick false t =
        let h : length l ≤ n = omega (arith, leb-false n (length l) t) in
        rw (drop_of_length-le l {i = n} h, append-nil, take_all n l h) (take_all n (sorted key l) (omega (arith, length_sorted key l)))

pub view-sorted : (w : List ℕ) (n : ℕ) → view (sorted_words w n) n ≡ sorted by_x (view w n)
unfolding all
view-sorted w n =
    rw (
      raws_sorted w n,
      ← map_take candidate n (sorted by_word (take n (raws w)) ++ drop n (raws w)),
      front_is by_word n (raws w),
    )
    (map-onto candidate by_x [] (take n (raws w)) ∙ ap (sorted by_x) (map_take candidate n (raws w)))

-- beyond them every word stays
framed_within : (w : List ℕ) (n : ℕ) → n ≤ length w / 2 → Framed n w (sorted_words w n)
unfolding sorted_words
framed_within w n h =
    let l : length (take n (raws w)) ≡ n = length-take-le n (raws w) (omega (arith, length-raws w)) in
    record {
      long = length_sorted_words w n;
      rest =
          drop_words (sorted by_word (take n (raws w))) (drop n (raws w)) (leftover w) n (length_sorted by_word (take n (raws w)) ∙ l)
          ∙ sym (drop_words (take n (raws w)) (drop n (raws w)) (leftover w) n l)
          ∙ ap (drop (2 * n)) (ap (λ (z : List Raw). words_of z (leftover w)) (take-append-drop n (raws w)) ∙ words_are w);
    }

pub framed_sorted : (w : List ℕ) (n : ℕ) → Framed (min n (length w / 2)) w (sorted_words w n)
framed_sorted w n = rw (sorted-min w (min n (length w / 2)) n refl) at (framed_within w (min n (length w / 2)) (omega arith))
