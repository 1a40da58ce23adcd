-- Candidates in words: reading, writing, and what a write leaves as it was. Assumes nothing.
use Prim.Native.Nat.{ℕ, zero, suc, ◌+◌, ◌-◌, ◌*◌, ◌/◌, ◌≤◌, ◌<◌}
use mathlib.Core.Path.{◌≡◌, refl, ap, sym, ◌∙◌}
use mathlib.Core.List.{List, [], ◌∷◌, ◌++◌, map}
use mathlib.Core.Bool.{not}
use native.Mathlib.Numerals.{add-one}
use native.Mathlib.Nat.{not-suc-le-zero}
use native.Mathlib.Omega.{arith}
use lib.Dec.{T}
use lib.ListN.{length, set, get_or, drop, length-map, length-set, get_or-map, get_or-eq_default}
use lib.Seq.{take-set-lt, take-suc-set, length-take-le, set_out, get_or-drop, drop-drop}
use lib.Ieee.{binary64, fits, is_nan, nan_bits}
use Rattle.numbers.specs.Words.{of_word}
use Rattle.numbers.proofs.MapLaws.{map_set}
use Rattle.numbers.proofs.WordLaws.{again, back}
use Rattle.pruning.specs.declared.candidates.Candidate.{Candidate}
use Rattle.pruning.specs.declared.candidates.Raw.{Raw}
use Rattle.pruning.specs.Candidates.{candidate, raw_of, raws, leftover, words_of, zeros, none, all, view, put_raw, put, written, Framed}

two : (i : ℕ) → 2 * suc i ≡ suc (suc (2 * i))
two i = omega arith

two_one : (i : ℕ) → 2 * suc i + 1 ≡ suc (suc (2 * i + 1))
two_one i = omega arith

-- ---- words and pairs of words
pub length-raws : (w : List ℕ) → length (raws w) ≡ length w / 2
unfolding raws
length-raws [] = refl
length-raws (a ∷ []) = refl
length-raws (a ∷ b ∷ w) = omega (arith, length-raws w)

pub words_are : (w : List ℕ) → words_of (raws w) (leftover w) ≡ w
unfolding raws leftover words_of
words_are [] = refl
words_are (a ∷ []) = refl
words_are (a ∷ b ∷ w) = ap (λ (l : List ℕ). a ∷ b ∷ l) (words_are w)

raws-leftover : (w : List ℕ) → raws (leftover w) ≡ []
unfolding raws leftover
raws-leftover [] = refl
raws-leftover (a ∷ []) = refl
raws-leftover (a ∷ b ∷ w) = raws-leftover w

leftover_twice : (w : List ℕ) → leftover (leftover w) ≡ leftover w
unfolding leftover
leftover_twice [] = refl
leftover_twice (a ∷ []) = refl
leftover_twice (a ∷ b ∷ w) = leftover_twice w

pub raws_words : (l : List Raw) (w : List ℕ) → raws (words_of l (leftover w)) ≡ l
unfolding raws words_of
raws_words [] w = raws-leftover w
raws_words (r ∷ l) w = ap (λ (q : List Raw). r ∷ q) (raws_words l w)

pub leftover_words : (l : List Raw) (w : List ℕ) → leftover (words_of l (leftover w)) ≡ leftover w
unfolding leftover words_of
leftover_words [] w = leftover_twice w
leftover_words (r ∷ l) w = leftover_words l w

pub length_words : (l : List Raw) (t : List ℕ) → length (words_of l t) ≡ 2 * length l + length t
unfolding words_of
length_words [] t = omega arith
length_words (r ∷ l) t = omega (arith, length_words l t)

-- as many pairs as before: as many words
pub length-same : (l : List Raw) (w : List ℕ) → length l ≡ length (raws w) → length (words_of l (leftover w)) ≡ length w
length-same l w e = length_words l (leftover w) ∙ rw e (sym (length_words (raws w) (leftover w)) ∙ ap length (words_are w))

pub drop_words : (l q : List Raw) (t : List ℕ) (n : ℕ) → length l ≡ n → drop (2 * n) (words_of (l ++ q) t) ≡ words_of q t
unfolding words_of
drop_words l q t n e = rw (← e) (go l)
  where
    go : (l : List Raw) → drop (2 * length l) (words_of (l ++ q) t) ≡ words_of q t
    go [] = refl
    go (r ∷ l) = rw (two (length l)) (go l)

-- ---- reading
pub raw_is : (w : List ℕ) (i : ℕ) → i < length w / 2
    → record { x = get_or w (2 * i) 0; error = get_or w (2 * i + 1) 0 } ≡ get_or (raws w) i zeros
unfolding raws
raw_is [] i h = absurd (not-suc-le-zero h)
raw_is (a ∷ []) i h = absurd (not-suc-le-zero h)
raw_is (a ∷ b ∷ w) zero h = refl
raw_is (a ∷ b ∷ w) (suc i) h = rw (two_one i, two i) (raw_is w i (omega arith))

zeros_are : candidate zeros ≡ none
unfolding of_word nan_bits
zeros_are = refl

pub read_is : (w : List ℕ) (i : ℕ) → candidate (get_or (raws w) i zeros) ≡ get_or (all w) i none
unfolding all
read_is w i = sym (get_or-map candidate (raws w) i zeros) ∙ ap (get_or (all w) i) zeros_are

pub length-all : (w : List ℕ) → length (all w) ≡ length w / 2
unfolding all
length-all w = length-map (raws w) candidate ∙ length-raws w

pub read_out : (w : List ℕ) (i : ℕ) → length w / 2 ≤ i → none ≡ get_or (all w) i none
read_out w i h = sym (get_or-eq_default (all w) none (omega (arith, length-all w)))

pub length-view : (w : List ℕ) (n : ℕ) → n ≤ length w / 2 → length (view w n) ≡ n
length-view w n h = length-take-le n (all w) (omega (arith, length-all w))

-- ---- writing
pub put_is : (w : List ℕ) (i : ℕ) (r : Raw) → i < length w / 2
    → set (set w (2 * i) r.x) (2 * i + 1) r.error ≡ put_raw w i r
unfolding raws leftover words_of
put_is [] i r h = absurd (not-suc-le-zero h)
put_is (a ∷ []) i r h = absurd (not-suc-le-zero h)
put_is (a ∷ b ∷ w) zero r h = ap (λ (l : List ℕ). r.x ∷ r.error ∷ l) (sym (words_are w))
put_is (a ∷ b ∷ w) (suc i) r h = rw (two_one i, two i) (ap (λ (l : List ℕ). a ∷ b ∷ l) (put_is w i r (omega arith)))

pub put_out : (w : List ℕ) (i : ℕ) (r : Raw) → length w / 2 ≤ i → w ≡ put_raw w i r
put_out w i r h = rw (set_out (raws w) i r (omega (arith, length-raws w)), words_are w)

pub all-put : (w : List ℕ) (i : ℕ) (c : Candidate) → all (put w i c) ≡ set (all w) i (written c)
unfolding all put
all-put w i c = ap (map candidate) (raws_words (set (raws w) i (raw_of c)) w) ∙ map_set candidate (raws w) i (raw_of c)

-- a candidate of no NaN is read as it was written, and so is each that was read
pub sound : (c : Candidate) → T (fits binary64 c.x) → T (not (is_nan c.x))
    → T (fits binary64 c.error) → T (not (is_nan c.error)) → written c ≡ c
sound c f n f' n' = rw (back c.x f n, back c.error f' n')

pub read_again : (w : List ℕ) (i : ℕ) → written (get_or (all w) i none) ≡ get_or (all w) i none
read_again w i = rw (← read_is w i, again (get_or (raws w) i zeros).x, again (get_or (raws w) i zeros).error)

-- a put inside the view sets it there; one at its end makes it longer
pub view-put : (w : List ℕ) (n i : ℕ) (c : Candidate) → written c ≡ c → i < n → view (put w i c) n ≡ set (view w n) i c
view-put w n i c e h = rw (all-put w i c, e, take-set-lt n (all w) i c h)

pub view_more : (w : List ℕ) (n : ℕ) (c : Candidate) → written c ≡ c → n < length w / 2
    → view (put w n c) (n + 1) ≡ view w n ++ c ∷ []
view_more w n c e h = rw (all-put w n c, e, add-one n, take-suc-set (all w) n c (omega (arith, length-all w)))

-- ---- what stays
pub length-put : (w : List ℕ) (i : ℕ) (c : Candidate) → length (put w i c) ≡ length w
unfolding put
length-put w i c = length-same (set (raws w) i (raw_of c)) w (length-set (raws w) i (raw_of c))

drop-put : (n : ℕ) (w : List ℕ) (i : ℕ) (r : Raw) → i < n → drop (2 * n) (put_raw w i r) ≡ drop (2 * n) w
unfolding raws leftover words_of
drop-put zero w i r h = absurd (not-suc-le-zero h)
drop-put (suc n) [] i r h = refl
drop-put (suc n) (a ∷ []) i r h = refl
drop-put (suc n) (a ∷ b ∷ w) zero r h = rw (two n, words_are w)
drop-put (suc n) (a ∷ b ∷ w) (suc i) r h = rw (two n) (drop-put n w i r (omega arith))

drop_all : (n : ℕ) (w : List ℕ) → drop n (all w) ≡ all (drop (2 * n) w)
unfolding all raws
drop_all zero w = refl
drop_all (suc n) [] = rw (two n)
drop_all (suc n) (a ∷ []) = rw (two n)
drop_all (suc n) (a ∷ b ∷ w) = rw (two n) (drop_all n w)

module _ (n : ℕ) where
  pub framed_same : (w : List ℕ) → Framed n w w
  framed_same w = record { long = refl; rest = refl }

  pub framed_put : (v w : List ℕ) (i : ℕ) (c : Candidate) → i < n → Framed n v w → Framed n v (put w i c)
  unfolding put
  framed_put v w i c h f = record { long = length-put w i c ∙ f.long; rest = drop-put n w i (raw_of c) h ∙ f.rest }

  pub framed_then : (u v w : List ℕ) → Framed n u v → Framed n v w → Framed n u w
  framed_then u v w f g = record { long = g.long ∙ f.long; rest = g.rest ∙ f.rest }

  pub framed_more : (m : ℕ) (w w' : List ℕ) → m ≤ n → Framed m w w' → Framed n w w'
  framed_more m w w' h f =
      let e : 2 * n ≡ 2 * m + (2 * n - 2 * m) = omega arith in
      record {
        long = f.long;
        rest = rw (e, ← drop-drop (2 * n - 2 * m) (2 * m) w', ← drop-drop (2 * n - 2 * m) (2 * m) w, f.rest);
      }

  -- what is framed in words is framed in candidates
  pub framed_all : (w w' : List ℕ) → Framed n w w' → drop n (all w') ≡ drop n (all w)
  framed_all w w' f = rw (drop_all n w', drop_all n w, f.rest)

  pub framed_at : (i : ℕ) (w w' : List ℕ) → n ≤ i → Framed n w w' → get_or (all w') i none ≡ get_or (all w) i none
  framed_at i w w' h f =
      let e : i ≡ n + (i - n) = omega arith in
      rw (e, ← get_or-drop n (all w') (i - n) none, ← get_or-drop n (all w) (i - n) none, framed_all w w' f)
