-- Lists that are written one behind the other into a longer one are written as one list. Assumes nothing.
use Prim.Native.Nat.{ℕ, zero, suc, ◌+◌, ◌*◌, ◌-◌, ◌<◌, ◌≤◌}
use mathlib.Core.Path.{◌≡◌, refl, sym, ap, ◌∙◌}
use mathlib.Core.List.{List, [], ◌∷◌, ◌++◌}
use native.Mathlib.Omega.{arith}
use native.Mathlib.Nat.{sub-zero, zero-add, mul-zero, add-zero, mul-suc, mul-le-mul_left}
use native.Mathlib.Numerals.{add-one}
use borrow.Rule.Slice.PartMut.{mid_of}
use lib.ListN.{length, get_or, set, drop, length-append, length-drop}
use lib.Seq.{sets, length-take-le, get_or-take, get_or-drop}
use Rattle.packing.specs.Packing.{at, band_at}
use Rattle.image.specs.Bytes.{bytes_of}
use Rattle.image.specs.Image.{head_of, band_of, word_part, parts}
use Rattle.image.proofs.BytesLaws.{bytes_length}

pub sets_append : (l : List ℕ) (i : ℕ) (x y : List ℕ) → sets l i (x ++ y) ≡ sets (sets l i x) (i + length x) y
sets_append l i [] y = rw add-zero
sets_append l i (v ∷ x) y =
    let e : suc i + length x ≡ i + suc (length x) = omega arith in
    sets_append (set l i v) (suc i) x y ∙ rw e

-- t is l with x, n bytes, written from i on
pub record Laid (l : List ℕ) (i n : ℕ) (x t : List ℕ) : Type 0 where
  pub is : t ≡ sets l i x
  pub long : length x ≡ n

pub laid_more : {l t u x : List ℕ} {i n m j : ℕ} (y : List ℕ) → Laid l i n x t → i + n ≡ j → length y ≡ m → u ≡ sets t j y → Laid l i (n + m) (x ++ y) u
laid_more {l} {t} {u} {x} {i} {n} {m} {j} y a e k h =
    record {
      is = h ∙ (rw (a.is, ← e, ← a.long) (sym (sets_append l i x y)));
      long = simp length-append (omega (arith, a.long, k));
    }

pub parts-length : (g : ℕ → List ℕ) (k : ℕ) → ((i : ℕ) → length (g i) ≡ k) → (n i : ℕ) → length (parts g n i) ≡ k * n
unfolding parts
parts-length g k h zero i = sym (mul-zero k)
parts-length g k h (suc n) i = simp length-append (omega (arith, h i, parts-length g k h n (i + 1), mul-suc k n))

pub words_length : (w : List ℕ) (from k n : ℕ) → length (parts (word_part w from k) n 0) ≡ k * n
words_length w from k n = parts-length (word_part w from k) k (λ i. bytes_length k (at w (from + i))) n 0

-- words that are a part of others
parts-same : (g h : ℕ → List ℕ) (n i : ℕ) → ((x : ℕ) → i ≤ x → x < i + n → g x ≡ h x) → parts g n i ≡ parts h n i
unfolding parts
parts-same g h zero i e = refl
parts-same g h (suc n) i e =
    ap (λ l. l ++ parts g n (i + 1)) (e i (omega arith) (omega arith))
    ∙ ap (λ l. h i ++ l) (parts-same g h n (i + 1) (λ x p q. e x (omega arith) (omega arith)))

pub part_words :
    (t : List ℕ) (a : ℕ) (w : List ℕ) (from k n : ℕ) {m : ℕ} {u : List ℕ} → m ≡ n → from + n ≤ length w
    → u ≡ sets t a (parts (word_part (mid_of from m w) 0 k) (length (mid_of from m w)) 0) → u ≡ sets t a (parts (word_part w from k) n 0)
part_words t a w from k n {m} {u} e h q =
    let l : length (mid_of from n w) ≡ n = length-take-le n (drop from w) (simp length-drop (omega arith)) in
    let p : parts (word_part (mid_of from n w) 0 k) (length (mid_of from n w)) 0 ≡ parts (word_part w from k) n 0 =
    rw l
    (parts-same (word_part (mid_of from n w) 0 k) (word_part w from k) n 0
    (λ x i j. ap (bytes_of k) (ap (λ y. get_or (mid_of from n w) y 0) (zero-add x) ∙ get_or-take n (drop from w) x 0 (omega arith) ∙ get_or-drop from w x 0))) in
    (rw e at q) ∙ ap (sets t a) p

-- there is room for the next part where there is for all
pub room_next : (k a n i m : ℕ) → i < n → a + k * n ≤ m → a + k * i + k ≤ m
room_next k a n i m h e =
    let z : k * suc i ≤ k * n = mul-le-mul_left k h in
    omega (arith, z, mul-suc k i)

-- ---- a loop that writes the parts of a list, k bytes each, from a on: what is left from part i on gives r
pub record Parting (g : ℕ → List ℕ) (k a n i : ℕ) (out r : List ℕ) : Type 0 where
  pub within : i ≤ n
  pub rest : sets out (a + k * i) (parts g (n - i) i) ≡ r

module _ {g : ℕ → List ℕ} {k a n : ℕ} where
  pub part_start : {out : List ℕ} → Parting g k a n 0 out (sets out a (parts g n 0))
  part_start = record { within = omega arith; rest = rw (sub-zero, mul-zero, add-zero) }

  pub part_next : {i : ℕ} {out t r : List ℕ} → Parting g k a n i out r → i < n → length (g i) ≡ k → t ≡ sets out (a + k * i) (g i) → Parting g k a n (i + 1) t r
  unfolding parts
  part_next {i} {out} {t} {r} p h m e =
      let z : n - i ≡ suc (n - (i + 1)) = omega arith in
      let f : a + k * i + length (g i) ≡ a + k * (i + 1) = rw (m, add-one, mul-suc) (omega arith) in
      record {
        within = omega arith;
        rest = rw (e, ← f) (sym (sets_append out (a + k * i) (g i) (parts g (n - (i + 1)) (i + 1))) ∙ (rw z at p.rest));
      }

  pub part_end : {i : ℕ} {out r : List ℕ} → Parting g k a n i out r → n ≤ i → out ≡ r
  unfolding parts
  part_end {i} {out} {r} p h = let z : n - i ≡ 0 = omega arith in rw z at p.rest

-- ---- a band's bytes: two kinds of one byte, then six numbers of eight
pub band_parts : (w : List ℕ) (i : ℕ) → band_of w i ≡ parts (word_part w (band_at i) 1) 2 0 ++ parts (word_part w (band_at i + 2) 8) 6 0
unfolding parts bytes_of
band_parts w i =
    let k = band_at i in
    let z : k + 0 ≡ k = omega arith in
    let z2 : k + 2 + 0 ≡ k + 2 = omega arith in
    let z3 : k + 2 + 1 ≡ k + 3 = omega arith in
    let z4 : k + 2 + 2 ≡ k + 4 = omega arith in
    let z5 : k + 2 + 3 ≡ k + 5 = omega arith in
    let z6 : k + 2 + 4 ≡ k + 6 = omega arith in
    let z7 : k + 2 + 5 ≡ k + 7 = omega arith in
    rw (z, z2, z3, z4, z5, z6, z7)

pub band_length : (w : List ℕ) (i : ℕ) → length (band_of w i) ≡ 50
unfolding bytes_of
band_length w i = refl

pub head_length : (w : List ℕ) → length (head_of w) ≡ 28
unfolding bytes_of
head_length w = refl
