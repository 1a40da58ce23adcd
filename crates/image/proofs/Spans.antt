-- Bytes that are read as numbers and written again are the bytes. Assumes nothing.
use Prim.Native.Nat.{ℕ, zero, suc, ◌+◌, ◌*◌, ◌/◌, ◌%◌, ◌^◌, ◌<◌, ◌≤◌}
use mathlib.Core.Path.{◌≡◌, refl, sym, ap, ◌∙◌}
use mathlib.Core.Bool.{true, ◌&&◌}
use mathlib.Core.List.{List, ◌∷◌, ◌++◌}
use native.Mathlib.Omega.{arith}
use native.Mathlib.Nat.{pow-succ', mul-zero, mul-suc}
use native.Mathlib.Numerals.{add-one}
use borrow.Author.Tests.{eqb-true}
use lib.Dec.{eqb}
use lib.ListN.{length, get_or, take, drop}
use lib.Seq.{drop-cons, drop-drop, take-add}
use Rattle.numbers.proofs.Order.{and_1, and_2}
use Rattle.image.specs.Bytes.{bytes_of, number_of, number_at}
use Rattle.image.specs.Image.{mark, marked, parts}
use Rattle.image.proofs.BytesLaws.{lowest}

-- the k entries from i on
abbrev pub span : List ℕ → ℕ → ℕ → List ℕ
span s i k = take k (drop i s)

pub span-add : (s : List ℕ) (i j k r : ℕ) → i + k ≡ j → span s i (k + r) ≡ span s i k ++ span s j r
span-add s i j k r e = take-add k r (drop i s) ∙ rw (drop-drop k i s, e)

pub span_next : (s : List ℕ) (i k : ℕ) → i < length s → span s i (suc k) ≡ get_or s i 0 ∷ span s (i + 1) k
span_next s i k h = rw (drop-cons s i 0 h, add-one)

module _ (s : List ℕ) (small : (i : ℕ) → get_or s i 0 < 256) where
  pub number_small : (i k : ℕ) → number_at s i k < 256 ^ k
  unfolding number_of
  number_small i zero = omega arith
  number_small i (suc k) = rw (lowest s i (i + 1) k refl, pow-succ' 256 k) (omega (arith, number_small (i + 1) k, small i))

  pub bytes_back : (i k : ℕ) → i + k ≤ length s → bytes_of k (number_at s i k) ≡ span s i k
  unfolding bytes_of
  bytes_back i zero h = refl
  bytes_back i (suc k) h =
      let e = lowest s i (i + 1) k refl in
      let l : i < length s = omega arith in
      let b : get_or s i 0 < 256 = small i in
      let q : number_at s i (suc k) / 256 ≡ number_at s (i + 1) k = rw e (omega arith) in
      let r : number_at s i (suc k) % 256 ≡ get_or s i 0 = rw e (omega arith) in
      rw (q, r) (ap (λ t. get_or s i 0 ∷ t) (bytes_back (i + 1) k (omega arith))) ∙ sym (span_next s i k l)

-- parts that are k entries each
pub parts-span : (s : List ℕ) (g : ℕ → List ℕ) (a k n i : ℕ) → ((x : ℕ) → i ≤ x → x < i + n → g x ≡ span s (a + k * x) k) → parts g n i ≡ span s (a + k * i) (k * n)
unfolding parts
parts-span s g a k zero i h = rw (mul-zero k)
parts-span s g a k (suc n) i h =
    let z : a + k * i + k ≡ a + k * (i + 1) = rw (add-one, mul-suc) (omega arith) in
    let y : k + k * n ≡ k * suc n = rw mul-suc (omega arith) in
    let b : i ≤ i = omega arith in
    let c : i < i + suc n = omega arith in
    ap (λ l. l ++ parts g n (i + 1)) (h i b c)
    ∙ ap (λ l. span s (a + k * i) k ++ l) (parts-span s g a k n (i + 1) (λ x p q. h x (after x p) (before x q)))
    ∙ sym (span-add s (a + k * i) (a + k * (i + 1)) k (k * n) z)
    ∙ rw y
  where
    after : (x : ℕ) → i + 1 ≤ x → i ≤ x
    after x p = omega arith

    before : (x : ℕ) → x < i + 1 + n → x < i + suc n
    before x q = omega arith

-- the mark
pub mark_is : (s : List ℕ) → 3 ≤ length s → marked s ≡ true → mark ≡ span s 0 3
mark_is s h e =
    let t1 = eqb (get_or s 0 0) 82 in
    let t2 = eqb (get_or s 1 0) 88 in
    let t3 = eqb (get_or s 2 0) 83 in
    let a : get_or s 0 0 ≡ 82 = eqb-true (get_or s 0 0) 82 (and_1 t1 (t2 && t3) e) in
    let b : get_or s 1 0 ≡ 88 = eqb-true (get_or s 1 0) 88 (and_1 t2 t3 (and_2 t1 (t2 && t3) e)) in
    let c : get_or s 2 0 ≡ 83 = eqb-true (get_or s 2 0) 83 (and_2 t2 t3 (and_2 t1 (t2 && t3) e)) in
    sym (span_next s 0 2 (omega arith) ∙ ap (λ l. get_or s 0 0 ∷ l) (span_next s 1 1 (omega arith) ∙ ap (λ l. get_or s 1 0 ∷ l) (span_next s 2 0 (omega arith))) ∙ rw (a, b, c))
