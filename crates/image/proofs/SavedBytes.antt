-- The words of bytes that hold the layout, written again, are those bytes. Assumes nothing.
use Prim.Native.Nat.{ℕ, ◌+◌, ◌*◌, ◌/◌, ◌%◌, ◌<◌, ◌≤◌}
use mathlib.Core.Path.{◌≡◌, refl, sym, ap, ◌∙◌}
use mathlib.Core.Bool.{cond}
use mathlib.Core.List.{List, ◌++◌}
use native.Mathlib.Omega.{arith}
use borrow.Author.Tests.{lt-ltb}
use lib.ListN.{length, get_or, take}
use lib.Seq.{take-length}
use Rattle.packing.specs.Packing.{at, band_at, point_at}
use Rattle.packing.proofs.Places.{band_part, point_part, whose}
use Rattle.image.specs.Bytes.{bytes_of, number_at}
use Rattle.image.specs.Image.{band_from, mark, head_of, band_of, word_part, parts, bytes_for, count_in, points_in, head_in, band_word, point_word, words_in}
use Rattle.image.proofs.LayoutLaws.{Layout}
use Rattle.image.proofs.ReadAgain.{band_read}
use Rattle.image.proofs.Spans.{span, span-add, bytes_back, parts-span, mark_is}

joined : (s : List ℕ) (i j k r : ℕ) (x y : List ℕ) → i + k ≡ j → x ≡ span s i k → y ≡ span s j r → x ++ y ≡ span s i (k + r)
joined s i j k r x y e a b = ap (λ l. l ++ y) a ∙ ap (λ l. span s i k ++ l) b ∙ sym (span-add s i j k r e)

module _ (s : List ℕ) where
  abbrev w : List ℕ
  w = words_in s

  -- word k of band i, and point i
  pub word_at : (i k : ℕ) → i < 8 → k < 8 → (p : ℕ) → p ≡ band_at i + k → at w p ≡ band_word s i k
  unfolding words_in
  word_at i k hi hk p e =
      band_part (head_in s) (λ k. band_word s (k / 8) (k % 8)) (point_word s) refl i k hi hk p e ∙ rw ((whose i k hk).0, (whose i k hk).1)

  pub point_at_fact : (i : ℕ) → i < 65 → at w (point_at i) ≡ point_word s i
  unfolding words_in
  point_at_fact i h = point_part (head_in s) (λ k. band_word s (k / 8) (k % 8)) (point_word s) refl i h

module _ (s : List ℕ) (small : (i : ℕ) → get_or s i 0 < 256) (lay : Layout s) where
  abbrev n : ℕ
  n = count_in s

  abbrev m : ℕ
  m = points_in s

  piece : (i k : ℕ) → i + k ≤ 28 → bytes_of k (number_at s i k) ≡ span s i k
  piece i k h = bytes_back s small i k (omega (arith, lay.head.long, h))

  head_span : head_of (words_in s) ≡ span s 0 28
  unfolding words_in
  head_span =
      let long : 3 ≤ length s = omega (arith, lay.head.long) in
      let version : bytes_of 2 1 ≡ span s 3 2 = ap (bytes_of 2) (sym lay.head.version) ∙ piece 3 2 (omega arith) in
      joined s 0 3 3 25 mark _ refl (mark_is s long lay.head.mark)
      (joined s 3 5 2 23 (bytes_of 2 1) _ refl version
      (joined s 5 6 1 22 (bytes_of 1 (number_at s 5 1)) _ refl (piece 5 1 (omega arith))
      (joined s 6 8 2 20 (bytes_of 2 (number_at s 6 2)) _ refl (piece 6 2 (omega arith))
      (joined s 8 9 1 19 (bytes_of 1 (number_at s 8 1)) _ refl (piece 8 1 (omega arith))
      (joined s 9 10 1 18 (bytes_of 1 (number_at s 9 1)) _ refl (piece 9 1 (omega arith))
      (joined s 10 11 1 17 (bytes_of 1 (number_at s 10 1)) _ refl (piece 10 1 (omega arith))
      (joined s 11 12 1 16 (bytes_of 1 (number_at s 11 1)) _ refl (piece 11 1 (omega arith))
      (joined s 12 20 8 8 (bytes_of 8 (number_at s 12 8)) (bytes_of 8 (number_at s 20 8)) refl (piece 12 8 (omega arith)) (piece 20 8 (omega arith))))))))))

  -- word k of band i, where there is one
  pub word_is : (i k : ℕ) → i < n → k < 8 → (p : ℕ) → p ≡ band_at i + k → at (words_in s) p ≡ band_read s i k
  word_is i k h hk p e =
      let h8 : i < 8 = omega (arith, lay.head.most, h) in
      word_at s i k h8 hk p e ∙ ap (λ t. cond t (band_read s i k) 0) (lt-ltb i n h)

  module _ (i : ℕ) (h : i < n) where
    kind_span : (k p j : ℕ) → k < 2 → p ≡ band_at i + k → j ≡ band_from i + k → band_read s i k ≡ number_at s (band_from i + k) 1 → bytes_of 1 (at (words_in s) p) ≡ span s j 1
    kind_span k p j hk e f g =
        let hk8 : k < 8 = omega arith in
        let l : band_from i + k + 1 ≤ length s = omega (arith, lay.fits, h, hk) in
        rw f (ap (bytes_of 1) (word_is i k h hk8 p e ∙ g) ∙ bytes_back s small (band_from i + k) 1 l)

    number_span : (k j : ℕ) → k < 8 → j + 8 ≤ band_from i + 50 → band_read s i k ≡ number_at s j 8 → bytes_of 8 (at (words_in s) (band_at i + k)) ≡ span s j 8
    number_span k j hk b g =
        let l : j + 8 ≤ length s = omega (arith, lay.fits, h, b) in
        ap (bytes_of 8) (word_is i k h hk (band_at i + k) refl ∙ g) ∙ bytes_back s small j 8 l

    moved : (a b : ℕ) → a ≡ b → number_at s a 8 ≡ number_at s b 8
    moved a b e = ap (λ p. number_at s p 8) e

    band_span : band_of (words_in s) i ≡ span s (band_from i) 50
    band_span =
        let a = band_from i in
        let u = words_in s in
        let k = band_at i in
        joined s a (a + 1) 1 49 (bytes_of 1 (at u k)) _ refl (kind_span 0 k a (omega arith) (omega arith) (omega arith) refl)
        (joined s (a + 1) (a + 2) 1 48 (bytes_of 1 (at u (k + 1))) _ (omega arith) (kind_span 1 (k + 1) (a + 1) (omega arith) refl refl refl)
        (joined s (a + 2) (a + 10) 8 40 (bytes_of 8 (at u (k + 2))) _ (omega arith) (number_span 2 (a + 2) (omega arith) (omega arith) (moved (a + 2 + 0) (a + 2) (omega arith)))
        (joined s (a + 10) (a + 18) 8 32 (bytes_of 8 (at u (k + 3))) _ (omega arith) (number_span 3 (a + 10) (omega arith) (omega arith) (moved (a + 2 + 8) (a + 10) (omega arith)))
        (joined s (a + 18) (a + 26) 8 24 (bytes_of 8 (at u (k + 4))) _ (omega arith) (number_span 4 (a + 18) (omega arith) (omega arith) (moved (a + 2 + 16) (a + 18) (omega arith)))
        (joined s (a + 26) (a + 34) 8 16 (bytes_of 8 (at u (k + 5))) _ (omega arith) (number_span 5 (a + 26) (omega arith) (omega arith) (moved (a + 2 + 24) (a + 26) (omega arith)))
        (joined s (a + 34) (a + 42) 8 8 (bytes_of 8 (at u (k + 6))) (bytes_of 8 (at u (k + 7))) (omega arith)
        (number_span 6 (a + 34) (omega arith) (omega arith) (moved (a + 2 + 32) (a + 34) (omega arith)))
        (number_span 7 (a + 42) (omega arith) (omega arith) (moved (a + 2 + 40) (a + 42) (omega arith)))))))))

  bands_span : parts (band_of (words_in s)) n 0 ≡ span s 28 (50 * n)
  bands_span = parts-span s (band_of (words_in s)) 28 50 n 0 (λ i _ h. band_span i (rw (zero_plus n) at h))
    where
      zero_plus : (k : ℕ) → 0 + k ≡ k
      zero_plus k = omega arith

  module _ (few : m ≤ 65) where
    pub point_is : (i : ℕ) → i < m → at (words_in s) (72 + i) ≡ number_at s (band_from n + 8 * i) 8
    point_is i h =
        let h65 : i < 65 = omega (arith, few, h) in
        point_at_fact s i h65 ∙ ap (λ t. cond t (number_at s (band_from n + 8 * i) 8) 0) (lt-ltb i m h)

    points_span : parts (word_part (words_in s) 72 8) m 0 ≡ span s (band_from n) (8 * m)
    points_span = parts-span s (word_part (words_in s) 72 8) (band_from n) 8 m 0 (λ i _ h. at_point i (rw (zero_plus m) at h)) ∙ rw (plus_zero (band_from n))
      where
        zero_plus : (k : ℕ) → 0 + k ≡ k
        zero_plus k = omega arith

        plus_zero : (k : ℕ) → k + 0 ≡ k
        plus_zero k = omega arith

        at_point : (i : ℕ) → i < m → bytes_of 8 (at (words_in s) (72 + i)) ≡ span s (band_from n + 8 * i) 8
        at_point i h =
            let l : band_from n + 8 * i + 8 ≤ length s = omega (arith, lay.fits, h) in
            ap (bytes_of 8) (point_is i h) ∙ bytes_back s small (band_from n + 8 * i) 8 l

    pub bytes_again : bytes_for (words_in s) n m ≡ s
    bytes_again =
        let e : 28 + (50 * n + 8 * m) ≡ length s = omega (arith, lay.fits) in
        joined s 0 28 28 (50 * n + 8 * m) (head_of (words_in s)) _ refl head_span
        (joined s 28 (band_from n) (50 * n) (8 * m) (parts (band_of (words_in s)) n 0) (parts (word_part (words_in s) 72 8) m 0) refl bands_span points_span)
        ∙ ap (λ k. take k s) e
        ∙ take-length s
