-- What is read from the bytes that words are written as: the words. Assumes nothing.
use Prim.Native.Nat.{ℕ, zero, suc, ◌+◌, ◌*◌, ◌/◌, ◌-◌, ◌^◌, ◌<◌}
use mathlib.Core.Path.{◌≡◌, sym, ap, ◌∙◌}
use mathlib.Core.List.{List, ◌++◌, append_assoc}
use native.Mathlib.Omega.{arith}
use native.Mathlib.Nat.{div-lt_iff_lt-mul, mul_comm, pow-succ', add-zero}
use lib.ListN.{length, take, length-append}
use lib.Seq.{take_at, drop-append-add}
use Rattle.packing.specs.Packing.{at}
use Rattle.image.specs.Bytes.{bytes_of, number_of, number_at}
use Rattle.image.specs.Image.{band_from, head_of, band_of, word_part, parts, bytes_for}
use Rattle.image.proofs.BytesLaws.{bytes_length}
use Rattle.image.proofs.Laying.{parts-length, words_length, band_length, head_length}

-- a number that fits in k bytes is read back from them
pub back : (k n : ℕ) → n < 256 ^ k → number_of (bytes_of k n) ≡ n
unfolding bytes_of number_of
back zero n h = omega arith
back (suc k) n h =
    let e = back k (n / 256) ((div-lt_iff_lt-mul (omega arith)).1 (rw (pow-succ' 256 k, mul_comm 256 (256 ^ k)) at h)) in
    omega arith

-- what is read behind other bytes
pub behind : (x y : List ℕ) (a d k : ℕ) → length x ≡ a → number_at (x ++ y) (a + d) k ≡ number_at y d k
behind x y a d k e = rw (← e) (ap (λ l. number_of (take k l)) (drop-append-add x y d))

front_back : (y : List ℕ) (k v : ℕ) → v < 256 ^ k → number_at (bytes_of k v ++ y) 0 k ≡ v
front_back y k v h = ap number_of (take_at (bytes_of k v) y k (bytes_length k v)) ∙ back k v h

-- ---- parts: those before part i, part i, and those after it
pub parts_split : (g : ℕ → List ℕ) (i m a : ℕ) → parts g (i + suc m) a ≡ parts g i a ++ (g (a + i) ++ parts g m (a + i + 1))
unfolding parts
parts_split g zero m a =
    let z : 0 + suc m ≡ suc m = omega arith in
    rw (z, add-zero)
parts_split g (suc i) m a =
    let z : suc i + suc m ≡ suc (i + suc m) = omega arith in
    let y : a + 1 + i ≡ a + suc i = omega arith in
    rw z (ap (λ l. g a ++ l) (parts_split g i m (a + 1) ∙ rw y) ∙ sym (append_assoc (g a) (parts g i (a + 1)) (g (a + suc i) ++ parts g m (a + suc i + 1))))

split_at : (g : ℕ → List ℕ) (n i : ℕ) → i < n → parts g n 0 ≡ parts g i 0 ++ (g i ++ parts g (n - (i + 1)) (i + 1))
split_at g n i h =
    let z : n ≡ i + suc (n - (i + 1)) = omega arith in
    let y : 0 + i ≡ i = omega arith in
    ap (λ m. parts g m 0) z ∙ parts_split g i (n - (i + 1)) 0 ∙ rw y

-- the bytes after band i
abbrev pub after : List ℕ → ℕ → ℕ → ℕ → List ℕ
after w n m i = parts (band_of w) (n - (i + 1)) (i + 1) ++ parts (word_part w 72 8) m 0

module _ (w : List ℕ) (n m : ℕ) where
  abbrev points : List ℕ
  points = parts (word_part w 72 8) m 0

  -- from band i on
  pub from_band : (i : ℕ) → i < n → (d k : ℕ) → number_at (bytes_for w n m) (band_from i + d) k ≡ number_at (band_of w i ++ after w n m i) d k
  from_band i h d k =
      let x = head_of w ++ parts (band_of w) i 0 in
      let rest = parts (band_of w) (n - (i + 1)) (i + 1) in
      let y = band_of w i ++ (rest ++ points) in
      let long : length x ≡ band_from i = length-append (head_of w) (parts (band_of w) i 0) ∙ rw (head_length w, parts-length (band_of w) 50 (band_length w) i 0) in
      let e : bytes_for w n m ≡ x ++ y =
      ap (λ l. head_of w ++ (l ++ points)) (split_at (band_of w) n i h)
      ∙ ap (λ l. head_of w ++ l) (append_assoc (parts (band_of w) i 0) (band_of w i ++ rest) points ∙ ap (λ l. parts (band_of w) i 0 ++ l) (append_assoc (band_of w i) rest points))
      ∙ sym (append_assoc (head_of w) (parts (band_of w) i 0) y) in
      ap (λ s. number_at s (band_from i + d) k) e ∙ behind x y (band_from i) d k long

  -- point i
  pub from_point : (i : ℕ) → i < m → at w (72 + i) < 256 ^ 8 → number_at (bytes_for w n m) (band_from n + 8 * i) 8 ≡ at w (72 + i)
  from_point i h fits =
      let front = head_of w ++ parts (band_of w) n 0 in
      let x = front ++ parts (word_part w 72 8) i 0 in
      let rest = parts (word_part w 72 8) (m - (i + 1)) (i + 1) in
      let y = bytes_of 8 (at w (72 + i)) ++ rest in
      let f : length front ≡ band_from n = length-append (head_of w) (parts (band_of w) n 0) ∙ rw (head_length w, parts-length (band_of w) 50 (band_length w) n 0) in
      let long : length x ≡ band_from n + 8 * i = length-append front (parts (word_part w 72 8) i 0) ∙ rw (f, words_length w 72 8 i) in
      let e : bytes_for w n m ≡ x ++ y =
      ap (λ l. head_of w ++ (parts (band_of w) n 0 ++ l)) (split_at (word_part w 72 8) m i h)
      ∙ sym (append_assoc (head_of w) (parts (band_of w) n 0) (parts (word_part w 72 8) i 0 ++ y))
      ∙ sym (append_assoc front (parts (word_part w 72 8) i 0) y) in
      let z : band_from n + 8 * i + 0 ≡ band_from n + 8 * i = omega arith in
      ap (λ s. number_at s (band_from n + 8 * i) 8) e
      ∙ (rw z at (behind x y (band_from n + 8 * i) 0 8 long))
      ∙ front_back rest 8 (at w (72 + i)) fits
