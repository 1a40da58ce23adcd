-- Numbers in bytes: read in halves, and written byte by byte. Assumes nothing.
use Prim.Native.Nat.{ℕ, zero, suc, ◌+◌, ◌*◌, ◌/◌, ◌%◌, ◌^◌, ◌<◌, ◌≤◌}
use mathlib.Core.Path.{◌≡◌, refl, sym, ap, ◌∙◌}
use mathlib.Core.Bool.{Bool, true, false, cond}
use mathlib.Core.List.{List, [], ◌∷◌, append_assoc}
use native.Mathlib.Omega.{arith}
use native.Mathlib.Nat.{lt_of_lt_of_le, mul_comm, pow-succ', pow-le-pow_right, div-div-eq-div-mul}
use lib.Dec.{eqb}
use lib.ListN.{length, get_or, take}
use Rattle.std.specs.Int.{w64, byte_at, bytes_low_first, to_le_bytes}
use lib.Seq.{take-nil, drop-nil, drop-drop, sets, sets-eq}
use borrow.Rule.Slice.PartMut.{put_mid}
use Rattle.bands.specs.declared.Symmetry.{Symmetry}
use Rattle.fir_types.specs.Kinds.{functions}
use Rattle.packing.proofs.Laws.{functions-few}
use Rattle.image.specs.Bytes.{bytes_of, number_of, number_at}
use Rattle.image.specs.Image.{points_for}

-- ---- reading
none : (k i : ℕ) → number_at [] i k ≡ 0
unfolding number_of
none k i = rw (drop-nil {A = ℕ} i, take-nil {A = ℕ} k)

next_byte : (s : List ℕ) (i k : ℕ) → number_at s i (suc k) ≡ get_or s i 0 + 256 * number_at s (suc i) k
unfolding number_of
next_byte [] i k = rw (drop-nil {A = ℕ} i, take-nil {A = ℕ} k)
next_byte (x ∷ s) zero k = refl
next_byte (x ∷ s) (suc i) k = next_byte s i k

-- the lowest byte, and the number in the others
pub lowest : (s : List ℕ) (i j k : ℕ) → i + 1 ≡ j → number_at s i (suc k) ≡ get_or s i 0 + 256 * number_at s j k
lowest s i j k e = let z : suc i ≡ j = omega arith in rw (← z) (next_byte s i k)

-- one more byte below those that are read
pub read_none : (s : List ℕ) (j k : ℕ) → k ≡ 0 → 0 ≡ number_at s j k
unfolding number_of
read_none s j k e = rw e refl

pub read_more : (s : List ℕ) (i j k m n b : ℕ) → i + 1 ≡ j → m ≡ suc k → n ≡ number_at s j k → b ≡ get_or s i 0 → 256 * n + b ≡ number_at s i m
read_more s i j k m n b e f g h = rw f (omega (arith, lowest s i j k e))

pub small_more : (k m n b : ℕ) → m ≡ suc k → n < 256 ^ k → b < 256 → 256 * n + b < 256 ^ m
small_more k m n b e g h = rw (e, pow-succ' 256 k) (omega arith)

pub small_fits : (m n : ℕ) → m ≤ 8 → n < 256 ^ m → n < 2 ^ 64
small_fits m n h l = lt_of_lt_of_le l (pow-le-pow_right (omega arith) h)

-- ---- writing
-- what `to_le_bytes` has in front
low_from : (k m i n : ℕ) → k ≤ m → take k (bytes_low_first i m n) ≡ bytes_of k (n / 256 ^ i)
unfolding bytes_of
low_from zero m i n h = refl
low_from (suc k) zero i n h = absurd (omega arith)
low_from (suc k) (suc m) i n h =
    let e : n / 256 ^ i / 256 ≡ n / 256 ^ suc i = div-div-eq-div-mul n (256 ^ i) 256 ∙ ap (λ d. n / d) (mul_comm (256 ^ i) 256 ∙ sym (pow-succ' 256 i)) in
    (λ j. lowest_byte i n j ∷ (low_from k m (suc i) n (omega arith) ∙ ap (bytes_of k) (sym e)) j)
  where
    lowest_byte : (i n : ℕ) → byte_at i n ≡ n / 256 ^ i % 256
    lowest_byte zero n = omega arith
    lowest_byte (suc i) n = refl

pub low_bytes : (k n : ℕ) → k ≤ 8 → take k (to_le_bytes w64 n) ≡ bytes_of k n
low_bytes k n h = let z : n / 256 ^ 0 ≡ n = omega arith in low_from k 8 0 n h ∙ ap (bytes_of k) z

-- a part of a list that is overwritten
pub put_at : (out x : List ℕ) (i k m : ℕ) → length x ≡ k → m ≡ k → i + k ≤ length out → put_mid i m out x ≡ sets out i x
put_at out x i k m e f h =
    let l : i + length x ≤ length out = omega arith in
    rw (f, sets-eq x out i l, e, append_assoc, drop-drop)

pub bytes_length : (k n : ℕ) → length (bytes_of k n) ≡ k
unfolding bytes_of
bytes_length zero n = refl
bytes_length (suc k) n = ap suc (bytes_length k (n / 256))

-- ---- how many points
pub points_few : (made taps : ℕ) (s : Symmetry) → points_for made taps s ≤ taps / 2 + 2
points_few made taps s = go (eqb made 0)
  where
    go : (t : Bool) → cond t 0 (functions taps s + 1) ≤ taps / 2 + 2
    go true = omega arith
    go false = omega (arith, functions-few taps s)
