-- The head and the bands of written words, read again. Assumes nothing.
use Prim.Native.Nat.{ℕ, zero, suc, ◌+◌, ◌*◌, ◌-◌, ◌^◌, ◌<◌}
use mathlib.Core.Path.{◌≡◌, ◌∙◌}
use mathlib.Core.Bool.{cond}
use mathlib.Core.List.{List, [], ◌∷◌, ◌++◌}
use native.Mathlib.Omega.{arith}
use lib.Dec.{ltb}
use Rattle.packing.specs.Packing.{at, band_at}
use Rattle.image.specs.Bytes.{bytes_of, number_at}
use Rattle.image.specs.Image.{band_from, head_of, head_in, band_of, bytes_for}
use Rattle.image.proofs.Written.{back, after, from_band}

-- words that fit their bytes
pub record HeadFits (w : List ℕ) : Type 0 where
  pub symmetry : at w 0 < 256
  pub taps : at w 1 < 65536
  pub degree : at w 2 < 256
  pub allowed : at w 3 < 256
  pub made : at w 4 < 256
  pub count : at w 5 < 256
  pub threshold : at w 6 < 256 ^ 8
  pub flatness : at w 7 < 256 ^ 8

module _ (w rest : List ℕ) (f : HeadFits w) where
  pub head_back : head_in (head_of w ++ rest) ≡ at w 0 ∷ at w 1 ∷ at w 2 ∷ at w 3 ∷ at w 4 ∷ at w 5 ∷ at w 6 ∷ at w 7 ∷ []
  unfolding bytes_of
  head_back =
      rw (
        back 1 (at w 0) f.symmetry,
        back 2 (at w 1) f.taps,
        back 1 (at w 2) f.degree,
        back 1 (at w 3) f.allowed,
        back 1 (at w 4) f.made,
        back 1 (at w 5) f.count,
        back 8 (at w 6) f.threshold,
        back 8 (at w 7) f.flatness,
      )

  pub version_back : number_at (head_of w ++ rest) 3 2 ≡ 1
  unfolding bytes_of
  version_back = back 2 1 (omega arith)

  pub symmetry_back : number_at (head_of w ++ rest) 5 1 ≡ at w 0
  unfolding bytes_of
  symmetry_back = back 1 (at w 0) f.symmetry

  pub taps_back : number_at (head_of w ++ rest) 6 2 ≡ at w 1
  unfolding bytes_of
  taps_back = back 2 (at w 1) f.taps

  pub allowed_back : number_at (head_of w ++ rest) 9 1 ≡ at w 3
  unfolding bytes_of
  allowed_back = back 1 (at w 3) f.allowed

  pub made_back : number_at (head_of w ++ rest) 10 1 ≡ at w 4
  unfolding bytes_of
  made_back = back 1 (at w 4) f.made

  pub count_back : number_at (head_of w ++ rest) 11 1 ≡ at w 5
  unfolding bytes_of
  count_back = back 1 (at w 5) f.count

  pub flatness_back : number_at (head_of w ++ rest) 20 8 ≡ at w 7
  unfolding bytes_of
  flatness_back = back 8 (at w 7) f.flatness

-- word k of band i, where there is one
abbrev pub band_read : List ℕ → ℕ → ℕ → ℕ
band_read s i k = cond (ltb k 2) (number_at s (band_from i + k) 1) (number_at s (band_from i + 2 + 8 * (k - 2)) 8)

pub record BandWords (w : List ℕ) (i : ℕ) : Type 0 where
  pub desired : at w (band_at i) < 256
  pub weight : at w (band_at i + 1) < 256
  pub begin : at w (band_at i + 2) < 256 ^ 8
  pub end : at w (band_at i + 3) < 256 ^ 8
  pub first : at w (band_at i + 4) < 256 ^ 8
  pub second : at w (band_at i + 5) < 256 ^ 8
  pub third : at w (band_at i + 6) < 256 ^ 8
  pub fourth : at w (band_at i + 7) < 256 ^ 8

module _ (w : List ℕ) (n m i : ℕ) (h : i < n) (f : BandWords w i) where
  number_at_fact : (d e : ℕ) (v : ℕ) → band_from i + 2 + e ≡ band_from i + d → number_at (band_of w i ++ after w n m i) d 8 ≡ v → number_at (bytes_for w n m) (band_from i + 2 + e) 8 ≡ v
  number_at_fact d e v z q = rw z (from_band w n m i h d 8 ∙ q)

  pub band_back : (k : ℕ) → k < 8 → band_read (bytes_for w n m) i k ≡ at w (band_at i + k)
  unfolding bytes_of
  band_back zero b = let z : band_at i + 0 ≡ band_at i = omega arith in rw z (from_band w n m i h 0 1 ∙ back 1 (at w (band_at i)) f.desired)
  band_back (suc zero) b = from_band w n m i h 1 1 ∙ back 1 (at w (band_at i + 1)) f.weight
  band_back (suc (suc zero)) b = number_at_fact 2 0 (at w (band_at i + 2)) (omega arith) (back 8 (at w (band_at i + 2)) f.begin)
  band_back (suc (suc (suc zero))) b = number_at_fact 10 8 (at w (band_at i + 3)) (omega arith) (back 8 (at w (band_at i + 3)) f.end)
  band_back (suc (suc (suc (suc zero)))) b = number_at_fact 18 16 (at w (band_at i + 4)) (omega arith) (back 8 (at w (band_at i + 4)) f.first)
  band_back (suc (suc (suc (suc (suc zero))))) b = number_at_fact 26 24 (at w (band_at i + 5)) (omega arith) (back 8 (at w (band_at i + 5)) f.second)
  band_back (suc (suc (suc (suc (suc (suc zero)))))) b = number_at_fact 34 32 (at w (band_at i + 6)) (omega arith) (back 8 (at w (band_at i + 6)) f.third)
  band_back (suc (suc (suc (suc (suc (suc (suc zero))))))) b = number_at_fact 42 40 (at w (band_at i + 7)) (omega arith) (back 8 (at w (band_at i + 7)) f.fourth)
  band_back (suc (suc (suc (suc (suc (suc (suc (suc k)))))))) b = absurd (omega arith)
