-- The image of an accepted job reads as the job: it holds the layout, its words are the job's, and so are its fields. Assumes nothing.
use Rattle.bands.specs.Numbered.{symmetry_word}
use Prim.Native.Nat.{ℕ, zero, suc, ◌+◌, ◌*◌, ◌/◌, ◌%◌, ◌^◌, ◌<◌, ◌≤◌}
use mathlib.Core.Path.{◌≡◌, refl, ap, ◌∙◌}
use mathlib.Core.Bool.{Bool, true, false, not, cond}
use mathlib.Core.List.{List, ◌++◌}
use native.Mathlib.Omega.{arith}
use native.Mathlib.Nat.{mod-lt}
use borrow.Author.Tests.{lt-ltb, le-ltb, le-leb, eq-eqb, ltb-true}
use lib.Dec.{T, ltb}
use lib.ListN.{length, get_or}
use lib.Ieee.{Float, nan, binary64, to_bits, is_nan, fits}
use lib.Ieee.Bits.{to_bits-lt}
use Rattle.numbers.specs.Loops.{tab, until, every}
use Rattle.numbers.specs.Outcome.{gave}
use Rattle.numbers.specs.Words.{to_word}
use Rattle.numbers.proofs.Lanes.{tab-same}
use Rattle.bands.specs.declared.Symmetry.{Symmetry}
use Rattle.bands.specs.declared.Symmetry.TheVariants.{Even, Odd}
use Rattle.bands.specs.declared.Value.{Value}
use Rattle.bands.specs.declared.Value.TheVariants.{Constant, Linear}
use Rattle.bands.specs.Lookup as bands
use Rattle.fields.specs.declared.held.Fields.{Fields}
use Rattle.fields.specs.Interpolant.{Interpolation}
use Rattle.fields.specs.Accept.{accept_of}
use Rattle.packing.specs.Packing as words
use Rattle.packing.specs.Packing.{at, band_at, kind_word, first_word, second_word, band_words, bands_word, points_held, head_words, words_of, fields_of}
use Rattle.packing.specs.Alike.{ValueFits, Stored}
use Rattle.packing.proofs.Sound.{Sound, sound}
use Rattle.packing.proofs.Places.{band_word_lem, point_word_lem}
use Rattle.packing.proofs.RoundTrip.{number_back, symmetry_back, held_most}
use Rattle.image.specs.Bytes.{number_at}
use Rattle.image.specs.Image.{length_for, band_from, band_of, word_part, parts, bytes_for, made_in, count_in, points_in, head_in, band_word, point_word, words_in, value_laid, band_laid, head_laid, layout, image_for, few_bands, few_points, image_of}
use Rattle.image.proofs.SavedLaws.{bytes_for_length}
use Rattle.image.proofs.Written.{from_point}
use Rattle.image.proofs.ReadAgain as again
use Rattle.image.proofs.ReadAgain.{HeadFits, BandWords, band_read}

-- ---- sizes of words
word_fits : (x : Float) → T (fits binary64 x) → to_word x < 256 ^ 8
unfolding to_word
word_fits x f = go (is_nan x)
  where
    go : (t : Bool) → cond t 0 (to_bits binary64 x) < 256 ^ 8
    go true = omega arith
    go false = omega (arith, to_bits-lt binary64 x f)

symmetry_small : (s : Symmetry) → symmetry_word s ≤ 1
symmetry_small Even = omega arith
symmetry_small Odd = omega arith

kind_small : (v : Value) → kind_word v < 256
kind_small (Constant a) = omega arith
kind_small (Linear a b) = omega arith

first_fits : (v : Value) → ValueFits v → first_word v < 256 ^ 8
first_fits (Constant a) f = word_fits a f
first_fits (Linear a b) f = word_fits a f.0

second_fits : (v : Value) → ValueFits v → second_word v < 256 ^ 8
second_fits (Constant a) f = word_fits a f
second_fits (Linear a b) f = word_fits b f.1

-- a value's words hold its layout
value_laid_lem : (v : Value) → value_laid (kind_word v) (first_word v) (second_word v) ≡ true
value_laid_lem (Constant a) = eq-eqb (to_word a) (to_word a) refl
value_laid_lem (Linear a b) = refl

-- a test that holds at each place holds at every one
holds_from : (test : ℕ → Bool) (n i : ℕ) → ((k : ℕ) → i ≤ k → k < i + n → test k ≡ true) → until (λ i. not (test i)) (λ i. false) (λ i s. s) (λ s. true) n i (tt {0}) ≡ true
unfolding until
holds_from test zero i h = refl
holds_from test (suc n) i h =
    let a : i ≤ i = omega arith in
    let b : i < i + suc n = omega arith in
    rw (h i a b) (holds_from test n (i + 1) (λ k p q. h k (after k p) (before k q)))
  where
    after : (k : ℕ) → i + 1 ≤ k → i ≤ k
    after k p = omega arith

    before : (k : ℕ) → k < i + 1 + n → k < i + suc n
    before k q = omega arith

module _ (j : Fields) (stored : Stored j) (s : Sound j) where
  abbrev w : List ℕ
  w = words_of j

  abbrev n : ℕ
  n = j.request.plan.count

  abbrev m : ℕ
  m = points_held j

  abbrev img : List ℕ
  img = bytes_for w n m

  abbrev rest : List ℕ
  rest = parts (band_of w) n 0 ++ parts (word_part w 72 8) m 0

  bands_are : few_bands j ≡ n
  bands_are = rw (le-ltb 8 n s.count_most)

  points_are : few_points j ≡ m
  points_are = rw (le-ltb 65 m (held_most j stored s))

  pub image_is : image_of j ≡ img
  unfolding image_of
  image_is = rw (bands_are, points_are)

  head_fits : HeadFits w
  unfolding words_of
  head_fits =
      record {
        symmetry = omega (arith, symmetry_small j.request.symmetry);
        taps = omega (arith, s.taps_most);
        degree = omega (arith, s.degree_most);
        allowed = omega (arith, s.exchanges_most);
        made = omega (arith, s.made_most, s.exchanges_most);
        count = omega (arith, s.count_most);
        threshold = word_fits j.request.threshold stored.threshold;
        flatness = word_fits j.flatness stored.flatness;
      }

  count_is : count_in img ≡ n
  unfolding words_of
  count_is = again.count_back w rest head_fits

  made_is : made_in img ≡ j.made
  unfolding words_of
  made_is = again.made_back w rest head_fits

  points_in_fact : points_in img ≡ m
  unfolding words_of
  points_in_fact = rw (made_is, again.taps_back w rest head_fits, again.symmetry_back w rest head_fits, symmetry_back j.request.symmetry)

  head_is : head_in img ≡ head_words j
  unfolding words_of
  head_is = again.head_back w rest head_fits

  -- ---- the bands
  word_of : (i k : ℕ) → i < n → k < 8 → (p : ℕ) → p ≡ band_at i + k → at w p ≡ get_or (band_words (bands.band_of j.request.plan i)) k 0
  word_of i k h hk p e =
      let h8 : i < 8 = omega (arith, s.count_most, h) in
      band_word_lem j i k h8 hk p e ∙ rw (lt-ltb i n h)

  band_fits : (i : ℕ) → i < n → BandWords w i
  band_fits i h =
      let h8 : i < 8 = omega (arith, s.count_most, h) in
      let b = bands.band_of j.request.plan i in
      let f = stored.bands i h8 in
      let z : band_at i ≡ band_at i + 0 = omega arith in
      record {
        desired = rw (word_of i 0 h (omega arith) (band_at i) z) (kind_small b.desired);
        weight = rw (word_of i 1 h (omega arith) (band_at i + 1) refl) (kind_small b.weight);
        begin = rw (word_of i 2 h (omega arith) (band_at i + 2) refl) (word_fits b.begin f.begin);
        end = rw (word_of i 3 h (omega arith) (band_at i + 3) refl) (word_fits b.end f.end);
        first = rw (word_of i 4 h (omega arith) (band_at i + 4) refl) (first_fits b.desired f.desired);
        second = rw (word_of i 5 h (omega arith) (band_at i + 5) refl) (second_fits b.desired f.desired);
        third = rw (word_of i 6 h (omega arith) (band_at i + 6) refl) (first_fits b.weight f.weight);
        fourth = rw (word_of i 7 h (omega arith) (band_at i + 7) refl) (second_fits b.weight f.weight);
      }

  -- word k of band i, where there is one
  read_is : (i k : ℕ) → i < n → k < 8 → band_read img i k ≡ get_or (band_words (bands.band_of j.request.plan i)) k 0
  read_is i k h hk = again.band_back w n m i h (band_fits i h) k hk ∙ word_of i k h hk (band_at i + k) refl

  band_is : (i k : ℕ) → k < 8 → band_word img i k ≡ bands_word j.request.plan i k
  band_is i k hk = ap (λ c. cond (ltb i c) (band_read img i k) 0) count_is ∙ go (ltb i n) refl
    where
      go : (t : Bool) → ltb i j.request.plan.count ≡ t → cond t (band_read img i k) 0 ≡ cond t (get_or (band_words (bands.band_of j.request.plan i)) k 0) 0
      go true e = read_is i k (ltb-true i j.request.plan.count e) hk
      go false e = refl

  -- ---- the points
  point_fits : (i : ℕ) → i < m → at w (72 + i) < 256 ^ 8
  point_fits i h =
      let h65 : i < 65 = omega (arith, held_most j stored s, h) in
      rw (point_word_lem j i h65, lt-ltb i m h) (word_fits (get_or j.points i nan) (stored.points i h65))

  point_is : (i : ℕ) → i < 65 → point_word img i ≡ words.point_word j i
  point_is i h65 =
      ap (λ c. cond (ltb i c) (number_at img (band_from (count_in img) + 8 * i) 8) 0) points_in_fact
      ∙ ap (λ c. cond (ltb i m) (number_at img (band_from c + 8 * i) 8) 0) count_is
      ∙ go (ltb i m) refl
    where
      go : (t : Bool) → ltb i (points_held j) ≡ t → cond t (number_at img (band_from n + 8 * i) 8) 0 ≡ cond t (to_word (get_or j.points i nan)) 0
      go true e =
          let h : i < points_held j = ltb-true i (points_held j) e in
          from_point w n m i h (point_fits i h) ∙ point_word_lem j i h65 ∙ rw e
      go false e = refl

  -- ---- all the words
  words_is : words_in img ≡ w
  unfolding words_in words_of
  words_is =
      let b : tab (λ k. band_word img (k / 8) (k % 8)) 64 0 ≡ tab (λ k. bands_word j.request.plan (k / 8) (k % 8)) 64 0 =
      tab-same _ _ 64 0 (λ k _ _. band_is (k / 8) (k % 8) (mod-lt k (omega arith))) in
      let p : tab (point_word img) 65 0 ≡ tab (words.point_word j) 65 0 = tab-same _ _ 65 0 (λ i _ h. point_is i (rw (zero_plus 65) at h)) in
      ap (λ h. h ++ (tab (λ k. band_word img (k / 8) (k % 8)) 64 0 ++ tab (point_word img) 65 0)) head_is
      ∙ ap (λ h. head_words j ++ (h ++ tab (point_word img) 65 0)) b
      ∙ ap (λ h. head_words j ++ (tab (λ k. bands_word j.request.plan (k / 8) (k % 8)) 64 0 ++ h)) p
    where
      zero_plus : (k : ℕ) → 0 + k ≡ k
      zero_plus k = omega arith

  -- ---- the layout
  laid_band : (i : ℕ) → i < n → band_laid img i ≡ true
  laid_band i h =
      let b = bands.band_of j.request.plan i in
      let c : ltb i (count_in img) ≡ true = rw count_is (lt-ltb i n h) in
      rw (
        c,
        read_is i 0 h (omega arith),
        read_is i 4 h (omega arith),
        read_is i 5 h (omega arith),
        read_is i 1 h (omega arith),
        read_is i 6 h (omega arith),
        read_is i 7 h (omega arith),
        value_laid_lem b.desired,
      )
      (value_laid_lem b.weight)

  laid_bands : every (band_laid img) (count_in img) ≡ true
  laid_bands = ap (every (band_laid img)) count_is ∙ holds_from (band_laid img) n 0 (λ k _ h. laid_band k (rw (zero_plus n) at h))
    where
      zero_plus : (k : ℕ) → 0 + k ≡ k
      zero_plus k = omega arith

  long_is : length img ≡ length_for (count_in img) (points_in img)
  long_is = bytes_for_length w n m ∙ rw (count_is, points_in_fact)

  laid_head : head_laid img ≡ true
  unfolding head_laid words_of
  laid_head =
      let long : 28 ≤ length img = omega (arith, bytes_for_length w n m) in
      rw (
        le-leb 28 (length img) long,
        again.version_back w rest head_fits,
        again.symmetry_back w rest head_fits,
        le-leb (symmetry_word j.request.symmetry) 1 (symmetry_small j.request.symmetry),
        count_is,
        le-leb 1 n s.count_least,
        le-leb n 8 s.count_most,
        made_is,
        again.allowed_back w rest head_fits,
        again.flatness_back w rest head_fits,
        number_back j.flatness stored.flatness s.flatness,
      )
      s.counts

  laid : layout img ≡ true
  unfolding layout
  laid = rw (laid_head, eq-eqb (length img) (length_for (count_in img) (points_in img)) long_is) laid_bands

  pub decoded_image : image_for (image_of j) ≡ gave (fields_of (words_of j))
  unfolding image_for
  decoded_image = rw (image_is, laid, words_is)

  pub image_long : length (image_of j) ≡ length_for n m
  image_long = ap length image_is ∙ bytes_for_length w n m

-- decoding the image of an accepted job gives the fields that its words hold
pub decoded : (j : Fields) (i : Interpolation) → Stored j → accept_of j ≡ gave i → image_for (image_of j) ≡ gave (fields_of (words_of j))
decoded j i stored e = decoded_image j stored (sound j i stored.room e)

-- its length is 28 + 50 bands + 8 points, from 78 to 948
pub record Long (j : Fields) : Type 0 where
  pub is : length (image_of j) ≡ length_for j.request.plan.count (points_held j)
  pub least : 78 ≤ length (image_of j)
  pub most : length (image_of j) ≤ 948

pub long : (j : Fields) (i : Interpolation) → Stored j → accept_of j ≡ gave i → Long j
long j i stored e =
    let s = sound j i stored.room e in
    let l = image_long j stored s in
    record {
      is = l;
      least = omega (arith, l, s.count_least);
      most = omega (arith, l, s.count_most, held_most j stored s);
    }
