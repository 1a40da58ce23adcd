-- Every accepted image saves back to the same bytes. Assumes nothing.
use Rattle.bands.specs.Numbered.{symmetry_of, symmetry_word, value_of}
use Prim.Native.Nat.{ℕ, zero, suc, ◌+◌, ◌*◌, ◌/◌, ◌%◌, ◌^◌, ◌<◌, ◌≤◌}
use mathlib.Core.Path.{◌≡◌, refl, ap, ◌∙◌}
use mathlib.Core.Bool.{Bool, true, false, not, ◌&&◌, ◌||◌, cond}
use mathlib.Core.List.{List, [], ◌∷◌, ◌++◌}
use native.Mathlib.Omega.{arith}
use native.Mathlib.Nat.{mod-lt}
use borrow.Author.Tests.{lt-ltb, le-ltb, ltb-true, leb-true, eqb-true}
use lib.Dec.{T, eqb, leb, ltb}
use lib.ListN.{length, get_or}
use lib.Ieee.{nan, binary64, of_bits, is_nan, lt, le}
use lib.Ieee.Bits.{to_bits-of_bits}
use lib.Ieee.Scale.{finite}
use Rattle.numbers.specs.Floats.{zero64}
use Rattle.numbers.specs.Loops.{tab}
use Rattle.numbers.specs.Outcome.{gave}
use Rattle.numbers.specs.Words.{to_word}
use Rattle.numbers.proofs.LoopLaws.{length-tab, every-at}
use Rattle.numbers.proofs.Lanes.{tab-same, tab-get}
use Rattle.numbers.proofs.Order.{and_1, and_2, le_right, lt_right}
use Rattle.numbers.proofs.Given.{gave_same, unless_given}
use Rattle.numbers.proofs.Unit.{number_is}
use Rattle.bands.specs.declared.Value.{Value}
use Rattle.bands.specs.declared.Band.{Band}
use Rattle.bands.specs.Lookup as bands
use Rattle.bands.specs.Rules.{value_finite, value_positive, placed, band_holds}
use Rattle.fields.specs.declared.held.Fields.{Fields}
use Rattle.fields.specs.Request.{points_of}
use Rattle.fields.specs.Interpolant.{Interpolation}
use Rattle.fields.specs.Accept.{accept_of}
use Rattle.packing.specs.Packing as words
use Rattle.packing.specs.Packing.{at, band_at, point_at, kind_word, first_word, second_word, band_words, band_in, bands_word, number, points_held, head_words, words_of, fields_of}
use Rattle.packing.proofs.Sound.{Sound, sound}
use Rattle.image.specs.Bytes.{number_at}
use Rattle.image.specs.Image.{band_from, count_in, points_in, head_in, band_word, point_word, words_in, value_laid, band_laid, layout, image_for, few_bands, few_points, image_of}
use Rattle.image.proofs.LayoutLaws.{Layout, layout_facts}
use Rattle.image.proofs.ReadAgain.{band_read}
use Rattle.image.proofs.Spans.{number_small}
use Rattle.image.proofs.SavedBytes.{word_is, point_is, bytes_again}

-- ---- bits that are no NaN's are a number's bits
not_nan : (t : Bool) → t ≡ false → T (not t)
not_nan true e = absurd (let z : ◌≡◌ {A = ℕ} 0 1 = cc in omega arith)
not_nan false e = tt

word_back : (x : ℕ) → x < 256 ^ 8 → is_nan (of_bits binary64 x) ≡ false → to_word (of_bits binary64 x) ≡ x
unfolding to_word
word_back x h n = rw n (to_bits-of_bits binary64 x h (not_nan (is_nan (of_bits binary64 x)) n))

symmetry_again : (x : ℕ) → x ≤ 1 → symmetry_word (symmetry_of x) ≡ x
symmetry_again zero h = refl
symmetry_again (suc zero) h = refl
symmetry_again (suc (suc x)) h = absurd (omega arith)

-- a value's words
record Worded (x a b : ℕ) (v : Value) : Type 0 where
  kind : kind_word v ≡ x
  first : first_word v ≡ a
  second : second_word v ≡ b

value_again : (x a b : ℕ) → value_laid x a b ≡ true → a < 256 ^ 8 → b < 256 ^ 8 → value_finite (value_of x (of_bits binary64 a) (of_bits binary64 b)) ≡ true → Worded x a b (value_of x (of_bits binary64 a) (of_bits binary64 b))
value_again zero a b e p q f =
    let w = word_back a p (number_is (of_bits binary64 a) f) in
    record { kind = refl; first = w; second = w ∙ eqb-true a b e }
value_again (suc zero) a b e p q f =
    let u = finite (of_bits binary64 a) in
    let v = finite (of_bits binary64 b) in
    record {
      kind = refl;
      first = word_back a p (number_is (of_bits binary64 a) (and_1 u v f));
      second = word_back b q (number_is (of_bits binary64 b) (and_2 u v f));
    }
value_again (suc (suc x)) a b e p q f =
    let l : suc (suc x) ≤ 1 = leb-true (suc (suc x)) 1 (and_1 (leb (suc (suc x)) 1) (eqb (suc (suc x)) 1 || eqb a b) e) in
    absurd (omega arith)

-- what a band's words read as
abbrev band_for : ℕ → ℕ → ℕ → ℕ → ℕ → ℕ → ℕ → ℕ → Band
band_for x0 x1 x2 x3 x4 x5 x6 x7 =
    record {
      begin = of_bits binary64 x2;
      end = of_bits binary64 x3;
      desired = value_of x0 (of_bits binary64 x4) (of_bits binary64 x5);
      weight = value_of x1 (of_bits binary64 x6) (of_bits binary64 x7);
    }

band_again : (x0 x1 x2 x3 x4 x5 x6 x7 : ℕ) → value_laid x0 x4 x5 ≡ true → value_laid x1 x6 x7 ≡ true
    → x2 < 256 ^ 8 → x3 < 256 ^ 8 → x4 < 256 ^ 8 → x5 < 256 ^ 8 → x6 < 256 ^ 8 → x7 < 256 ^ 8 → band_holds (band_for x0 x1 x2 x3 x4 x5 x6 x7) ≡ true
    → band_words (band_for x0 x1 x2 x3 x4 x5 x6 x7) ≡ x0 ∷ x1 ∷ x2 ∷ x3 ∷ x4 ∷ x5 ∷ x6 ∷ x7 ∷ []
unfolding band_holds
band_again x0 x1 x2 x3 x4 x5 x6 x7 l m h2 h3 h4 h5 h6 h7 h =
    let b = band_for x0 x1 x2 x3 x4 x5 x6 x7 in
    let t1 = placed b.begin b.end in
    let t2 = value_finite b.desired in
    let t3 = value_finite b.weight in
    let t4 = value_positive b.weight in
    let e3 = and_1 (t1 && t2 && t3) t4 h in
    let e2 = and_1 (t1 && t2) t3 e3 in
    let e1 = and_1 t1 t2 e2 in
    let be = and_1 (le zero64 b.begin && lt b.begin b.end) (le b.end (of_bits binary64 0x3fe0_0000_0000_0000)) e1 in
    let d = value_again x0 x4 x5 l h4 h5 (and_2 t1 t2 e2) in
    let w = value_again x1 x6 x7 m h6 h7 (and_2 (t1 && t2) t3 e3) in
    rw (
      d.kind,
      w.kind,
      word_back x2 h2 (le_right zero64 b.begin (and_1 (le zero64 b.begin) (lt b.begin b.end) be)),
      word_back x3 h3 (lt_right b.begin b.end (and_2 (le zero64 b.begin) (lt b.begin b.end) be)),
      d.first,
      d.second,
      w.first,
      w.second,
    )

module _ (s : List ℕ) (small : (i : ℕ) → get_or s i 0 < 256) (lay : Layout s) (sd : Sound (fields_of (words_in s))) where
  abbrev w : List ℕ
  w = words_in s

  abbrev j : Fields
  j = fields_of w

  abbrev n : ℕ
  n = count_in s

  abbrev m : ℕ
  m = points_in s

  eight : (i : ℕ) → number_at s i 8 < 256 ^ 8
  eight i = number_small s small i 8

  count_is : j.request.plan.count ≡ n
  unfolding fields_of words_in
  count_is = refl

  held_is : points_held j ≡ m
  unfolding fields_of words_in
  held_is = refl

  few : m ≤ 65
  few = rw (← held_is) (go (eqb j.made 0))
    where
      go : (t : Bool) → cond t 0 (points_of j.request) ≤ 65
      go true = omega arith
      go false = sd.points_most

  head_again : head_words j ≡ head_in s
  unfolding fields_of words_in
  head_again =
      rw (
        symmetry_again (number_at s 5 1) lay.head.symmetry,
        word_back (number_at s 12 8) (eight 12) sd.threshold,
        word_back (number_at s 20 8) (eight 20) sd.flatness,
      )

  -- ---- a band
  module _ (i : ℕ) (h : i < n) where
    band_is : bands.band_of j.request.plan i ≡ band_for (band_read s i 0) (band_read s i 1) (band_read s i 2) (band_read s i 3) (band_read s i 4) (band_read s i 5) (band_read s i 6) (band_read s i 7)
    unfolding fields_of
    band_is =
        let h8 : i < 8 = omega (arith, lay.head.most, h) in
        let z : band_at i ≡ band_at i + 0 = omega arith in
        tab-get (band_in w) 8 i bands.no_band h8
        ∙ rw (
          word_is s small lay i 0 h (omega arith) (band_at i) z,
          word_is s small lay i 1 h (omega arith) (band_at i + 1) refl,
          word_is s small lay i 2 h (omega arith) (band_at i + 2) refl,
          word_is s small lay i 3 h (omega arith) (band_at i + 3) refl,
          word_is s small lay i 4 h (omega arith) (band_at i + 4) refl,
          word_is s small lay i 5 h (omega arith) (band_at i + 5) refl,
          word_is s small lay i 6 h (omega arith) (band_at i + 6) refl,
          word_is s small lay i 7 h (omega arith) (band_at i + 7) refl,
        )

    laid_values : (value_laid (band_read s i 0) (band_read s i 4) (band_read s i 5) && value_laid (band_read s i 1) (band_read s i 6) (band_read s i 7)) ≡ true
    laid_values =
        let l : band_laid s i ≡ true = every-at (band_laid s) n i lay.bands h in
        rw (lt-ltb i n h) at l

    words_again : band_words (bands.band_of j.request.plan i)
        ≡ band_read s i 0 ∷ band_read s i 1 ∷ band_read s i 2 ∷ band_read s i 3 ∷ band_read s i 4 ∷ band_read s i 5 ∷ band_read s i 6 ∷ band_read s i 7 ∷ []
    words_again =
        let d = value_laid (band_read s i 0) (band_read s i 4) (band_read s i 5) in
        let v = value_laid (band_read s i 1) (band_read s i 6) (band_read s i 7) in
        let q : i < j.request.plan.count = rw count_is h in
        ap band_words band_is
        ∙ band_again (band_read s i 0) (band_read s i 1) (band_read s i 2) (band_read s i 3) (band_read s i 4) (band_read s i 5) (band_read s i 6) (band_read s i 7)
        (and_1 d v laid_values) (and_2 d v laid_values)
        (eight (band_from i + 2 + 0)) (eight (band_from i + 2 + 8)) (eight (band_from i + 2 + 16)) (eight (band_from i + 2 + 24)) (eight (band_from i + 2 + 32)) (eight (band_from i + 2 + 40))
        (rw band_is at (sd.bands i q))

    entry : (k : ℕ) → k < 8 → get_or (band_words (bands.band_of j.request.plan i)) k 0 ≡ band_read s i k
    entry k hk = ap (λ l. get_or l k 0) words_again ∙ go k hk
      where
        go : (k : ℕ) → k < 8 → get_or (band_read s i 0 ∷ band_read s i 1 ∷ band_read s i 2 ∷ band_read s i 3 ∷ band_read s i 4 ∷ band_read s i 5 ∷ band_read s i 6 ∷ band_read s i 7 ∷ []) k 0 ≡ band_read s i k
        go zero h = refl
        go (suc zero) h = refl
        go (suc (suc zero)) h = refl
        go (suc (suc (suc zero))) h = refl
        go (suc (suc (suc (suc zero)))) h = refl
        go (suc (suc (suc (suc (suc zero))))) h = refl
        go (suc (suc (suc (suc (suc (suc zero)))))) h = refl
        go (suc (suc (suc (suc (suc (suc (suc zero))))))) h = refl
        go (suc (suc (suc (suc (suc (suc (suc (suc k)))))))) h = absurd (omega arith)

  band_word_again : (i k : ℕ) → k < 8 → bands_word j.request.plan i k ≡ band_word s i k
  band_word_again i k hk = ap (λ c. cond (ltb i c) (get_or (band_words (bands.band_of j.request.plan i)) k 0) 0) count_is ∙ go (ltb i n) refl
    where
      go : (t : Bool) → ltb i (count_in s) ≡ t → cond t (get_or (band_words (bands.band_of j.request.plan i)) k 0) 0 ≡ cond t (band_read s i k) 0
      go true e = entry i (ltb-true i (count_in s) e) k hk
      go false e = refl

  -- ---- a point
  number_at_fact : (i : ℕ) → i < 65 → get_or j.points i nan ≡ number w (point_at i)
  unfolding fields_of
  number_at_fact i h = tab-get (λ i. number w (point_at i)) 65 i nan h

  point_again : (i : ℕ) → i < 65 → words.point_word j i ≡ point_word s i
  point_again i h65 = ap (λ c. cond (ltb i c) (to_word (get_or j.points i nan)) 0) held_is ∙ go (ltb i m) refl
    where
      go : (t : Bool) → ltb i (points_in s) ≡ t → cond t (to_word (get_or j.points i nan)) 0 ≡ cond t (number_at s (band_from (count_in s) + 8 * i) 8) 0
      go true e =
          let h : i < points_in s = ltb-true i (points_in s) e in
          let q : i < points_held j = rw held_is h in
          let p = number_at s (band_from (count_in s) + 8 * i) 8 in
          let z : get_or j.points i nan ≡ of_bits binary64 p = number_at_fact i h65 ∙ ap (of_bits binary64) (point_is s small lay few i h) in
          ap to_word z ∙ word_back p (eight (band_from (count_in s) + 8 * i)) (rw z at (sd.points i q))
      go false e = refl

  pub words_same : words_of j ≡ w
  unfolding words_of words_in
  words_same =
      let b : tab (λ k. bands_word j.request.plan (k / 8) (k % 8)) 64 0 ≡ tab (λ k. band_word s (k / 8) (k % 8)) 64 0 =
      tab-same _ _ 64 0 (λ k _ _. band_word_again (k / 8) (k % 8) (mod-lt k (omega arith))) in
      let p : tab (words.point_word j) 65 0 ≡ tab (point_word s) 65 0 = tab-same _ _ 65 0 (λ i _ h. point_again i (rw (zero_plus 65) at h)) in
      ap (λ h. h ++ (tab (λ k. bands_word j.request.plan (k / 8) (k % 8)) 64 0 ++ tab (words.point_word j) 65 0)) head_again
      ∙ ap (λ h. head_in s ++ (h ++ tab (words.point_word j) 65 0)) b
      ∙ ap (λ h. head_in s ++ (tab (λ k. band_word s (k / 8) (k % 8)) 64 0 ++ h)) p
    where
      zero_plus : (k : ℕ) → 0 + k ≡ k
      zero_plus k = omega arith

  bands_few : few_bands j ≡ n
  bands_few = rw (count_is, le-ltb 8 n lay.head.most)

  points_few : few_points j ≡ m
  points_few = ap (λ k. cond (ltb 65 k) 65 k) held_is ∙ rw (le-ltb 65 m few)

  pub image_again : image_of j ≡ s
  unfolding image_of
  image_again = rw (words_same, bands_few, points_few) (bytes_again s small lay few)

-- every accepted image saves back to the same bytes; past their end bytes count as zero
pub saved_again : (s : List ℕ) (j : Fields) (i : Interpolation) → ((k : ℕ) → get_or s k 0 < 256) → image_for s ≡ gave j → accept_of j ≡ gave i → image_of j ≡ s
unfolding image_for
saved_again s j i small e accepted =
    let u = unless_given (layout s) 14 (gave (fields_of (words_in s))) e in
    let same : fields_of (words_in s) ≡ j = gave_same u.rest in
    let sd : Sound (fields_of (words_in s)) = sound (fields_of (words_in s)) i (points_long s) (rw same accepted) in
    rw (← same) (image_again s small (layout_facts s u.test) sd)
  where
    points_long : (s : List ℕ) → length (fields_of (words_in s)).points ≡ 65
    points_long s = unfold fields_of in length-tab (λ i. number (words_in s) (point_at i)) 65 0
