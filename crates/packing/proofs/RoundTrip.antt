-- The words of an accepted job hold the job: the fields read from them are the job's, but for the bands beyond its count and the points
-- beyond those it holds, and packing them gives the same words. Assumes nothing.
use Rattle.bands.specs.Numbered.{symmetry_of, symmetry_word, value_of}
use Prim.Native.Nat.{ℕ, ◌+◌, ◌<◌, ◌≤◌}
use mathlib.Core.Path.{◌≡◌, refl, sym, ap, ◌∙◌}
use mathlib.Core.Bool.{Bool, true, false, ◌&&◌, cond}
use mathlib.Core.List.{List}
use native.Mathlib.Omega.{arith}
use borrow.Author.Tests.{lt-ltb}
use lib.Dec.{T, eqb}
use lib.ListN.{length, get_or, take}
use lib.Seq.{get_or-take, length-take-le, ext_get_or}
use lib.Ieee.{Float, nan, binary64, of_bits, is_nan, fits, lt, le}
use lib.Ieee.Bits.{of_bits-to_bits}
use lib.Ieee.Scale.{finite}
use Rattle.numbers.specs.Floats.{zero64}
use Rattle.numbers.specs.Loops.{tab}
use Rattle.numbers.specs.Outcome.{gave}
use Rattle.numbers.specs.Words.{to_word}
use Rattle.numbers.proofs.LoopLaws.{length-tab}
use Rattle.numbers.proofs.Lanes.{tab-get}
use Rattle.numbers.proofs.Order.{and_1, and_2, le_right, lt_right}
use Rattle.numbers.proofs.Unit.{number_is}
use Rattle.bands.specs.declared.Symmetry.{Symmetry}
use Rattle.bands.specs.declared.Symmetry.TheVariants.{Even, Odd}
use Rattle.bands.specs.declared.Value.{Value}
use Rattle.bands.specs.declared.Value.TheVariants.{Constant, Linear}
use Rattle.bands.specs.declared.Band.{Band}
use Rattle.bands.specs.Lookup.{no_band, band_of}
use Rattle.bands.specs.Rules.{value_finite, value_positive, placed, band_holds}
use Rattle.fields.specs.declared.held.Fields.{Fields}
use Rattle.fields.specs.Request.{points_of}
use Rattle.fields.specs.Interpolant.{Interpolation}
use Rattle.fields.specs.Accept.{accept_of}
use Rattle.packing.specs.Packing.{at, band_at, point_at, kind_word, first_word, second_word, band_words, band_in, number, points_held, words_of, fields_of}
use Rattle.packing.specs.Alike.{ValueFits, BandFits, Stored, Alike}
use Rattle.packing.proofs.Sound.{Sound, sound}
use Rattle.packing.proofs.Places.{band_word_lem, point_word_lem, words_alike}

-- a number is read back from its bits
pub number_back : (x : Float) → T (fits binary64 x) → is_nan x ≡ false → of_bits binary64 (to_word x) ≡ x
unfolding to_word
number_back x f n = rw n (of_bits-to_bits binary64 x f)

pub symmetry_back : (s : Symmetry) → symmetry_of (symmetry_word s) ≡ s
symmetry_back Even = refl
symmetry_back Odd = refl

value_back : (v : Value) → ValueFits v → value_finite v ≡ true → value_of (kind_word v) (of_bits binary64 (first_word v)) (of_bits binary64 (second_word v)) ≡ v
value_back (Constant a) f n = ap Constant (number_back a f (number_is a n))
value_back (Linear a b) f n =
    rw (number_back a f.0 (number_is a (and_1 (finite a) (finite b) n)), number_back b f.1 (number_is b (and_2 (finite a) (finite b) n)))

-- what a band's words read as
abbrev read_band : List ℕ → Band
read_band w =
    record {
      begin = of_bits binary64 (get_or w 2 0);
      end = of_bits binary64 (get_or w 3 0);
      desired = value_of (get_or w 0 0) (of_bits binary64 (get_or w 4 0)) (of_bits binary64 (get_or w 5 0));
      weight = value_of (get_or w 1 0) (of_bits binary64 (get_or w 6 0)) (of_bits binary64 (get_or w 7 0));
    }

band_back : (b : Band) → BandFits b → band_holds b ≡ true → read_band (band_words b) ≡ b
unfolding band_holds
band_back b f h =
    let t1 = placed b.begin b.end in
    let t2 = value_finite b.desired in
    let t3 = value_finite b.weight in
    let t4 = value_positive b.weight in
    let e3 = and_1 (t1 && t2 && t3) t4 h in
    let e2 = and_1 (t1 && t2) t3 e3 in
    let e1 = and_1 t1 t2 e2 in
    let begin-end = and_1 (le zero64 b.begin && lt b.begin b.end) (le b.end (of_bits binary64 0x3fe0_0000_0000_0000)) e1 in
    rw (
      number_back b.begin f.begin (le_right zero64 b.begin (and_1 (le zero64 b.begin) (lt b.begin b.end) begin-end)),
      number_back b.end f.end (lt_right b.begin b.end (and_2 (le zero64 b.begin) (lt b.begin b.end) begin-end)),
      value_back b.desired f.desired (and_2 t1 t2 e2),
      value_back b.weight f.weight (and_2 (t1 && t2) t3 e3),
    )

-- ---- the fields of the words of an accepted job
module _ (j : Fields) (stored : Stored j) (s : Sound j) where
  word_of : (i k : ℕ) → i < j.request.plan.count → k < 8 → (m : ℕ) → m ≡ band_at i + k → at (words_of j) m ≡ get_or (band_words (band_of j.request.plan i)) k 0
  word_of i k h hk m e =
      let h8 : i < 8 = omega (arith, s.count_most, h) in
      band_word_lem j i k h8 hk m e ∙ rw (lt-ltb i j.request.plan.count h)

  bands_back : (i : ℕ) → i < j.request.plan.count → band_of (fields_of (words_of j)).request.plan i ≡ band_of j.request.plan i
  unfolding fields_of
  bands_back i h =
      let h8 : i < 8 = omega (arith, s.count_most, h) in
      let z : band_at i ≡ band_at i + 0 = omega arith in
      tab-get (band_in (words_of j)) 8 i no_band h8
      ∙ rw (
        word_of i 0 h (omega arith) (band_at i) z,
        word_of i 1 h (omega arith) (band_at i + 1) refl,
        word_of i 2 h (omega arith) (band_at i + 2) refl,
        word_of i 3 h (omega arith) (band_at i + 3) refl,
        word_of i 4 h (omega arith) (band_at i + 4) refl,
        word_of i 5 h (omega arith) (band_at i + 5) refl,
        word_of i 6 h (omega arith) (band_at i + 6) refl,
        word_of i 7 h (omega arith) (band_at i + 7) refl,
      )
      (band_back (band_of j.request.plan i) (stored.bands i h8) (s.bands i h))

  pub held_most : points_held j ≤ 65
  held_most = go (eqb j.made 0)
    where
      go : (t : Bool) → cond t 0 (points_of j.request) ≤ 65
      go true = omega arith
      go false = s.points_most

  point_back : (i : ℕ) → i < points_held j → number (words_of j) (point_at i) ≡ get_or j.points i nan
  point_back i h =
      let h65 : i < 65 = omega (arith, held_most, h) in
      ap (of_bits binary64) (point_word_lem j i h65 ∙ rw (lt-ltb i (points_held j) h))
      ∙ number_back (get_or j.points i nan) (stored.points i h65) (s.points i h)

  abbrev read : List Float
  read = tab (λ i. number (words_of j) (point_at i)) 65 0

  points_back : take (points_held j) read ≡ take (points_held j) j.points
  points_back =
      let n = points_held j in
      let a : length (take n read) ≡ n = length-take-le n read (rw (length-tab (λ i. number (words_of j) (point_at i)) 65 0) held_most) in
      let b : length (take n j.points) ≡ n = length-take-le n j.points (rw stored.room held_most) in
      ext_get_or nan (take n read) (take n j.points) (a ∙ sym b) (λ i h. at_entry i (rw a at h))
    where
      at_entry : (i : ℕ) → i < points_held j → get_or (take (points_held j) read) i nan ≡ get_or (take (points_held j) j.points) i nan
      at_entry i h =
          let h65 : i < 65 = omega (arith, held_most, h) in
          get_or-take (points_held j) read i nan h
          ∙ tab-get (λ i. number (words_of j) (point_at i)) 65 i nan h65
          ∙ point_back i h
          ∙ sym (get_or-take (points_held j) j.points i nan h)

  pub fields_back : Alike (fields_of (words_of j)) j
  unfolding fields_of words_of
  fields_back =
      record {
        taps = refl;
        symmetry = symmetry_back j.request.symmetry;
        degree = refl;
        exchanges = refl;
        threshold = number_back j.request.threshold stored.threshold s.threshold;
        count = refl;
        bands = bands_back;
        made = refl;
        flatness = number_back j.flatness stored.flatness s.flatness;
        points = points_back;
      }

-- the fields read from an accepted job's words are the job's, as far as a job reads them
pub unpacked : (j : Fields) (i : Interpolation) → Stored j → accept_of j ≡ gave i → Alike (fields_of (words_of j)) j
unpacked j i stored e = fields_back j stored (sound j i stored.room e)

-- and packing them gives the same words
pub packed_again : (j : Fields) (i : Interpolation) → Stored j → accept_of j ≡ gave i → words_of (fields_of (words_of j)) ≡ words_of j
packed_again j i stored e = words_alike (fields_of (words_of j)) j (unpacked j i stored e)
