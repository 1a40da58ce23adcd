-- The image of a job (document 01, "The image"): "RXS", version 1, and the fields, a byte or two or eight each; per band 50 bytes; then
-- the points. Nothing derived is kept.
use Rattle.bands.specs.Numbered.{symmetry_of}
use Rattle.std.specs.Prelude.{ℕ, zero, suc, ◌+◌, ◌*◌, ◌/◌, ◌%◌, ◌-◌, Bool, ◌&&◌, ◌||◌, cond, List, [], ◌∷◌, ◌++◌, eqb, leb, ltb, length, take, drop, get_or}
use Rattle.std.specs.Float.{binary64}
use Rattle.std.specs.Float.Ieee.{of_bits}
use Rattle.numbers.specs.Loops.{tab, every}
use Rattle.numbers.specs.Outcome.{Outcome, gave, unless}
use Rattle.fields.specs.declared.held.Fields.{Fields}
use Rattle.fields.specs.Accept.{counts_hold}
use Rattle.packing.specs.Packing.{at, symmetry_at, taps_at, degree_at, allowed_at, made_at, count_at, threshold_at, flatness_at, band_at, point_at, words_of, fields_of}
use Rattle.image.specs.Bytes.{bytes_of, number_at}
pub use Rattle.packing.specs.Packing.{points_for}

-- ---- sizes
abbrev pub head_bytes : ℕ
head_bytes = 28

abbrev pub band_bytes : ℕ
band_bytes = 50

-- 28 + 50 bands + 8 points
abbrev pub length_for : ℕ → ℕ → ℕ
length_for bands points = head_bytes + band_bytes * bands + 8 * points

-- ---- from words to bytes
-- R, X, S
abbrev pub mark : List ℕ
mark = 82 ∷ 88 ∷ 83 ∷ []

-- the mark, version 1, the symmetry and the taps: the first 8 bytes
abbrev pub start_of : List ℕ → List ℕ
start_of w = mark ++ (bytes_of 2 1 ++ (bytes_of 1 (at w symmetry_at) ++ bytes_of 2 (at w taps_at)))

abbrev pub head_of : List ℕ → List ℕ
head_of w =
    mark ++ (bytes_of 2 1 ++ (bytes_of 1 (at w symmetry_at) ++ (bytes_of 2 (at w taps_at) ++ (bytes_of 1 (at w degree_at)
    ++ (bytes_of 1 (at w allowed_at) ++ (bytes_of 1 (at w made_at) ++ (bytes_of 1 (at w count_at)
    ++ (bytes_of 8 (at w threshold_at) ++ bytes_of 8 (at w flatness_at)))))))))

abbrev pub band_of : List ℕ → ℕ → List ℕ
band_of w i =
    bytes_of 1 (at w (band_at i)) ++ (bytes_of 1 (at w (band_at i + 1)) ++ (bytes_of 8 (at w (band_at i + 2)) ++ (bytes_of 8 (at w (band_at i + 3))
    ++ (bytes_of 8 (at w (band_at i + 4)) ++ (bytes_of 8 (at w (band_at i + 5)) ++ (bytes_of 8 (at w (band_at i + 6)) ++ bytes_of 8 (at w (band_at i + 7))))))))

-- the parts g i, g (i + 1), .., n of them, one behind the other
unfoldable pub parts : (ℕ → List ℕ) → ℕ → ℕ → List ℕ
parts g zero i = []
parts g (suc n) i = g i ++ parts g n (i + 1)

-- the k bytes of word i from word `from` on
abbrev pub word_part : List ℕ → ℕ → ℕ → ℕ → List ℕ
word_part w from k i = bytes_of k (at w (from + i))

-- the first bands of 8, and the first points of 65
abbrev pub bytes_for : List ℕ → ℕ → ℕ → List ℕ
bytes_for w bands points = head_of w ++ (parts (band_of w) bands 0 ++ parts (λ i. bytes_of 8 (at w (point_at i))) points 0)

-- ---- from bytes to words
abbrev pub made_in : List ℕ → ℕ
made_in s = number_at s 10 1

abbrev pub count_in : List ℕ → ℕ
count_in s = number_at s 11 1

abbrev pub points_in : List ℕ → ℕ
points_in s = points_for (made_in s) (number_at s 6 2) (symmetry_of (number_at s 5 1))

-- where a band and the points begin
abbrev pub band_from : ℕ → ℕ
band_from i = head_bytes + band_bytes * i

abbrev pub points_from : List ℕ → ℕ
points_from s = band_from (count_in s)

abbrev pub head_in : List ℕ → List ℕ
head_in s =
    number_at s 5 1 ∷ number_at s 6 2 ∷ number_at s 8 1 ∷ number_at s 9 1 ∷ made_in s ∷ count_in s ∷ number_at s 12 8 ∷ number_at s 20 8 ∷ []

-- word k of band i: two kinds of one byte, then numbers of eight
abbrev pub band_word : List ℕ → ℕ → ℕ → ℕ
band_word s i k =
    cond (ltb i (count_in s)) (cond (ltb k 2) (number_at s (band_from i + k) 1) (number_at s (band_from i + 2 + 8 * (k - 2)) 8)) 0

abbrev pub point_word : List ℕ → ℕ → ℕ
point_word s i = cond (ltb i (points_in s)) (number_at s (points_from s + 8 * i) 8) 0

unfoldable pub words_in : List ℕ → List ℕ
words_in s = head_in s ++ (tab (λ k. band_word s (k / 8) (k % 8)) 64 0 ++ tab (point_word s) 65 0)

-- ---- the layout
abbrev pub marked : List ℕ → Bool
marked s = eqb (get_or s 0 0) 82 && (eqb (get_or s 1 0) 88 && eqb (get_or s 2 0) 83)

-- a kind byte of 0 or 1; a constant repeats its number's bits
abbrev pub value_laid : ℕ → ℕ → ℕ → Bool
value_laid kind a b = leb kind 1 && (eqb kind 1 || eqb a b)

abbrev pub band_laid : List ℕ → ℕ → Bool
band_laid s i =
    value_laid (band_word s i 0) (band_word s i 4) (band_word s i 5) && value_laid (band_word s i 1) (band_word s i 6) (band_word s i 7)

-- version 1, a symmetry of 0 or 1, 1 to 8 bands, and counts that go together
unfoldable pub head_laid : List ℕ → Bool
head_laid s =
    leb head_bytes (length s) && marked s && eqb (number_at s 3 2) 1 && leb (number_at s 5 1) 1 && leb 1 (count_in s) && leb (count_in s) 8
    && counts_hold (made_in s) (number_at s 9 1) (of_bits binary64 (number_at s 20 8))

-- 14 where it does not hold
unfoldable pub layout : List ℕ → Bool
layout s = head_laid s && eqb (length s) (length_for (count_in s) (points_in s)) && every (band_laid s) (count_in s)

-- the fields of an image: 14, or what its bytes hold
unfoldable pub image_for : List ℕ → Outcome Fields
image_for s = unless (layout s) 14 (gave (fields_of (words_in s)))

-- ---- saving: the bytes of the fields; of counts that no job has, no more than the words hold
abbrev pub few_bands : Fields → ℕ
few_bands j = cond (ltb 8 j.request.plan.count) 8 j.request.plan.count

abbrev pub few_points : Fields → ℕ
few_points j = let n = points_for j.made j.request.taps j.request.symmetry in cond (ltb 65 n) 65 n

unfoldable pub image_of : Fields → List ℕ
image_of j = bytes_for (words_of j) (few_bands j) (few_points j)

-- ---- the points: that very part of the bytes, and for bytes that 14 refuses the empty part at their start
abbrev pub points_part_at : List ℕ → ℕ
points_part_at s = cond (layout s) (points_from s) 0

abbrev pub points_part_length : List ℕ → ℕ
points_part_length s = cond (layout s) (8 * points_in s) 0

abbrev pub points_part : List ℕ → List ℕ
points_part s = take (points_part_length s) (drop (points_part_at s) s)

-- ---- as leaves: 1 for an output below 948 bytes
abbrev pub most_bytes : ℕ
most_bytes = 948

unfoldable pub save_for : Fields → ℕ → Outcome (List ℕ)
save_for j room = unless (leb most_bytes room) 1 (gave (image_of j))
