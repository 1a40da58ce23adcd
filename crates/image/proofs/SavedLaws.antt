-- The bytes of an image: how many they are, and that writing them from the start leaves them in front. Assumes nothing.
use Prim.Native.Nat.{ℕ, ◌+◌, ◌≤◌}
use mathlib.Core.Path.{◌≡◌, refl, ap, ◌∙◌}
use mathlib.Core.Bool.{Bool, true, false, cond}
use mathlib.Core.List.{List, ◌++◌}
use native.Mathlib.Omega.{arith}
use native.Mathlib.Nat.{zero-add}
use borrow.Author.Tests.{ltb-false}
use lib.Dec.{ltb}
use lib.ListN.{length, drop, length-append}
use lib.Seq.{sets, sets-eq}
use Rattle.packing.specs.Packing.{words_of}
use Rattle.fields.specs.declared.held.Fields.{Fields}
use Rattle.image.specs.Image.{length_for, head_of, band_of, word_part, parts, bytes_for, few_bands, few_points, points_for, image_of}
use Rattle.image.proofs.Laying.{parts-length, words_length, band_length, head_length}

pub bytes_for_length : (w : List ℕ) (bands points : ℕ) → length (bytes_for w bands points) ≡ length_for bands points
bytes_for_length w bands points =
    let a = parts-length (band_of w) 50 (band_length w) bands 0 in
    let b = words_length w 72 8 points in
    length-append (head_of w) (parts (band_of w) bands 0 ++ parts (word_part w 72 8) points 0)
    ∙ ap (λ n. length (head_of w) + n) (length-append (parts (band_of w) bands 0) (parts (word_part w 72 8) points 0))
    ∙ rw (head_length w, a, b) (omega arith)

-- the smaller of the two
few_most : (k n : ℕ) → cond (ltb k n) k n ≤ k
few_most k n = go (ltb k n) refl
  where
    go : (t : Bool) → ltb k n ≡ t → cond t k n ≤ k
    go true e = omega arith
    go false e = ltb-false k n e

pub bands_most : (j : Fields) → few_bands j ≤ 8
bands_most j = few_most 8 j.request.plan.count

pub points_most : (j : Fields) → few_points j ≤ 65
points_most j = few_most 65 (points_for j.made j.request.taps j.request.symmetry)

pub image_length : (j : Fields) → length (image_of j) ≡ length_for (few_bands j) (few_points j)
unfolding image_of
image_length j = bytes_for_length (words_of j) (few_bands j) (few_points j)

-- 28 + 50 * 8 + 8 * 65 at most
pub image_most : (j : Fields) → length (image_of j) ≤ 948
image_most j = let a = bands_most j in let b = points_most j in omega (arith, image_length j, a, b)

pub in_front : (x out : List ℕ) → length x ≤ length out → sets out 0 x ≡ x ++ drop (length x) out
in_front x out h = let k : 0 + length x ≤ length out = omega arith in sets-eq x out 0 k ∙ rw zero-add

pub saved : (out : List ℕ) {w : List ℕ} {bands points : ℕ} (j : Fields) → w ≡ words_of j → bands ≡ few_bands j → points ≡ few_points j → sets out 0 (bytes_for w bands points) ≡ sets out 0 (image_of j)
unfolding image_of
saved out j e f g = rw (e, f, g)
