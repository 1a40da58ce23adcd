-- Where each word of the fields stands, and that words of alike fields are the same. Assumes nothing.
use Prim.Native.Nat.{ℕ, ◌+◌, ◌*◌, ◌/◌, ◌%◌, ◌<◌}
use mathlib.Core.Path.{◌≡◌, refl, sym, ap, ◌∙◌}
use mathlib.Core.Bool.{Bool, true, false, cond}
use mathlib.Core.List.{List, ◌++◌}
use native.Mathlib.Omega.{arith}
use borrow.Author.Tests.{ltb-true}
use lib.Dec.{ltb}
use lib.ListN.{length, get_or, get_or-append}
use lib.Seq.{get_or-append-add, get_or-take}
use lib.Ieee.{nan}
use Rattle.numbers.specs.Loops.{tab}
use Rattle.numbers.specs.Words.{to_word}
use Rattle.numbers.proofs.LoopLaws.{length-tab}
use Rattle.numbers.proofs.Lanes.{tab-same, tab-get}
use Rattle.bands.specs.Lookup.{band_of}
use Rattle.fields.specs.declared.held.Fields.{Fields}
use Rattle.packing.specs.Packing.{at, band_at, point_at, band_words, bands_word, points_held, point_word, head_words, words_of}
use Rattle.packing.specs.Alike.{Alike}

abbrev bands_part : Fields → List ℕ
bands_part j = tab (λ k. bands_word j.request.plan (k / 8) (k % 8)) 64 0

abbrev points_part : Fields → List ℕ
points_part j = tab (point_word j) 65 0

-- ---- words in three parts: 8 of the head, 64 of the bands and 65 of the points
module _ (h : List ℕ) (f g : ℕ → ℕ) (long : length h ≡ 8) where
  behind_head : (k p : ℕ) → p ≡ 8 + k → get_or (h ++ (tab f 64 0 ++ tab g 65 0)) p 0 ≡ get_or (tab f 64 0 ++ tab g 65 0) k 0
  behind_head k p e = rw (e, ← long) (get_or-append-add h (tab f 64 0 ++ tab g 65 0) k 0)

  pub band_part : (i k : ℕ) → i < 8 → k < 8 → (p : ℕ) → p ≡ band_at i + k → get_or (h ++ (tab f 64 0 ++ tab g 65 0)) p 0 ≡ f (8 * i + k)
  band_part i k hi hk p e =
      let z : p ≡ 8 + (8 * i + k) = omega arith in
      let n : 8 * i + k < length (tab f 64 0) = rw (length-tab f 64 0) (omega arith) in
      behind_head (8 * i + k) p z
      ∙ get_or-append (tab f 64 0) (tab g 65 0) 0 (8 * i + k) n
      ∙ tab-get f 64 (8 * i + k) 0 (omega arith)

  pub point_part : (i : ℕ) → i < 65 → get_or (h ++ (tab f 64 0 ++ tab g 65 0)) (point_at i) 0 ≡ g i
  point_part i k =
      let z : 72 + i ≡ 8 + (64 + i) = omega arith in
      behind_head (64 + i) (72 + i) z
      ∙ ap (λ n. get_or (tab f 64 0 ++ tab g 65 0) (n + i) 0) (sym (length-tab f 64 0))
      ∙ get_or-append-add (tab f 64 0) (tab g 65 0) i 0
      ∙ tab-get g 65 i 0 k

-- which band a word is of, and which of its words
pub whose : (i k : ℕ) → k < 8 → ((8 * i + k) / 8 ≡ i) × ((8 * i + k) % 8 ≡ k)
whose i k h = (omega arith, omega arith)

-- word k of band i
pub band_word_lem : (j : Fields) (i k : ℕ) → i < 8 → k < 8 → (m : ℕ) → m ≡ band_at i + k → at (words_of j) m ≡ bands_word j.request.plan i k
unfolding words_of
band_word_lem j i k hi hk m e =
    band_part (head_words j) (λ k. bands_word j.request.plan (k / 8) (k % 8)) (point_word j) refl i k hi hk m e
    ∙ rw ((whose i k hk).0, (whose i k hk).1)

pub point_word_lem : (j : Fields) (i : ℕ) → i < 65 → at (words_of j) (point_at i) ≡ point_word j i
unfolding words_of
point_word_lem j i h = point_part (head_words j) (λ k. bands_word j.request.plan (k / 8) (k % 8)) (point_word j) refl i h

-- ---- alike fields have the same words
module _ (j k : Fields) (a : Alike j k) where
  pub held_alike : points_held j ≡ points_held k
  held_alike = rw (a.made, a.taps, a.symmetry)

  bands_alike : (i m : ℕ) → bands_word j.request.plan i m ≡ bands_word k.request.plan i m
  bands_alike i m = rw a.count (go (ltb i k.request.plan.count) refl)
    where
      go : (t : Bool) → ltb i k.request.plan.count ≡ t
          → cond t (get_or (band_words (band_of j.request.plan i)) m 0) 0 ≡ cond t (get_or (band_words (band_of k.request.plan i)) m 0) 0
      go true e = ap (λ b. get_or (band_words b) m 0) (a.bands i (ltb-true i k.request.plan.count e))
      go false e = refl

  points_alike : (i : ℕ) → point_word j i ≡ point_word k i
  points_alike i = rw held_alike (go (ltb i (points_held k)) refl)
    where
      go : (t : Bool) → ltb i (points_held k) ≡ t → cond t (to_word (get_or j.points i nan)) 0 ≡ cond t (to_word (get_or k.points i nan)) 0
      go true e =
          let h : i < points_held k = ltb-true i (points_held k) e in
          ap to_word
          (sym (get_or-take (points_held k) j.points i nan h) ∙ ap (λ l. get_or l i nan) a.points ∙ get_or-take (points_held k) k.points i nan h)
      go false e = refl

  head_alike : head_words j ≡ head_words k
  head_alike = rw (a.symmetry, a.taps, a.degree, a.exchanges, a.made, a.count, a.threshold, a.flatness)

  pub words_alike : words_of j ≡ words_of k
  unfolding words_of
  words_alike =
      let b : bands_part j ≡ bands_part k = tab-same _ _ 64 0 (λ m _ _. bands_alike (m / 8) (m % 8)) in
      let p : points_part j ≡ points_part k = tab-same (point_word j) (point_word k) 65 0 (λ i _ _. points_alike i) in
      ap (λ h. h ++ (bands_part j ++ points_part j)) head_alike
      ∙ ap (λ h. head_words k ++ (h ++ points_part j)) b
      ∙ ap (λ h. head_words k ++ (bands_part k ++ h)) p
