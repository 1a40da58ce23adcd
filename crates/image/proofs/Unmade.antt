-- An image with no exchange made holds exactly the fields that opening its request gives: flatness +0, and no points, which read as those
-- of an opening. Assumes nothing.
use Prim.Native.Nat.{ℕ, zero, suc, ◌+◌}
use mathlib.Core.Path.{◌≡◌, refl, sym, ap, ◌∙◌}
use mathlib.Core.Bool.{Bool, true, false, not, ◌&&◌, ◌||◌}
use mathlib.Core.List.{List}
use mathlib.Core.Logic.{◌⊎◌, inl, inr}
use native.Mathlib.Omega.{arith}
use borrow.Author.Tests.{le-ltb}
use lib.Dec.{T, leb, ltb}
use lib.IntN.{pos}
use lib.ListN.{replicate}
use lib.Ieee.{Float, fin, binary64, of_bits, fits, eq, le}
use lib.Ieee.Bits.{of_bits-fits}
use Rattle.numbers.specs.Floats.{zero64, one64, sign, is_zero}
use Rattle.numbers.specs.Loops.{tab}
use Rattle.numbers.specs.Outcome.{gave}
use Rattle.numbers.proofs.Given.{gave_same, unless_given}
use Rattle.numbers.proofs.Lanes.{tab-same}
use Rattle.numbers.proofs.Magnitudes.{zero_test}
use Rattle.numbers.proofs.Order.{and_1, and_2}
use Rattle.numbers.proofs.Zero.{zero_or_not, zero64_is}
use Rattle.fields.specs.declared.held.Fields.{Fields}
use Rattle.fields.specs.Accept.{flatness_holds, counts_hold, opening}
use Rattle.packing.specs.Packing.{at, made_at, flatness_at, point_at, number, request_in, fields_of}
use Rattle.image.specs.Bytes.{number_at}
use Rattle.image.specs.Image.{made_in, points_in, point_word, words_in, layout, image_for}
use Rattle.image.proofs.LayoutLaws.{layout_facts}
use Rattle.image.proofs.SavedBytes.{point_at_fact}

not-false : (b : Bool) → not b ≡ true → b ≡ false
not-false true e = sym e
not-false false e = refl

-- a zero whose sign bit is clear is +0
clear_zero : (x : Float) → T (fits binary64 x) → sign x ≡ false → eq x zero64 ≡ true → x ≡ zero64
clear_zero x f s e = go (zero_or_not binary64 x f)
  where
    go : (x ≡ fin (sign x) 0 (pos 0)) ⊎ (is_zero x ≡ false) → x ≡ zero64
    go (inl z) = z ∙ ap (λ (b : Bool). fin b 0 (pos 0)) s ∙ sym zero64_is
    go (inr z) = absurd (let k : true ≡ false = sym e ∙ zero_test x ∙ z in let q : ◌≡◌ {A = ℕ} 0 1 = cc in omega arith)

-- flatness where none was made
flatness_none : (made allowed : ℕ) (x : Float) → T (fits binary64 x) → made ≡ 0 → counts_hold made allowed x ≡ true → x ≡ zero64
flatness_none made allowed x f m h =
    let z : counts_hold 0 allowed x ≡ true = rw m at h in
    let t = and_2 (leb 0 allowed) (flatness_holds 0 x) z in
    let front = and_1 (le zero64 x && le x one64 && not (sign x)) (ltb 0 0 || eq x zero64) t in
    clear_zero x f (not-false (sign x) (and_2 (le zero64 x && le x one64) (not (sign x)) front)) (and_2 (le zero64 x && le x one64 && not (sign x)) (ltb 0 0 || eq x zero64) t)

-- a list of one number
tab-alike : {A : Type 0} (a : A) (n i : ℕ) → tab (λ k. a) n i ≡ replicate n a
unfolding tab
tab-alike a zero i = refl
tab-alike a (suc n) i = rw (tab-alike a n (i + 1))

module _ (s : List ℕ) (none : made_in s ≡ 0) where
  no_points : points_in s ≡ 0
  no_points = rw none

  no_word : (i : ℕ) → point_word s i ≡ 0
  no_word i = rw (no_points, le-ltb i 0 (omega arith))

  points_are : tab (λ i. number (words_in s) (point_at i)) 65 0 ≡ replicate 65 zero64
  points_are =
      tab-same (λ i. number (words_in s) (point_at i)) (λ i. zero64) 65 0 (λ i _ h. ap (of_bits binary64) (point_at_fact s i (rw (zero_plus 65) at h) ∙ no_word i))
      ∙ tab-alike zero64 65 0
    where
      zero_plus : (k : ℕ) → 0 + k ≡ k
      zero_plus k = omega arith

  made_is : at (words_in s) made_at ≡ 0
  unfolding words_in
  made_is = none

  flatness_is : layout s ≡ true → number (words_in s) flatness_at ≡ zero64
  unfolding words_in
  flatness_is laid = flatness_none (made_in s) (number_at s 9 1) (of_bits binary64 (number_at s 20 8)) (of_bits-fits binary64 (number_at s 20 8)) none (layout_facts s laid).head.counts

  fields_are : layout s ≡ true → fields_of (words_in s) ≡ opening (fields_of (words_in s)).request
  unfolding fields_of
  fields_are laid = λ t. record { request = request_in (words_in s); made = made_is t; flatness = flatness_is laid t; points = points_are t }

made_same : (s : List ℕ) → (fields_of (words_in s)).made ≡ made_in s
unfolding fields_of words_in
made_same s = refl

pub unmade : (s : List ℕ) (f : Fields) → image_for s ≡ gave f → f.made ≡ 0 → f ≡ opening f.request
unfolding image_for
unmade s f e none =
    let u = unless_given (layout s) 14 (gave (fields_of (words_in s))) e in
    let same : fields_of (words_in s) ≡ f = gave_same u.rest in
    let m : made_in s ≡ 0 = sym (made_same s) ∙ ap (λ (g : Fields). g.made) same ∙ none in
    rw (← same) (fields_are s m u.test)
