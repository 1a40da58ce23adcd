-- The first and the last entry halved where they stand. Assumes nothing.
use Prim.Native.Nat.{ℕ, ◌-◌, ◌<◌, ◌≤◌}
use mathlib.Core.Path.{◌≡◌, refl, sym, ap, ◌∙◌}
use mathlib.Core.Bool.{Bool, true, false, ◌||◌, cond}
use mathlib.Core.List.{List}
use native.Mathlib.Omega.{arith}
use borrow.Author.Tests.{eqb-true, eqb-false}
use lib.Dec.{eqb}
use lib.ListN.{length, get_or, set, length-set}
use lib.Seq.{get_or-set_same, get_or-set_other, ext_get_or}
use lib.Ieee.{Float, nan}
use Rattle.numbers.specs.Operations.{◌⊗◌}
use Rattle.numbers.proofs.LoopLaws.{length-tab}
use Rattle.numbers.proofs.Lanes.{tab-get}
use Rattle.angles.specs.Constants.{half}
use Rattle.chebyshev.specs.Coefficients.{halve_ends}

-- the entry k halved
abbrev pub halve_at : ℕ → List Float → List Float
halve_at k l = set l k (get_or l k nan ⊗ half)

module _ (l : List Float) (m : ℕ) (p : 0 < m) (q : m < length l) where
  halved_at : (i : ℕ) (s t : Bool) → eqb i 0 ≡ s → eqb i m ≡ t → get_or (halve_at m (halve_at 0 l)) i nan ≡ cond (s || t) (get_or l i nan ⊗ half) (get_or l i nan)
  halved_at i true t a b =
      let z : i ≡ 0 = eqb-true i 0 a in
      let h : 0 < length l = omega arith in
      get_or-set_other (halve_at 0 l) m i _ nan (λ e. omega arith)
      ∙ ap (λ k. get_or (halve_at 0 l) k nan) z
      ∙ get_or-set_same l 0 _ nan h
      ∙ ap (λ k. get_or l k nan ⊗ half) (sym z)
  halved_at i false true a b =
      let z : i ≡ m = eqb-true i m b in
      let h : m < length (halve_at 0 l) = simp length-set q in
      ap (λ k. get_or (halve_at m (halve_at 0 l)) k nan) z
      ∙ get_or-set_same (halve_at 0 l) m _ nan h
      ∙ ap (λ v. v ⊗ half) (get_or-set_other l 0 m _ nan (λ e. omega arith))
      ∙ ap (λ k. get_or l k nan ⊗ half) (sym z)
  halved_at i false false a b =
      get_or-set_other (halve_at 0 l) m i _ nan (eqb-false i m b) ∙ get_or-set_other l 0 i _ nan (eqb-false i 0 a)

pub halved : (l : List Float) → 2 ≤ length l → halve_at (length l - 1) (halve_at 0 l) ≡ halve_ends l
halved l h =
    ext_get_or nan (halve_at (length l - 1) (halve_at 0 l)) (halve_ends l) (simp length-set (sym (length-tab _ (length l) 0)))
    (λ i b. halved_at l (length l - 1) (omega arith) (omega arith) i (eqb i 0) (eqb i (length l - 1)) refl refl ∙ sym (tab-get _ (length l) i nan (simp length-set at b)))
