-- What was given tells: a list of roots has at most as many as the matrix has rows; and a bracket that halving leaves is one point
-- whose residual is zero, or its ends' residuals differ in sign, as those of the cell did. Assumes nothing.
use Prim.Native.Nat.{ℕ, zero, suc, ◌≤◌}
use mathlib.Core.Path.{◌≡◌, refl, sym, ap, ◌∙◌}
use mathlib.Core.Logic.{◌⊎◌, inl, inr}
use mathlib.Core.Bool.{Bool, true, false, cond, ◌&&◌}
use mathlib.Core.List.{List, [], map}
use native.Mathlib.Omega.{arith}
use borrow.Author.Tests.{leb-true}
use lib.Dec.{leb, eqb}
use lib.ListN.{length, length-map}
use lib.Ieee.{Float, lt, eq, is_nan, of_bits}
use lib.Ieee.Scale.{finite}
use Rattle.numbers.specs.Floats.{zero64, all_finite}
use Rattle.numbers.specs.Outcome.{Outcome, gave, bind, unless}
use Rattle.numbers.proofs.Given.{gave_same, unless_given, bind_given}
use Rattle.numbers.proofs.Order.{no, lt_asym}
use Rattle.numbers.proofs.Chains.{trichotomy}
use Rattle.numbers.proofs.Unit.{number_is}
use Rattle.colleague.specs.declared.Colleague.{Colleague}
use Rattle.colleague.specs.Matrix.{Matrix, entries_finite}
use Rattle.roots.specs.declared.brackets.Bracket.{Bracket}
use Rattle.roots.specs.Residual.{residual}
use Rattle.roots.specs.Brackets.{grid, opposite, bracket, middle, halved, found, low_of, low_ends}
use Rattle.roots.specs.Answer.{rows_of, brackets_of, roots_for}
use Rattle.roots.proofs.BracketLaws.{opposite_below, opposite_above, opposite_neither}

-- ---- how many
brackets_few : (a : Matrix) (s : ℕ) (l : List Bracket) → brackets_of a s ≡ gave l → length l ≤ s
brackets_few a s l e =
    let most : List Bracket → Outcome (List Bracket) = λ l. unless (leb (length l) s) 12 (gave l) in
    let f = unless_given (all_finite (grid a s)) 12 (bind (found a s (grid a s) 64 0) most) e in
    let b = bind_given (found a s (grid a s) 64 0) most f.rest in
    let k = unless_given (leb (length b.value) s) 12 (gave b.value) b.rest in
    rw (← gave_same k.rest) (leb-true (length b.value) s k.test)

lows_few : (o : Outcome (List Bracket)) (s : ℕ) (l : List Float) → ((b : List Bracket) → o ≡ gave b → length b ≤ s) → low_ends o ≡ gave l → length l ≤ s
lows_few o s l f e =
    let b = bind_given o (λ b. gave (map low_of b)) e in
    let z : length l ≡ length b.value = ap length (sym (gave_same b.rest)) ∙ length-map b.value low_of in
    omega (arith, z, f b.value b.given)

pub roots_few : (m : Colleague) (room : ℕ) (l : List Float) → roots_for m room ≡ gave l → length l ≤ m.size
unfolding roots_for
roots_few m room l e =
    let last = cond (eqb m.size 0) (gave []) (low_ends (brackets_of (rows_of m) m.size)) in
    let d = unless_given (leb m.size 15 && leb m.size room) 15 (unless (entries_finite (rows_of m)) 9 last) e in
    pick (eqb m.size 0) (unless_given (entries_finite (rows_of m)) 9 last d.rest).rest
  where
    pick : (t : Bool) → cond t (gave []) (low_ends (brackets_of (rows_of m) m.size)) ≡ gave l → length l ≤ m.size
    pick true h = let z : [] ≡ l = gave_same h in rw (← z) (omega arith)
    pick false h = lows_few (brackets_of (rows_of m) m.size) m.size l (brackets_few (rows_of m) m.size) h

-- ---- r is a number other than zero whose sign is not opposite to p's: it takes p's place
both_signs : (p q : Float) → opposite p q ≡ true → ((lt p zero64 ≡ true) × (lt zero64 q ≡ true)) ⊎ ((lt zero64 p ≡ true) × (lt q zero64 ≡ true))
both_signs p q e = below (lt p zero64) refl
  where
    above : (b : Bool) → lt p zero64 ≡ false → lt zero64 p ≡ b → ((lt p zero64 ≡ true) × (lt zero64 q ≡ true)) ⊎ ((lt zero64 p ≡ true) × (lt q zero64 ≡ true))
    above true h k = inr (k, opposite_above p q h k ∙ e)
    above false h k = no (opposite_neither p q h k ∙ e)

    below : (b : Bool) → lt p zero64 ≡ b → ((lt p zero64 ≡ true) × (lt zero64 q ≡ true)) ⊎ ((lt zero64 p ≡ true) × (lt q zero64 ≡ true))
    below true h = inl (h, opposite_below p q h ∙ e)
    below false h = above (lt zero64 p) h refl

zero_number : is_nan zero64 ≡ false
unfolding is_nan of_bits
zero_number = refl

takes_place : (p q r : Float) → opposite p q ≡ true → opposite p r ≡ false → finite r ≡ true → eq r zero64 ≡ false → opposite r q ≡ true
takes_place p q r e n f z = pick (both_signs p q e) (trichotomy r zero64 (number_is r f) zero_number)
  where
    pick : ((lt p zero64 ≡ true) × (lt zero64 q ≡ true)) ⊎ ((lt zero64 p ≡ true) × (lt q zero64 ≡ true)) → (lt r zero64 ≡ true) ⊎ ((eq r zero64 ≡ true) ⊎ (lt zero64 r ≡ true)) → opposite r q ≡ true
    pick (inl (h, k)) (inl b) = sym (opposite_below r q b) ∙ k
    pick (inl (h, k)) (inr (inr c)) = no (sym n ∙ sym (opposite_below p r h) ∙ c)
    pick (inr (h, k)) (inl b) = no (sym n ∙ sym (opposite_above p r (lt_asym zero64 p h) h) ∙ b)
    pick (inr (h, k)) (inr (inr c)) = sym (opposite_above r q (lt_asym zero64 r c) c) ∙ k
    pick s (inr (inl y)) = no (sym z ∙ y)

-- ---- a root is enclosed: one point whose residual is zero, or ends whose residuals differ in sign
pub data Encloses (a : Matrix) (s : ℕ) (b : Bracket) : Type 0 where
  point : b.low ≡ b.high → eq (residual a s b.low) zero64 ≡ true → Encloses a s b
  ends : opposite (residual a s b.low) (residual a s b.high) ≡ true → Encloses a s b

-- what a halving leads to, where the halves' brackets enclose a root
module _ (a : Matrix) (s k : ℕ) (l h : Float) (b : Bracket) (o : opposite (residual a s l) (residual a s h) ≡ true)
    (half : (l h : Float) → opposite (residual a s l) (residual a s h) ≡ true → halved a s k (residual a s l) l h ≡ gave b → Encloses a s b) where
  side : (t : Bool) → opposite (residual a s l) (residual a s (middle l h)) ≡ t → finite (residual a s (middle l h)) ≡ true → eq (residual a s (middle l h)) zero64 ≡ false
      → cond t (halved a s k (residual a s l) l (middle l h)) (halved a s k (residual a s (middle l h)) (middle l h) h) ≡ gave b → Encloses a s b
  side true t f z e = half l (middle l h) t e
  side false t f z e = half (middle l h) h (takes_place (residual a s l) (residual a s h) (residual a s (middle l h)) o t f z) e

  at_middle : (t : Bool) → eq (residual a s (middle l h)) zero64 ≡ t → finite (residual a s (middle l h)) ≡ true
      → cond t (gave (bracket (middle l h) (middle l h))) (cond (opposite (residual a s l) (residual a s (middle l h))) (halved a s k (residual a s l) l (middle l h)) (halved a s k (residual a s (middle l h)) (middle l h) h)) ≡ gave b → Encloses a s b
  at_middle true z f e = rw (← gave_same e) (point refl z)
  at_middle false z f e = side (opposite (residual a s l) (residual a s (middle l h))) refl f z e

pub halved_encloses : (a : Matrix) (s k : ℕ) (l h : Float) (b : Bracket) → opposite (residual a s l) (residual a s h) ≡ true → halved a s k (residual a s l) l h ≡ gave b → Encloses a s b
unfolding halved
halved_encloses a s zero l h b o e = rw (← gave_same e) (ends o)
halved_encloses a s (suc k) l h b o e =
    let m = middle l h in
    let r = residual a s m in
    let p = residual a s l in
    let f = unless_given (finite r) 12 (cond (eq r zero64) (gave (bracket m m)) (cond (opposite p r) (halved a s k p l m) (halved a s k r m h))) e in
    at_middle a s k l h b o (λ l h. halved_encloses a s k l h b) (eq r zero64) refl f.test f.rest
