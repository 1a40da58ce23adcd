-- The laws of balancing: the two scaling loops, a pass and the passes. Assumes nothing.
use Rattle.std.specs.Prelude.{Option, Some, None, unwrap_or}
use Prim.Native.Nat.{ℕ, zero, suc, ◌+◌, ◌-◌, ◌<◌, ◌≤◌}
use mathlib.Core.Path.{◌≡◌, refl, ap, sym, ◌∙◌}
use mathlib.Core.Bool.{Bool, true, false, cond, not, ◌&&◌}
use native.Mathlib.Numerals.{add-one}
use native.Mathlib.Omega.{arith}
use lib.Ieee.{Float, le, lt}
use Rattle.numbers.specs.Floats.{normal}
use Rattle.numbers.specs.Operations.{◌⊗◌, ◌⊘◌}
use Rattle.numbers.specs.Outcome.{Outcome, refused, gave}
use Rattle.colleague.specs.declared.balance.Scale.{Scale}
use Rattle.colleague.specs.Matrix.{Matrix}
use Rattle.colleague.specs.Balance.{step_on, steps, two, four, raised, lowered, step_of, stepped, Pass, pass_by, pass_from, pass_of, moved_in, Balanced, balanced_from}

-- ---- the two scaling loops are steps
abbrev pub raise_at : Float → Scale → Option Scale
raise_at h s = cond (normal s.column && le s.column h) (Some (record { factor = s.factor ⊗ two; column = s.column ⊗ four })) None

abbrev pub lower_at : Float → Scale → Option Scale
lower_at h s = cond (normal s.column && lt h s.column) (Some (record { factor = s.factor ⊘ two; column = s.column ⊘ four })) None

on_cond : (b : Bool) (s t : Scale) (f g : Scale → Scale) → f t ≡ g t → step_on (cond b (Some t) None) s f ≡ cond b (g t) s
on_cond true s t f g e = e
on_cond false s t f g e = refl

pub steps-raised : (h : Float) (k : ℕ) (s : Scale) → steps (raise_at h) k s ≡ raised k h s
unfolding steps raised
steps-raised h zero s = refl
steps-raised h (suc k) s =
    let t : Scale = record { factor = s.factor ⊗ two; column = s.column ⊗ four } in
    on_cond (normal s.column && le s.column h) s t (steps (raise_at h) k) (raised k h) (steps-raised h k t)

pub steps-lowered : (h : Float) (k : ℕ) (s : Scale) → steps (lower_at h) k s ≡ lowered k h s
unfolding steps lowered
steps-lowered h zero s = refl
steps-lowered h (suc k) s =
    let t : Scale = record { factor = s.factor ⊘ two; column = s.column ⊘ four } in
    on_cond (normal s.column && lt h s.column) s t (steps (lower_at h) k) (lowered k h) (steps-lowered h k t)

-- ---- the steps as a loop: k of n are made
module _ (next : Scale → Option Scale) (n k : ℕ) (s r : Scale) (g : steps next (n - k) s ≡ r) where
  pub steps_more : {t : Scale} → k < n → Some t ≡ next s → steps next (n - (k + 1)) t ≡ r
  unfolding steps
  steps_more {t} h e = let z : n - k ≡ suc (n - (k + 1)) = omega arith in rw (z, ← e) at g

  pub steps_end : k < n → None ≡ next s → s ≡ r
  unfolding steps
  steps_end h e = let z : n - k ≡ suc (n - (k + 1)) = omega arith in rw (z, ← e) at g

  pub steps_none : n ≤ k → s ≡ r
  unfolding steps
  steps_none h = let z : n - k ≡ 0 = omega arith in rw z at g

-- ---- a pass, row by row
module _ (n j : ℕ) (a : Matrix) (m : Bool) (r : Pass) (some : j < n) where
  pass_is : pass_from (n - j) n j a m ≡ pass_by (step_of a n j) m (stepped a n j) (pass_from (n - (j + 1)) n (j + 1) (stepped a n j))
  unfolding pass_from
  pass_is =
      let e : n - j ≡ suc (n - (j + 1)) = omega arith in
      ap (λ k. pass_from k n j a m) e
      ∙ ap (λ i. pass_by (step_of a n j) m (stepped a n j) (pass_from (n - (j + 1)) n i (stepped a n j))) (sym (add-one j))

  -- the step t was taken, and left b
  pub pass_by_fact : (t : Option Bool) (b : Matrix) → t ≡ step_of a n j → b ≡ stepped a n j → pass_from (n - j) n j a m ≡ r
      → pass_by t m b (pass_from (n - (j + 1)) n (j + 1) b) ≡ r
  pass_by_fact t b e f g =
      ap (λ z. pass_by z m b (pass_from (n - (j + 1)) n (j + 1) b)) e
      ∙ ap (λ z. pass_by (step_of a n j) m z (pass_from (n - (j + 1)) n (j + 1) z)) f
      ∙ sym pass_is
      ∙ g

pub pass_end : (n j : ℕ) (a : Matrix) (m : Bool) (r : Pass) → n ≤ j → pass_from (n - j) n j a m ≡ r → r ≡ record { matrix = a; moved = m; stopped = false }
unfolding pass_from
pass_end n j a m r h g = let e : n - j ≡ 0 = omega arith in sym (rw e at g)

-- ---- the passes
module _ (k made n : ℕ) (a : Matrix) (r : Outcome Balanced) (p : Pass) (is : pass_of a n ≡ p) (some : made < k) (g : balanced_from (k - made) made n a ≡ r) where
  from_is : balanced_from (k - made) made n a ≡ cond (p.moved && not p.stopped) (balanced_from (k - (made + 1)) (made + 1) n p.matrix) (gave (record { matrix = p.matrix; passes = made + 1 }))
  unfolding balanced_from
  from_is = let e : k - made ≡ suc (k - (made + 1)) = omega arith in ap (λ i. balanced_from i made n a) e ∙ rw (is, add-one made)

  goes : (m t : Bool) → unwrap_or (cond t None (Some m)) false ≡ (m && not t)
  goes true true = refl
  goes true false = refl
  goes false true = refl
  goes false false = refl

  pub from_more : unwrap_or (moved_in p) false ≡ true → balanced_from (k - (made + 1)) (made + 1) n p.matrix ≡ r
  from_more t = rw (from_is, sym (goes p.moved p.stopped) ∙ t) at g

  pub from_last : unwrap_or (moved_in p) false ≡ false → gave (record { matrix = p.matrix; passes = made + 1 }) ≡ r
  from_last t = rw (from_is, sym (goes p.moved p.stopped) ∙ t) at g

pub from_none : (k made n : ℕ) (a : Matrix) (r : Outcome Balanced) → k ≤ made → balanced_from (k - made) made n a ≡ r → refused 11 ≡ r
unfolding balanced_from
from_none k made n a r h g = let e : k - made ≡ 0 = omega arith in rw e at g
