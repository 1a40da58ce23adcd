-- The roots of a matrix of at most 15 rows are refused with 9 or 12 alone: what holds of these numbers holds of every refusal.
-- Assumes nothing.
use Prim.Native.Nat.{ℕ, zero, suc, ◌+◌, ◌≤◌}
use mathlib.Core.Bool.{Bool, true, false, cond}
use mathlib.Core.List.{List, [], ◌∷◌, ◌++◌, map}
use borrow.Author.Tests.{le-leb}
use lib.Dec.{leb, eqb}
use lib.ListN.{length, get_or}
use lib.Ieee.{Float, nan, eq}
use lib.Ieee.Scale.{finite}
use Rattle.numbers.specs.Floats.{zero64, all_finite}
use Rattle.numbers.specs.Outcome.{Outcome, gave, bind, unless}
use Rattle.numbers.proofs.Refusing.{Refuses, refuses_gave, refuses_unless, refuses_bind}
use Rattle.colleague.specs.declared.Colleague.{Colleague}
use Rattle.colleague.specs.Matrix.{Matrix, entries_finite}
use Rattle.roots.specs.declared.brackets.Bracket.{Bracket}
use Rattle.roots.specs.Residual.{residual}
use Rattle.roots.specs.Brackets.{cell_end, grid, opposite, bracket, middle, halved, cell, found, low_of, low_ends}
use Rattle.roots.specs.Answer.{rows_of, brackets_of, roots_for}

module _ {P : ℕ → Type 0} (twelve : P 12) where
  halved_refuses : (a : Matrix) (s k : ℕ) (p l h : Float) → Refuses P (halved a s k p l h)
  unfolding halved
  halved_refuses a s zero p l h = refuses_gave (bracket l h)
  halved_refuses a s (suc k) p l h =
      let m = middle l h in
      let r = residual a s m in
      refuses_unless (finite r) 12 (cond (eq r zero64) (gave (bracket m m)) (cond (opposite p r) (halved a s k p l m) (halved a s k r m h)))
      (λ t. twelve) (λ t. pick (eq r zero64) (opposite p r) (halved_refuses a s k p l m) (halved_refuses a s k r m h))
    where
      pick : (t u : Bool) → Refuses P (halved a s k p l (middle l h)) → Refuses P (halved a s k (residual a s (middle l h)) (middle l h) h)
          → Refuses P (cond t (gave (bracket (middle l h) (middle l h))) (cond u (halved a s k p l (middle l h)) (halved a s k (residual a s (middle l h)) (middle l h) h)))
      pick true u q r = refuses_gave (bracket (middle l h) (middle l h))
      pick false true q r = q
      pick false false q r = r

  cell_refuses : (a : Matrix) (s : ℕ) (p q : Float) (j : ℕ) → Refuses P (cell a s p q j)
  cell_refuses a s p q j = pick (eq p zero64) (opposite p q)
    where
      pick : (t u : Bool)
          → Refuses P
          (cond t (gave (bracket (cell_end j) (cell_end j) ∷ []))
          (cond u (bind (halved a s 40 p (cell_end j) (cell_end (j + 1))) (λ b. gave (b ∷ []))) (gave [])))
      pick true u = refuses_gave (bracket (cell_end j) (cell_end j) ∷ [])
      pick false true =
          refuses_bind (halved a s 40 p (cell_end j) (cell_end (j + 1))) (λ b. gave (b ∷ [])) (halved_refuses a s 40 p (cell_end j) (cell_end (j + 1)))
          (λ b e. refuses_gave (b ∷ []))
      pick false false = refuses_gave []

  found_refuses : (a : Matrix) (s : ℕ) (g : List Float) (n j : ℕ) → Refuses P (found a s g n j)
  unfolding found
  found_refuses a s g zero j = refuses_gave (cond (eq (get_or g j nan) zero64) (bracket (cell_end j) (cell_end j) ∷ []) [])
  found_refuses a s g (suc n) j =
      refuses_bind (cell a s (get_or g j nan) (get_or g (j + 1) nan) j) (λ c. bind (found a s g n (j + 1)) (λ l. gave (c ++ l)))
      (cell_refuses a s (get_or g j nan) (get_or g (j + 1) nan) j)
      (λ c e. refuses_bind (found a s g n (j + 1)) (λ l. gave (c ++ l)) (found_refuses a s g n (j + 1)) (λ l f. refuses_gave (c ++ l)))

  brackets_refuse : (a : Matrix) (s : ℕ) → Refuses P (brackets_of a s)
  brackets_refuse a s =
      let most : List Bracket → Outcome (List Bracket) = λ l. unless (leb (length l) s) 12 (gave l) in
      refuses_unless (all_finite (grid a s)) 12 (bind (found a s (grid a s) 64 0) most) (λ t. twelve)
      (λ t. refuses_bind (found a s (grid a s) 64 0) most (found_refuses a s (grid a s) 64 0)
      (λ l e. refuses_unless (leb (length l) s) 12 (gave l) (λ t. twelve) (λ t. refuses_gave l)))

  pub roots_refuse : P 9 → (m : Colleague) (room : ℕ) → m.size ≤ 15 → m.size ≤ room → Refuses P (roots_for m room)
  unfolding roots_for
  roots_refuse nine m room h k =
      let last = cond (eqb m.size 0) (gave []) (low_ends (brackets_of (rows_of m) m.size)) in
      rw (le-leb m.size 15 h, le-leb m.size room k)
      (refuses_unless (entries_finite (rows_of m)) 9 last (λ t. nine) (λ t. pick (eqb m.size 0)))
    where
      pick : (t : Bool) → Refuses P (cond t (gave []) (low_ends (brackets_of (rows_of m) m.size)))
      pick true = refuses_gave []
      pick false =
          refuses_bind (brackets_of (rows_of m) m.size) (λ l. gave (map low_of l)) (brackets_refuse (rows_of m) m.size)
          (λ l e. refuses_gave (map low_of l))
