-- The grid, laid eight numbers at a time. Assumes nothing.
use Prim.Native.Nat.{ℕ, ◌+◌, ◌-◌, ◌*◌, ◌<◌, ◌≤◌}
use mathlib.Core.Path.{◌≡◌, ap, ◌∙◌}
use mathlib.Core.List.{List, ◌++◌}
use native.Mathlib.Omega.{arith}
use native.Mathlib.Nat.{zero-add}
use native.Mathlib.Decide.{dec_lt}
use lib.ListN.{get_or, length, set, take, length-set, get_or-append}
use lib.Seq.{get_or-set_other, get_or-set_same, length-take-le}
use Rattle.std.proofs.lemmas.List.{get_or-take, get_or-append_right}
use Rattle.numbers.proofs.LoopLaws.{length-tab}
use lib.Ieee.{Float, nan}
use Rattle.numbers.specs.Loops.{tab}
use Rattle.numbers.proofs.Lanes.{tab-same, tab-get, tab-own}
use Rattle.colleague.specs.Matrix.{Matrix}
use Rattle.roots.specs.Residual.{residual}
use Rattle.roots.specs.Brackets.{cell_end, grid}

-- the first m entries of 65 are f's
pub record Laid (f : ℕ → Float) (m : ℕ) (g : List Float) : Type 0 where
  pub long : length g ≡ 65
  pub same : (j : ℕ) → j < m → get_or g j nan ≡ f j

pub laid_start : {f : ℕ → Float} {g : List Float} → length g ≡ 65 → Laid f (8 * 0) g
laid_start h = record { long = h; same = λ j p. absurd (none j p) }
  where
    none : (j : ℕ) → j < 8 * 0 → ⊥
    none j p = omega arith

laid_one : (f : ℕ → Float) (m : ℕ) (g : List Float) (v : Float) → m < 65 → v ≡ f m → Laid f m g → Laid f (m + 1) (set g m v)
laid_one f m g v h e l = record { long = simp length-set l.long; same = λ j p. pick j p (dec_lt j m) }
  where
    other : {j : ℕ} → j < m → j ≡ m → ⊥
    other q e = omega arith

    pick : (j : ℕ) → j < m + 1 → Dec (j < m) → get_or (set g m v) j nan ≡ f j
    pick j p (yes q) = get_or-set_other g m j v nan (other q) ∙ l.same j q
    pick j p (no q) =
        let z : j ≡ m = omega arith in
        let w : m < length g = omega (arith, l.long) in
        rw z (get_or-set_same g m v nan w ∙ e)

module _ (a : Matrix) (s i : ℕ) (g : List Float) (l : Laid (λ j. residual a s (cell_end j)) (8 * i) g) where
  -- eight more, with anything behind them
  pub laid_eight : (n p : List Float) → length (take (8 * i) g ++ (n ++ p)) ≡ 65 → i < 8 → n ≡ tab (λ k. residual a s (cell_end (8 * i + k))) 8 0
      → Laid (λ j. residual a s (cell_end j)) (8 * (i + 1)) (take (8 * i) g ++ (n ++ p))
  laid_eight n p h b e = record { long = h; same = λ j q. pick j q (dec_lt j (8 * i)) }
    where
      front : length (take (8 * i) g) ≡ 8 * i
      front = length-take-le (8 * i) g (omega (arith, l.long))

      eight : length n ≡ 8
      eight = ap length e ∙ length-tab _ _ _

      pick : (j : ℕ) → j < 8 * (i + 1) → Dec (j < 8 * i) → get_or (take (8 * i) g ++ (n ++ p)) j nan ≡ residual a s (cell_end j)
      pick j q (yes k) = get_or-append (take (8 * i) g) (n ++ p) nan j (omega (arith, front)) ∙ get_or-take (8 * i) g j nan k ∙ l.same j k
      pick j q (no k) =
          let t : j - 8 * i < 8 = omega arith in
          let z : 8 * i + (j - 8 * i) ≡ j = omega arith in
          get_or-append_right (take (8 * i) g) (n ++ p) (8 * i) j nan front (omega arith)
          ∙ get_or-append n p nan (j - 8 * i) (omega (arith, eight))
          ∙ ap (λ m. get_or m (j - 8 * i) nan) e
          ∙ tab-get (λ k. residual a s (cell_end (8 * i + k))) 8 (j - 8 * i) nan t
          ∙ ap (λ m. residual a s (cell_end m)) z

  pub laid_end : (r : Float) → 8 ≤ i → i ≤ 8 → r ≡ residual a s (cell_end 64) → set g 64 r ≡ grid a s
  laid_end r h o e =
      let z : 8 * i ≡ 64 = omega arith in
      let f : ℕ → Float = λ j. residual a s (cell_end j) in
      let m : Laid f (64 + 1) (set g 64 r) = laid_one f 64 g r (omega arith) e (rw z at l) in
      tab-own (set g 64 r) nan 65 m.long ∙ tab-same (λ k. get_or (set g 64 r) k nan) f 65 0 (λ k p q. m.same k (rw zero-add at q))
