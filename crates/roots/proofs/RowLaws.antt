-- The laws of rows: a list filled whole, and the residuals side by side, each of them its own recurrence. Assumes nothing.
use Prim.Native.Nat.{ℕ, ◌+◌, ◌-◌, ◌<◌, ◌≤◌}
use mathlib.Core.Path.{◌≡◌, refl, sym, ap, ◌∙◌}
use mathlib.Core.List.{List, append-nil}
use native.Mathlib.Omega.{arith}
use native.Mathlib.Nat.{zero-add}
use lib.ListN.{length, get_or, replicate, drop_of_length-le, get_or-replicate}
use lib.Ieee.{Float, nan}
use Rattle.numbers.specs.Floats.{one64}
use Rattle.numbers.specs.Loops.{run, tab}
use Rattle.numbers.specs.Operations.{◌⊖◌, ◌⊘◌}
use Rattle.numbers.proofs.LoopLaws.{Going, put, fill_start}
use Rattle.numbers.proofs.Lanes.{tab-same, tab-get, tab-own, row, lanes}
use Rattle.numbers.proofs.InPlace.{zip_length, zip_get}
use Rattle.colleague.specs.Matrix.{Matrix, at}
use Rattle.roots.specs.declared.residual.Turn.{Turn}
use Rattle.roots.specs.Residual.{first, turn, residual}
use Rattle.roots.specs.Rows.{both, turns, no_turn, turned}

pub fill_all : {A : Type 0} (g : ℕ → A) (n : ℕ) (o : List A) → length o ≡ n → Going (put g) n 0 o (tab g n 0)
fill_all g n o h =
    let a : n ≤ length o = omega arith in
    let b : length o ≤ n = omega arith in
    rw (drop_of_length-le o {i = n} b, append-nil) at (fill_start g n o a)

-- a turn of every place, with the matrix's entries
pub row_of : (a : Matrix) (j m : ℕ) (x : List Float) (ts : List Turn)
    → turned j (λ y. y ⊘ at a j (j + 1)) (at a (j + 1) 0) (at a (j + 1) j) m x ts ≡ row (λ k. turn a (get_or x k nan)) m no_turn j ts
row_of a j m x ts = refl

-- ---- m places x, whose numbers n and v after the last turn came from n' and v'
module _ (a : Matrix) (s m : ℕ) (x n v n' v' : List Float) (ln : length n ≡ m) (lv : length v ≡ m) (ln' : length n' ≡ m) (lv' : length v' ≡ m) where
  abbrev pub lane : ℕ → ℕ → Turn → Turn
  lane k = turn a (get_or x k nan)

  module _ (e : n' ≡ tab (λ k. get_or x k nan ⊖ at a 0 0) m 0) (f : v' ≡ replicate m one64) (r : turns n v ≡ run (row lane m no_turn) (s - 1) 0 (turns n' v')) where
    came : (k : ℕ) → k < m → get_or (turns n' v') k no_turn ≡ first a (get_or x k nan)
    came k h =
        let p : k < length n' = omega arith in
        let q : k < length v' = omega arith in
        let c : get_or n' k nan ≡ get_or x k nan ⊖ at a 0 0 = ap (λ z. get_or z k nan) e ∙ tab-get (λ k. get_or x k nan ⊖ at a 0 0) m k nan h in
        let d : get_or v' k nan ≡ one64 = ap (λ z. get_or z k nan) f ∙ get_or-replicate m k one64 nan h in
        zip_get both n' v' k nan nan no_turn p q ∙ (λ i. both (c i) (d i))

    each : (k : ℕ) → k < m → get_or n k nan ≡ residual a s (get_or x k nan)
    unfolding residual
    each k h =
        let p : k < length n = omega arith in
        let q : k < length v = omega arith in
        let l : length n' ≡ length v' = ln' ∙ sym lv' in
        let t : get_or (turns n v) k no_turn ≡ run (lane k) (s - 1) 0 (first a (get_or x k nan)) =
        ap (λ z. get_or z k no_turn) (r ∙ lanes lane m no_turn (s - 1) 0 (turns n' v') (zip_length both n' v' l ∙ ln'))
        ∙ tab-get (λ k. run (lane k) (s - 1) 0 (get_or (turns n' v') k no_turn)) m k no_turn h
        ∙ ap (run (lane k) (s - 1) 0) (came k h) in
        ap (λ (z : Turn). z.n) (sym (zip_get both n v k nan nan no_turn p q) ∙ t)

    pub rows_end : n ≡ tab (λ k. residual a s (get_or x k nan)) m 0
    rows_end =
        tab-own n nan m ln
        ∙ tab-same (λ k. get_or n k nan) (λ k. residual a s (get_or x k nan)) m 0 (λ k p q. each k (rw zero-add at q))

-- the residuals at places that a list holds are those at the places
pub at_places : (a : Matrix) (s m : ℕ) (g : ℕ → Float) (x : List Float) → x ≡ tab g m 0 → tab (λ k. residual a s (get_or x k nan)) m 0 ≡ tab (λ k. residual a s (g k)) m 0
at_places a s m g x e =
    tab-same (λ k. residual a s (get_or x k nan)) (λ k. residual a s (g k)) m 0
    (λ k p q. ap (residual a s) (ap (λ z. get_or z k nan) e ∙ tab-get g m k nan (rw zero-add at q)))
