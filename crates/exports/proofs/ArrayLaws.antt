-- An array that a function of the place made. Assumes nothing.
use Prim.Native.Nat.{ℕ, zero, suc, ◌+◌}
use mathlib.Core.Path.{◌≡◌, refl}
use mathlib.Core.List.{List}
use native.Mathlib.Omega.{arith}
use lib.ListN.{length, drop, drop_of_length-le}
use lib.Seq.{drop-cons}
use native.Mathlib.Numerals.{add-one}
use native.Mathlib.Nat.{zero-add}
use Rattle.std.specs.Fn.{Mut, Called}
use Rattle.std.specs.Array.{IsFromFnResult, IsFromFnResultFrom}
use Rattle.numbers.specs.Loops.{tab}

module _ {F B : Type 0} (g : Mut F (ℕ × Unit {0}) B) (f : F) (h : ℕ → B) (same : (q : F) (i : ℕ) (y : B) → Called g f (i, tt) y q → (q ≡ f) × (y ≡ h i)) where
  made_from : (ys : List B) (n i : ℕ) (p : F) → p ≡ f → length ys ≡ i + n → IsFromFnResultFrom g p ys i n → drop i ys ≡ tab h n i
  unfolding tab
  made_from ys zero i p e l r = drop_of_length-le ys (omega arith)
  made_from ys (suc n) i p e l r =
      let k : (r.0 ≡ f) × (r.1 ≡ h i) = same r.0 i r.1 (rw e at r.3) in
      rw (drop-cons ys i r.1 (omega arith), r.2.1 r.1, k.1) (rw (← add-one) (rw (made_from ys n (i + 1) r.0 k.0 (omega arith) r.4)))

  pub made_by : (ys : List B) (n : ℕ) → IsFromFnResult g f ys n → ys ≡ tab h n 0
  made_by ys n r = made_from ys n 0 f refl (rw zero-add r.long) r.each
