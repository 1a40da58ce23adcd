-- The removal of zeros from the high end: up to the last that is none. Assumes nothing.
use Prim.Native.Nat.{ℕ, zero, suc, ◌+◌, ◌<◌, ◌≤◌}
use mathlib.Core.Path.{◌≡◌, refl}
use mathlib.Core.Bool.{Bool, true, false, cond}
use mathlib.Core.List.{List}
use native.Mathlib.Omega.{arith}
use borrow.Author.Tests.{not-true, not-false, eqb-true, eqb-false}
use lib.Dec.{eqb}
use lib.ListN.{get_or}
use lib.Ieee.{Float, nan, eq, ne}
use Rattle.numbers.specs.Floats.{zero64}
use Rattle.colleague.specs.Built.{without_zeros}

is_zero : (x : Float) → ne x zero64 ≡ false → eq x zero64 ≡ true
unfolding ne
is_zero x h = not-false (eq x zero64) h

no_zero : (x : Float) → ne x zero64 ≡ true → eq x zero64 ≡ false
unfolding ne
no_zero x h = not-true (eq x zero64) h

pub zeros_all : (c : List Float) (n : ℕ) → ((k : ℕ) → k < n → ne (get_or c k nan) zero64 ≡ false) → 0 ≡ without_zeros c n
unfolding without_zeros
zeros_all c zero f = refl
zeros_all c (suc n) f = rw (is_zero (get_or c n nan) (f n (omega arith))) (zeros_all c n (λ k h. f k (omega arith)))

pub zeros_last : (c : List Float) (n i : ℕ) → i < n → ne (get_or c i nan) zero64 ≡ true → ((k : ℕ) → i < k → k < n → ne (get_or c k nan) zero64 ≡ false) → i + 1 ≡ without_zeros c n
unfolding without_zeros
zeros_last c zero i h e f = absurd (omega arith)
zeros_last c (suc n) i h e f = pick (eqb i n) refl (λ l. zeros_last c n i l e (λ k a b. f k a (omega arith)))
  where
    pick : (t : Bool) → eqb i n ≡ t → (i < n → i + 1 ≡ without_zeros c n) → i + 1 ≡ cond (eq (get_or c n nan) zero64) (without_zeros c n) (suc n)
    pick true p q = let z : i ≡ n = eqb-true i n p in rw (no_zero (get_or c n nan) (rw z at e)) (omega arith)
    pick false p q =
        let o = eqb-false i n p in
        rw (is_zero (get_or c n nan) (f n (omega (arith, o)) (omega arith))) (q (omega (arith, o)))

-- no more than there were
pub zeros_within : (c : List Float) (n : ℕ) → without_zeros c n ≤ n
unfolding without_zeros
zeros_within c zero = omega arith
zeros_within c (suc n) = pick (eq (get_or c n nan) zero64) (without_zeros c n) (zeros_within c n)
  where
    pick : (t : Bool) (m : ℕ) → m ≤ n → cond t m (suc n) ≤ suc n
    pick true m h = omega arith
    pick false m h = omega arith
