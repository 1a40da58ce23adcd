-- A list of taps has as many as were asked for, and a tap of the left side is what the types have in common. Assumes nothing.
use Prim.Native.Nat.{ℕ, zero, suc, ◌+◌, ◌-◌, ◌<◌, ◌≤◌}
use mathlib.Core.Path.{◌≡◌, refl}
use mathlib.Core.List.{List, append-nil}
use native.Mathlib.Omega.{arith}
use native.Mathlib.Nat.{sub-zero}
use borrow.Author.Tests.{le-ltb, ne_eqb}
use lib.ListN.{length, drop_of_length-le}
use lib.Ieee.{Float}
use Rattle.numbers.specs.Operations.{◌⊖◌}
use Rattle.numbers.proofs.LoopLaws.{Going, put, fill_start, length-tab}
use Rattle.bands.specs.declared.Symmetry.{Symmetry}
use Rattle.fir_types.specs.Taps.{tap_at, taps_of, even_taps_side, odd_odd_side, joined_side}

-- ---- as many taps as were asked for
pub length_taps : (s : Symmetry) (taps : ℕ) (a : List Float) → length (taps_of s taps a) ≡ taps
unfolding taps_of
length_taps s taps a = length-tab (tap_at s taps a) taps 0

-- a loop that writes them over a whole list
pub taps_start : (s : Symmetry) (a o : List Float) → Going (put (tap_at s (length o) a)) (length o) 0 o (taps_of s (length o) a)
unfolding taps_of
taps_start s a o =
    let h : length o ≤ length o = omega arith in
    rw (drop_of_length-le o {i = length o} h, append-nil) at (fill_start (tap_at s (length o) a) (length o) o h)

-- ---- a tap of the left side, by what the types have in common
pub joined_even_taps : (by : Float → Float → Float) (a : List Float) (j : ℕ) → j < length a → joined_side by 1 a j ≡ even_taps_side by a j
joined_even_taps by a zero h = rw sub-zero
joined_even_taps by a (suc j) h =
    let z : length a - 1 - suc j + 1 ≡ length a - suc j = omega arith in
    let l : 1 ≤ suc j = omega arith in
    let e : suc j ≡ 0 → ⊥ = λ (e : suc j ≡ 0). omega arith in
    rw (le-ltb (suc j) 1 l, ne_eqb (suc j) 0 e, z)

pub joined_odd_odd : (a : List Float) (j : ℕ) → j < length a → joined_side (λ x y. x ⊖ y) 2 a j ≡ odd_odd_side a j
joined_odd_odd a zero h = refl
joined_odd_odd a (suc zero) h = refl
joined_odd_odd a (suc (suc j)) h =
    let z : length a - 1 - suc (suc j) + 2 ≡ length a + 1 - suc (suc j) = omega arith in
    let l : 2 ≤ suc (suc j) = omega arith in
    rw (le-ltb (suc (suc j)) 2 l, z)
