-- A square matrix and its entries row by row. Assumes nothing.
use Prim.Native.Nat.{ℕ, zero, suc, ◌*◌, ◌/◌, ◌%◌, ◌<◌, ◌≤◌}
use native.Mathlib.Omega.{arith}
use native.Mathlib.Nat.{mul-le-mul, div-lt_iff_lt-mul, mod-lt}

-- a matrix that has an entry has a row
pub some_row : (k s : ℕ) → k < s * s → 0 < s
some_row k zero h = absurd (omega arith)
some_row k (suc s) h = omega arith

-- a product of bounded numbers
pub product_most : (a b n m : ℕ) → a ≤ n → b ≤ m → a * b ≤ n * m
product_most a b n m h k = mul-le-mul h k

-- entry k of at most 15 rows of 15 stands in such a row and column
pub row_below : (k s : ℕ) → s ≤ 15 → k < s * s → k / s < 15
row_below k s h l = let r : k / s < s = (div-lt_iff_lt-mul (some_row k s l)).1 l in omega (arith, h, r)

pub column_below : (k s : ℕ) → s ≤ 15 → k < s * s → k % s < 15
column_below k s h l = let r : k % s < s = mod-lt k (some_row k s l) in omega (arith, h, r)
