-- Numbers and the 64-bit words that hold their bits. Total: a NaN's word stands for 0.0, and a NaN is written as 0.
use Rattle.std.specs.Prelude.{ℕ, cond, Float}
use Rattle.std.specs.Float.{binary64}
use Rattle.std.specs.Float.Ieee.{of_bits, to_bits, nan_bits, is_nan}

unfoldable pub of_word : ℕ → Float
of_word w = cond (nan_bits binary64 w) (of_bits binary64 0) (of_bits binary64 w)

unfoldable pub to_word : Float → ℕ
to_word x = cond (is_nan x) 0 (to_bits binary64 x)
