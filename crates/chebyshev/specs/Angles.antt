-- The three angle formulas that must stay apart (document 01, item 3).
use Rattle.std.specs.Prelude.{ℕ, ◌-◌, pos, Float}
use Rattle.std.specs.Float.{binary64}
use Rattle.std.specs.Float.Ieee.{of_int}
use Rattle.numbers.specs.Operations.{◌⊗◌, ◌⊘◌}
use Rattle.angles.specs.Constants.{pi}

-- a whole number as f64
abbrev pub whole : ℕ → Float
whole n = of_int binary64 (pos n)

-- nodes: j times (PI / n)
abbrev pub node_angle : ℕ → ℕ → Float
node_angle n j = whole j ⊗ (pi ⊘ whole n)

-- coefficients: (j times PI) / n
abbrev pub coefficient_angle : ℕ → ℕ → Float
coefficient_angle n j = (whole j ⊗ pi) ⊘ whole n

-- the last response samples: j times (PI / (functions - 1)); the exchange takes them
abbrev pub sample_angle : ℕ → ℕ → Float
sample_angle functions j = whole j ⊗ (pi ⊘ whole (functions - 1))
