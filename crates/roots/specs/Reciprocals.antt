-- Dividing by the entries right of the diagonal, worked out as multiplying by their reciprocals, where these are exact.
use Rattle.std.specs.Prelude.{ℕ, ◌+◌, ◌-◌, ◌<◌, ◌≡◌, List, get_or, Float}
use Rattle.std.specs.Float.{nan}
use Rattle.numbers.specs.Operations.{◌⊗◌, ◌⊘◌}
use Rattle.colleague.specs.Matrix.{Matrix, at}

-- multiplying by r is dividing by x, whatever is divided
pub record Reciprocal (x r : Float) : Type 0 where
  pub same : (y : Float) → y ⊘ x ≡ y ⊗ r

-- of a(j,j+1), for j below s - 1
pub record Reciprocals (a : Matrix) (s : ℕ) (inverse : List Float) : Type 0 where
  pub each : (j : ℕ) → j < s - 1 → Reciprocal (at a j (j + 1)) (get_or inverse j nan)
