use Prim.Native.Nat.{◌*◌, ◌≤◌}
use mathlib.Core.Path.{◌≡◌}
use lib.ListN.{length}
use Rattle.roots.specs.Residual.{residual}
use Rattle.roots.specs.Brackets.{cell_end}
use Rattle.roots.proofs.EightLaws.{Laid}
use Rattle.roots.proofs.residual.Square.residuals_by_eights.Given as goal

abbrev pub invariant-loop-i : goal.invariant-loop-i
invariant-loop-i l = (length l.g ≡ 65) × (l.i ≤ 8) × Laid (λ j. residual l.self.rows.now l.self.size (cell_end j)) (8 * l.i) l.g
