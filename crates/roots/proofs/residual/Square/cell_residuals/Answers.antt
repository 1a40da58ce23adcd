-- `roots::residual::Square::cell_residuals` meets its contract. Assumes nothing.
use Prim.Native.Nat.{◌+◌}
use mathlib.Core.Path.{◌∙◌}
use native.Mathlib.Nat.{zero-add}
use Rattle.numbers.proofs.Lanes.{tab-same}
use Rattle.roots.specs.Residual.{residual}
use Rattle.roots.specs.Brackets.{cell_end}
use Rattle.roots.proofs.RowLaws.{at_places}
use Rattle.roots.proofs.residual.Square.cell_residuals.Goals as goal

pub returns-in-None : goal.returns-in-None
returns-in-None c =
    let m = c.args.self in
    c.residuals.ensures ∙ at_places m.rows.now m.size 65 (λ k. cell_end (0 + k)) _ c.cell_ends.ensures
    ∙ tab-same (λ k. residual m.rows.now m.size (cell_end (0 + k))) (λ k. residual m.rows.now m.size (cell_end k)) 65 0 (λ k a b. rw zero-add)
