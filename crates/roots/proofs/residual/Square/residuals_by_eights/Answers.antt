-- `roots::residual::Square::residuals_by_eights` meets its contract. Assumes nothing.
use mathlib.Core.Path.{◌≡◌, ap, ◌∙◌}
use Prim.Native.Nat.{◌+◌, ◌*◌, ◌-◌}
use native.Mathlib.Omega.{arith}
use borrow.Rule.Slice.PartMut.{put_mid, same_len_mid}
use lib.ListN.{length}
use Rattle.roots.specs.Residual.{residual}
use Rattle.roots.proofs.EightLaws.{laid_eight, laid_end}
use Rattle.roots.proofs.RowLaws.{at_places}
use Rattle.roots.proofs.residual.Square.residuals_by_eights.Goals as goal

pub loop-i-preserved : goal.loop-i-preserved
loop-i-preserved c =
    let l = c.loop-i in
    let long : length (put_mid (8 * l.i) (8 * l.i + 8 - 8 * l.i) l.g c.copy_from_slice.new.self) ≡ 65 =
    same_len_mid _ _ _ _ c.copy_from_slice.ensures.len ∙ l.invariant.0 in
    (long, omega (arith, c.loop-i-test.true), laid_eight _ _ l.i l.g l.invariant.2 _ _ long c.loop-i-test.true (c.copy_from_slice.ensures.after ∙ c.residuals-n.ensures ∙ at_places _ _ _ _ _ c.cell_ends.ensures))

pub returns : goal.returns
returns c =
    let l = c.loop-i in
    laid_end _ _ l.i l.g l.invariant.2 _ c.loop-i-test.false l.invariant.1 (c.residual.ensures ∙ ap (residual c.args.self.rows.now c.args.self.size) c.cell_end.ensures)
