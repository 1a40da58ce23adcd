-- `roots::residual::Square::residuals` meets its contract. Assumes nothing.
use Prim.Native.Nat.{◌+◌}
use mathlib.Core.Path.{refl, ◌∙◌}
use Rattle.std.proofs.lemmas.List.{length-replicate}
use Rattle.numbers.specs.Operations.{◌⊘◌}
use Rattle.colleague.specs.Matrix.{at}
use lib.ListN.{length-set}
use Rattle.numbers.proofs.LoopLaws.{next, end}
use Rattle.roots.specs.Rows.{turns}
use Rattle.roots.proofs.RowLaws.{fill_all, row_of, rows_end}
use Rattle.roots.proofs.residual.Square.residuals.Goals as goal

pub loop-k-init : goal.loop-k-init
loop-k-init g c = (length-replicate _ _, fill_all _ _ _ (length-replicate _ _))

pub loop-k-preserved : goal.loop-k-preserved
loop-k-preserved g c = (simp length-set c.loop-k.invariant.0, next c.loop-k.invariant.1 c.loop-k-test.true refl)

pub loop-j-preserved : goal.loop-j-preserved
loop-j-preserved g c =
    let r = c.turn_row in
    let l = c.loop-j in
    let a = c.args.self.rows.now in (
      r.ensures.lengths.0,
      r.ensures.lengths.1,
      next l.invariant.2 c.loop-j-test.true
          (r.ensures.turned (λ y. y ⊘ at a l.j (l.j + 1)) (λ y s e. c.requires.divides l.j y s c.loop-j-test.true e)
          ∙ row_of a l.j g.row.N c.args.x.now (turns l.n l.v)),
    )

pub returns : goal.returns
returns g c =
    let l = c.loop-j in
    rows_end _ _ g.row.N c.args.x.now l.n l.v c.loop-k.n _ l.invariant.0 l.invariant.1 c.loop-k.invariant.0 (length-replicate _ _)
    (end c.loop-k.invariant.1 c.loop-k-test.false) refl (end l.invariant.2 c.loop-j-test.false)
