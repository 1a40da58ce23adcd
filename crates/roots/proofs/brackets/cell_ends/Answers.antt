-- `roots::brackets::cell_ends` meets its contract. Assumes nothing.
use lib.ListN.{length-set}
use Rattle.std.proofs.lemmas.List.{length-replicate}
use Rattle.numbers.proofs.LoopLaws.{next, end}
use Rattle.roots.proofs.RowLaws.{fill_all}
use Rattle.roots.proofs.brackets.cell_ends.Goals as goal

pub loop-k-init : goal.loop-k-init
loop-k-init g c = (length-replicate _ _, fill_all _ _ _ (length-replicate _ _))

pub loop-k-preserved : goal.loop-k-preserved
loop-k-preserved g c = (
  simp length-set c.loop-k.invariant.0,
  next c.loop-k.invariant.1 c.loop-k-test.true (rw c.cell_end.ensures),
)

pub returns : goal.returns
returns g c = end c.loop-k.invariant.1 c.loop-k-test.false
