-- `barycentric::delta::abscissas_into` meets its contract. Assumes nothing.
use borrow.Author.Rules.{rules}
use lib.ListN.{length-set}
use Rattle.numbers.proofs.LoopLaws.{next, end}
use Rattle.barycentric.specs.Abscissas.{abscissas_of}
use Rattle.barycentric.proofs.LaneLaws.{fill_whole}
use Rattle.barycentric.proofs.delta.abscissas_into.Goals as goal

pub loop-k-init : goal.loop-k-init
unfolding abscissas_of
loop-k-init c = (search rules, fill_whole _ _ _ (search rules))

pub loop-k-preserved : goal.loop-k-preserved
loop-k-preserved c = (
  simp length-set c.loop-k.invariant.0,
  next c.loop-k.invariant.1 c.loop-k-test.true (rw c.abscissa_at.ensures),
)

pub returns : goal.returns
returns c = end c.loop-k.invariant.1 c.loop-k-test.false
