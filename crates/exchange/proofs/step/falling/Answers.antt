-- `exchange::step::falling` meets its contract. Assumes nothing.
use mathlib.Core.Path.{refl}
use lib.ListN.{length-set}
use Rattle.numbers.proofs.LoopLaws.{next, end, fill_start}
use Rattle.exchange.proofs.StepLaws.{falling_is}
use borrow.Author.Rules.{rules}
use Rattle.exchange.proofs.step.falling.Goals as goal

pub loop-i-init : goal.loop-i-init
loop-i-init c = (refl, fill_start _ _ _ (search rules))

pub loop-i-preserved : goal.loop-i-preserved
loop-i-preserved c = (
  simp length-set c.loop-i.invariant.0,
  next c.loop-i.invariant.1 (search rules) refl,
)

pub returns : goal.returns
returns c = rw (end c.loop-i.invariant.1 (search rules)) (falling_is c.args.list.now)
