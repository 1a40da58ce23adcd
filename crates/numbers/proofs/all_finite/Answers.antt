-- `numbers::all_finite` meets its contract: the faults counted and those to come are all. Assumes nothing.
use Prim.Native.Nat.{◌+◌}
use mathlib.Core.Path.{ap}
use Rattle.numbers.proofs.FiniteLaws.{count_next, count_end}
use Rattle.numbers.proofs.all_finite.Goals as goal

pub loop-x-preserved : goal.loop-x-preserved
loop-x-preserved c = count_next c.loop-x.invariant c.loop-x-test.true (ap (λ z. c.loop-x.faults + z) c.fault-faults.ensures)

pub returns : goal.returns
returns c = count_end c.loop-x.invariant c.loop-x-test.false
