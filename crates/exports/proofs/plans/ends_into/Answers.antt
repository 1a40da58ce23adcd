-- `exports::plans::ends_into` meets its contract. Assumes nothing.
use Prim.Native.Nat.{◌*◌}
use mathlib.Core.Path.{ap}
use lib.ListN.{length, set}
use Rattle.numbers.proofs.LoopLaws.{next, end, fill_start}
use Rattle.exports.specs.Plans.{edge_at}
use Rattle.exports.proofs.plans.ends_into.Goals as goal

pub loop-k-init : goal.loop-k-init
loop-k-init c = fill_start (edge_at c.args.list.now) (2 * length c.args.list.now) _ c.requires

pub loop-k-preserved : goal.loop-k-preserved
loop-k-preserved c = next c.loop-k.invariant c.loop-k-test.true (ap (set c.loop-k.out c.loop-k.k) c.end_of.ensures)

pub returns : goal.returns
returns c = end c.loop-k.invariant c.loop-k-test.false
