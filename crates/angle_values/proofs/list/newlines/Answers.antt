-- `angle_values::list::newlines` meets its contract: those counted and those to come are all. Assumes nothing.
use Rattle.std.proofs.Common.{◌+◌, ◌≤◌, eqb, get_or, rules, arith, length, Fits, w64}
use native.Mathlib.Nat.{zero-add}
use Rattle.angle_values.proofs.Newlines.{count_next, count_end, count_few}
use Rattle.angle_values.proofs.list.newlines.Goals as goal

pub loop-b-init : goal.loop-b-init
loop-b-init c = (omega arith, zero-add _)

pub overflow_add-n : goal.overflow_add-n
overflow_add-n c =
    let k = count_few c.loop-b.n c.loop-b.b-index (eqb (get_or c.args.s.now c.loop-b.b-index 0) 10) c.loop-b.invariant.0 in
    let z : Fits w64 (c.loop-b.b-index + 1) = search rules in
    omega (arith, k, z)

pub loop-b-preserved : goal.loop-b-preserved
loop-b-preserved c = (
  count_few c.loop-b.n c.loop-b.b-index _ c.loop-b.invariant.0,
  count_next c.args.s.now c.loop-b.n c.loop-b.b-index _ c.loop-b.invariant.1 c.loop-b-test.true,
)

pub returns : goal.returns
returns c = count_end c.args.s.now c.loop-b.n c.loop-b.b-index _ c.loop-b.invariant.1 (omega (arith, c.loop-b-test.false))
