-- `exports::matrices::entries_into` meets its contract. Assumes nothing.
use Prim.Native.Nat.{◌*◌, ◌≤◌}
use mathlib.Core.Path.{ap}
use native.Mathlib.Omega.{arith}
use lib.ListN.{length, set}
use Rattle.numbers.proofs.LoopLaws.{next, end, fill_start}
use Rattle.exports.specs.Matrices.{entry_at}
use Rattle.exports.proofs.MatrixLaws.{product_most}
use Rattle.exports.proofs.matrices.entries_into.Goals as goal

pub loop-k-init : goal.loop-k-init
loop-k-init c =
    let s = c.args.m.size in
    let m : s * s ≤ 225 = product_most s s 15 15 c.requires.0 c.requires.0 in
    let l : s * s ≤ length c.args.out.now = omega (arith, m, c.requires.1) in
    fill_start (entry_at c.args.m) (s * s) _ l

pub loop-k-preserved : goal.loop-k-preserved
loop-k-preserved c = next c.loop-k.invariant c.loop-k-test.true (ap (set c.loop-k.out c.loop-k.k) c.entry_of.ensures)

pub returns : goal.returns
returns c = end c.loop-k.invariant c.loop-k-test.false
