-- `subdivision::first::total_length` meets its contract. Assumes nothing.
use Prim.Native.Nat.{◌<◌}
use mathlib.Core.Path.{◌≡◌}
use native.Mathlib.Omega.{arith}
use lib.ListN.{length, take}
use lib.Seq.{get_or-take}
use lib.Ieee.{nan}
use Rattle.fir_types.specs.Edges.{interval}
use borrow.Author.Rules.{rules}
use Rattle.numbers.proofs.LoopLaws.{next, end}
use Rattle.subdivision.proofs.first.total_length.Goals as goal

pub loop-b-preserved : goal.loop-b-preserved
loop-b-preserved c =
    let z : length (take c.args.bands.count c.args.bands.list) ≡ c.args.bands.count = search rules in
    let h : c.loop-b.b-index < c.args.bands.count = omega (arith, z, c.loop-b-test.true) in
    next c.loop-b.invariant h
    (rw (c.length_of-total.ensures, get_or-take c.args.bands.count c.args.bands.list c.loop-b.b-index (interval nan nan) h))

pub returns : goal.returns
returns c =
    let z : length (take c.args.bands.count c.args.bands.list) ≡ c.args.bands.count = search rules in
    end c.loop-b.invariant (omega (arith, z, c.loop-b-test.false))
