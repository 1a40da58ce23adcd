-- `subdivision::cuts::cut_bands` meets its contract. Assumes nothing.
use Prim.Native.Nat.{◌<◌}
use mathlib.Core.Path.{◌≡◌}
use native.Mathlib.Omega.{arith}
use lib.ListN.{length, take}
use lib.Seq.{get_or-take}
use lib.Ieee.{nan}
use Rattle.fir_types.specs.Edges.{interval}
use borrow.Author.Rules.{rules}
use Rattle.subdivision.proofs.CutLaws.{divide_start, divide_next, divide_end}
use Rattle.subdivision.proofs.cuts.cut_bands.Goals as goal

pub loop-b-init : goal.loop-b-init
loop-b-init c = rw c.none.ensures (divide_start _ _ c.requires.0 c.requires.1)

pub cut_band-c-requires : goal.cut_band-c-requires
cut_band-c-requires c =
    let z : length (take c.args.bands.count c.args.bands.list) ≡ c.args.bands.count = search rules in
    (c.loop-b.invariant.within, omega (arith, z, c.loop-b-test.true, c.loop-b.invariant.room))

pub loop-b-preserved : goal.loop-b-preserved
loop-b-preserved c =
    let q : length c.args.bands.list ≡ 8 = search rules in
    let z : length (take c.args.bands.count c.args.bands.list) ≡ c.args.bands.count = search rules in
    let h : c.loop-b.b-index < c.args.bands.count = omega (arith, z, c.loop-b-test.true) in
    divide_next c.loop-b.invariant h (search rules)
    (rw (get_or-take c.args.bands.count c.args.bands.list c.loop-b.b-index (interval nan nan) h) at c.cut_band-c.ensures)

pub returns : goal.returns
returns c =
    let z : length (take c.args.bands.count c.args.bands.list) ≡ c.args.bands.count = search rules in
    divide_end c.loop-b.invariant (omega (arith, z, c.loop-b-test.false))
