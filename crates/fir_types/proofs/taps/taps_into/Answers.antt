-- `fir_types::taps::taps_into` meets its contract. Assumes nothing.
use mathlib.Core.Path.{refl, ap}
use lib.ListN.{length-set, set}
use Rattle.numbers.proofs.LoopLaws.{next, end}
use Rattle.fir_types.proofs.TapLaws.{taps_start}
use Rattle.fir_types.proofs.taps.taps_into.Goals as goal

pub loop-i-init : goal.loop-i-init
loop-i-init c = (refl, taps_start c.args.symmetry c.args.a.now c.args.out.now)

pub loop-i-preserved : goal.loop-i-preserved
loop-i-preserved c =
    let e = c.loop-i.invariant.0 in
    (simp length-set e, next c.loop-i.invariant.1 c.loop-i-test.true (ap (set c.loop-i.out c.loop-i.i) (rw e at c.tap.ensures)))

pub returns : goal.returns
returns c = end c.loop-i.invariant.1 c.loop-i-test.false
