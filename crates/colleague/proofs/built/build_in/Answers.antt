-- `colleague::built::build_in` meets its contract. Assumes nothing.
use mathlib.Core.Path.{refl}
use Rattle.numbers.proofs.LoopLaws.{start, next, end}
use Rattle.colleague.specs.Built.{built_of}
use Rattle.colleague.proofs.LentLaws.{zeros-blank, blank_next}
use Rattle.colleague.proofs.built.build_in.Goals as goal

pub loop-j-init : goal.loop-j-init
unfolding built_of
loop-j-init c = (refl, rw c.requires.2 zeros-blank, rw c.requires.2 start)

pub loop-j-preserved : goal.loop-j-preserved
loop-j-preserved c =
    let k = c.loop-j in
    let e = c.put_row.ensures in
    (k.invariant.0, rw e (blank_next k.j k.a _ k.invariant.1), next k.invariant.2 c.loop-j-test.true e)

pub returns : goal.returns
returns c = end c.loop-j.invariant.2 c.loop-j-test.false
