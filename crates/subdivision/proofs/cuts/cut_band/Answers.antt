-- `subdivision::cuts::cut_band` meets its contract. Assumes nothing.
use Rattle.subdivision.proofs.CutLaws.{cut_stays, cut_at_end, cut_same, cut_inside, cut_done}
use Rattle.subdivision.proofs.cuts.cut_band.Goals as goal

pub returns-then-end-a : goal.returns-then-end-a
returns-then-end-a c = cut_stays c.loop-k.invariant c.loop-k-test.true c.if-end-a.true c.pushed.ensures

pub returns-then-a-end : goal.returns-then-a-end
returns-then-a-end c = cut_at_end c.loop-k.invariant c.loop-k-test.true c.if-end-a.false c.if-a-end.true c.pushed-then-a-end.ensures

pub loop-k-preserved-then-begin-a : goal.loop-k-preserved-then-begin-a
loop-k-preserved-then-begin-a c =
    cut_inside c.loop-k.invariant c.loop-k-test.true c.if-end-a.false c.if-a-end.false c.if-begin-a.true c.pushed-made.ensures

pub loop-k-preserved : goal.loop-k-preserved
loop-k-preserved c = cut_same c.loop-k.invariant c.loop-k-test.true c.if-end-a.false c.if-a-end.false c.if-begin-a.false

pub returns : goal.returns
returns c = cut_done c.loop-k.invariant c.loop-k-test.false c.pushed-2.ensures
