-- `text::fraction::digits` meets its contract. Assumes nothing.
use Rattle.std.proofs.Common.{sym, ◌∙◌}
use Rattle.text.proofs.Pointing.{point_wrong, point_next, point_end}
use Rattle.text.proofs.fraction.digits.Goals as goal

pub returns-in_err-so_far : goal.returns-in_err-so_far
returns-in_err-so_far c =
    rw c.from_residual.ensures
    (point_wrong c.loop-b.invariant c.loop-b-test.true (sym c.with.ensures ∙ c.in_err-so_far.was))

pub loop-b-preserved : goal.loop-b-preserved
loop-b-preserved c = point_next c.loop-b.invariant c.loop-b-test.true (sym c.with.ensures ∙ c.in_ok-so_far.was)

pub returns : goal.returns
returns c = point_end c.loop-b.invariant c.loop-b-test.false
