-- `colleague::balance::balance_matrix` meets its contract. Assumes nothing.
use mathlib.Core.Path.{refl, sym, ◌∙◌}
use Rattle.colleague.proofs.BalanceLaws.{from_more, from_last, from_none}
use Rattle.colleague.proofs.balance.balance_matrix.Goals as goal

pub returns-then-not-unwrap_or : goal.returns-then-not-unwrap_or
returns-then-not-unwrap_or c =
    rw c.balance_pass.ensures.1
    (from_last 64 c.loop-made.made _ _ _ _ refl c.loop-made-test.true c.loop-made.invariant
    (rw c.balance_pass.ensures.0 at (sym c.unwrap_or.ensures ∙ c.if-not-unwrap_or.true)))

pub loop-made-preserved : goal.loop-made-preserved
loop-made-preserved c =
    rw c.balance_pass.ensures.1
    (from_more 64 c.loop-made.made _ _ _ _ refl c.loop-made-test.true c.loop-made.invariant
    (rw c.balance_pass.ensures.0 at (sym c.unwrap_or.ensures ∙ c.if-not-unwrap_or.false)))

pub returns : goal.returns
returns c = from_none 64 c.loop-made.made _ _ _ c.loop-made-test.false c.loop-made.invariant
