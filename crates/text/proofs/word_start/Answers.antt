-- `text::word_start` meets its contract. Assumes nothing.
use Rattle.std.proofs.Common.{sym, ◌∙◌, lt-ltb}
use Rattle.text.proofs.Passing.{pass_stop, pass_next}
use Rattle.text.proofs.word_start.Goals as goal

pub returns-then-is_first : goal.returns-then-is_first
returns-then-is_first c =
    let e = pass_stop c.loop-i.invariant c.loop-i-test.true (sym c.is_first.ensures ∙ c.if-is_first.true) in
    rw (← e, lt-ltb _ _ c.loop-i-test.true)

pub loop-i-preserved : goal.loop-i-preserved
loop-i-preserved c =
    pass_next c.loop-i.invariant c.loop-i-test.true
    (sym c.is_first.ensures ∙ c.if-is_first.false)
    c.is_remark-remark.ensures
