-- `cases::are_same` meets its contract. Assumes nothing.
use mathlib.Core.Path.{refl, ap, sym, ◌∙◌}
use mathlib.Core.Bool.{not}
use Rattle.numbers.proofs.LoopLaws.{seek_start, seek_stop, seek_next, seek_end}
use Rattle.cases.proofs.are_same.Goals as goal

pub returns-then-not-is_same_at : goal.returns-then-not-is_same_at
returns-then-not-is_same_at c =
    seek_stop c.loop-i.invariant c.loop-i-test.true (ap not (sym c.is_same_at.ensures ∙ c.if-not-is_same_at.true))

pub loop-i-preserved : goal.loop-i-preserved
loop-i-preserved c =
    seek_next c.loop-i.invariant c.loop-i-test.true (ap not (sym c.is_same_at.ensures ∙ c.if-not-is_same_at.false)) refl

pub returns : goal.returns
returns c = seek_end c.loop-i.invariant c.loop-i-test.false
