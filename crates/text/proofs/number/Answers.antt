-- `text::number` meets its contract. Assumes nothing.
use Rattle.std.proofs.Common.{sym, ◌∙◌}
use Rattle.text.proofs.Reading.{sum_fits, product_fits, read_none, read_wrong, read_next, read_end}
use Rattle.text.proofs.number.Goals as goal

pub overflow_mul-n : goal.overflow_mul-n
overflow_mul-n c = record { fits = product_fits c.loop-b.invariant c.requires c.loop-b-test.true c.if-v-base.true }

pub overflow_add-n : goal.overflow_add-n
overflow_add-n c = record { fits = sum_fits c.loop-b.invariant c.requires c.loop-b-test.true c.if-v-base.true }

pub returns-in_default : goal.returns-in_default
returns-in_default c = read_wrong c.loop-b.invariant c.loop-b-test.true (sym c.value.ensures ∙ c.in-Some.is) c.if-v-base.false

pub returns-in_default-2 : goal.returns-in_default-2
returns-in_default-2 c = read_none c.loop-b.invariant c.loop-b-test.true (sym c.value.ensures ∙ c.in_default.is)

pub loop-b-preserved : goal.loop-b-preserved
loop-b-preserved c = read_next c.loop-b.invariant c.loop-b-test.true (sym c.value.ensures ∙ c.in-Some.is) c.if-v-base.true c.requires.base_most

pub returns : goal.returns
returns c = read_end c.loop-b.invariant c.loop-b-test.false
