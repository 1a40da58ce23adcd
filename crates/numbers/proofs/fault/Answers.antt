-- `numbers::fault` meets its contract. Assumes nothing.
use mathlib.Core.Path.{sym, ◌∙◌}
use Rattle.numbers.proofs.FiniteLaws.{fault_none}
use Rattle.numbers.proofs.fault.Goals as goal

pub returns-then-x : goal.returns-then-x
returns-then-x c = rw (sym (fault_none _) ∙ c.if-x.true)

pub returns-else-x : goal.returns-else-x
returns-else-x c = rw (sym (fault_none _) ∙ c.if-x.false)
