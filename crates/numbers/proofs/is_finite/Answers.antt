-- `numbers::is_finite` meets its contract. Assumes nothing.
use mathlib.Core.Path.{◌∙◌}
use Rattle.numbers.proofs.FiniteLaws.{below_top, not_below_top}
use Rattle.numbers.proofs.is_finite.Goals as goal

pub returns-then-x : goal.returns-then-x
returns-then-x c = below_top _ c.if-x.true

pub returns-else-x : goal.returns-else-x
returns-else-x c = c.if-x.false ∙ not_below_top _ c.if-x.false
