-- `roots::brackets::are_opposite` meets its contract. Assumes nothing.
use Rattle.roots.proofs.BracketLaws.{opposite_below}
use Rattle.roots.proofs.brackets.are_opposite.Goals as goal

pub returns-then-p : goal.returns-then-p
returns-then-p c = opposite_below _ _ c.if-p.true
