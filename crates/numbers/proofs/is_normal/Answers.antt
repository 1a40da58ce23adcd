-- `numbers::is_normal` meets its contract. Assumes nothing.
use Rattle.numbers.specs.Floats.{normal}
use Rattle.numbers.proofs.is_normal.Goals as goal

pub returns-then-m : goal.returns-then-m
unfolding normal
returns-then-m c = rw (← c.magnitude-m.ensures, c.if-m.true)

pub returns-else-m : goal.returns-else-m
unfolding normal
returns-else-m c = rw (← c.magnitude-m.ensures, c.if-m.false)
