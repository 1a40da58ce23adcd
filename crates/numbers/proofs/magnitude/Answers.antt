-- `numbers::magnitude` meets its contract. Assumes nothing.
use borrow.Author.Rules.{rules}
use Rattle.numbers.proofs.Magnitudes.{magnitude_is}
use Rattle.numbers.proofs.magnitude.Goals as goal

pub returns-then-x : goal.returns-then-x
returns-then-x c = rw c.if-x.true at (magnitude_is c.args.x (search rules))

pub returns-else-x : goal.returns-else-x
returns-else-x c = rw c.if-x.false at (magnitude_is c.args.x (search rules))
