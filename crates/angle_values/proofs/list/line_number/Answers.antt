-- `angle_values::list::line_number` meets its contract. Assumes nothing.
use Rattle.angle_values.proofs.Newlines.{line_number-count}
use Rattle.angle_values.proofs.list.line_number.Goals as goal

pub returns : goal.returns
returns c = rw (c.newlines.ensures, c.min.ensures) (line_number-count c.args.s.now c.args.at)
