-- `angle_values::list::line_end` meets its contract. Assumes nothing.
use Rattle.std.proofs.Common.{◌≡◌, arith, drop, length, ◌≤◌}
use Rattle.text.proofs.Passing.{all_from}
use Rattle.angle_values.proofs.Newlines.{line_end_in, line_end_past}
use Rattle.angle_values.proofs.list.line_end.Goals as goal

pub returns-in-Some : goal.returns-in-Some
returns-in-Some c =
    let h : c.in-Some.rest.now ≡ drop c.args.at c.args.s.now = rw all_from at c.in-Some.ensures.lookup.0.2 in
    rw (c.unwrap_or.ensures, c.newline.ensures, h) (line_end_in c.args.s.now c.args.at)

pub returns-in-None : goal.returns-in-None
returns-in-None c = line_end_past c.args.s.now c.args.at (let h = c.in-None.ensures.lookup in omega arith)
