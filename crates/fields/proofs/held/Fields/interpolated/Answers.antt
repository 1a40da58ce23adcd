-- `fields::held::Fields::interpolated` meets its contract. Assumes nothing.
use Rattle.std.proofs.Common.{rules, arith, ◌+◌}
use Rattle.fields.proofs.AnswerLaws.{answered-taken}
use Rattle.fields.proofs.held.Fields.interpolated.Goals as goal

pub returns : goal.returns
returns c =
    answered-taken _ (c.functions-n.result + 1) c.interpolate.new.f c.interpolate.new.x c.interpolate.new.wk c.interpolate.new.yk c.in_ok-delta.delta
    (omega arith) (search rules) (search rules) (search rules) (search rules) c.in_ok-delta.ensures
