-- `colleague::are_entries_finite` meets its contract. Assumes nothing.
use Rattle.std.proofs.Common.{rules}
use Rattle.numbers.proofs.LoopLaws.{every_is}
use Rattle.colleague.proofs.are_entries_finite.Goals as goal

pub returns : goal.returns
returns c = every_is _ _ _ (search rules) (search rules)
