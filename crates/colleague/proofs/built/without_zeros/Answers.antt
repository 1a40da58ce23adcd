-- `colleague::built::without_zeros` meets its contract. Assumes nothing.
use borrow.Author.Rules.{rules}
use Rattle.colleague.proofs.BuiltLaws.{zeros_all, zeros_last}
use Rattle.colleague.proofs.built.without_zeros.Goals as goal

pub returns-in-Some : goal.returns-in-Some
returns-in-Some c = zeros_last _ _ c.in-Some.last (search rules) (search rules) (search rules)

pub returns-in-None : goal.returns-in-None
returns-in-None c = zeros_all _ _ (search rules)
