-- `colleague::balance::lower` meets its contract. Assumes nothing.
use mathlib.Core.Path.{◌∙◌}
use borrow.Author.Rules.{rules}
use Rattle.colleague.proofs.BalanceLaws.{lower_at, steps-lowered}
use Rattle.colleague.proofs.balance.lower.Goals as goal

pub returns : goal.returns
returns c = c.scaled.ensures (lower_at c.args.twice) (λ s r p. search rules) ∙ steps-lowered c.args.twice 1023 c.args.s
