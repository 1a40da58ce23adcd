-- `colleague::balance::raise` meets its contract. Assumes nothing.
use mathlib.Core.Path.{◌∙◌}
use borrow.Author.Rules.{rules}
use Rattle.colleague.proofs.BalanceLaws.{raise_at, steps-raised}
use Rattle.colleague.proofs.balance.raise.Goals as goal

pub returns : goal.returns
returns c = c.scaled.ensures (raise_at c.args.half) (λ s r p. search rules) ∙ steps-raised c.args.half 1023 c.args.s
