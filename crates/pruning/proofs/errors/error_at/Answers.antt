-- `pruning::errors::error_at` meets its contract. Assumes nothing.
use mathlib.Core.Path.{sym}
use lib.ListN.{get_or-eq_default}
use borrow.Author.Rules.{rules}
use lib.Ieee.{nan, div, of_bits}
use Rattle.pruning.proofs.errors.error_at.Goals as goal

pub returns-in-None : goal.returns-in-None
unfolding div of_bits
returns-in-None c =
    sym (get_or-eq_default c.args.errors.now nan (search rules))
