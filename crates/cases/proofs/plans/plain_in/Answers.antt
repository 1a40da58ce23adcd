-- `cases::plans::plain_in` meets its contract. Assumes nothing.
use Rattle.std.proofs.Common.{sym, ◌∙◌}
use lib.Ieee.{of_bits, div}
use Rattle.cases.specs.Plans.{plain_in}
use Rattle.cases.proofs.plans.plain_in.Goals as goal

pub returns-in_default : goal.returns-in_default
unfolding plain_in of_bits div
returns-in_default c = rw (sym c.plain.ensures ∙ c.in_default.is)
