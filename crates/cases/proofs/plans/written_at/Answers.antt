-- `cases::plans::written_at` meets its contract. Assumes nothing.
use Rattle.std.proofs.Common.{sym, ◌∙◌}
use lib.Ieee.{of_bits, div}
use Rattle.cases.specs.Plans.{written_at}
use Rattle.cases.proofs.plans.written_at.Goals as goal

pub returns-in-None : goal.returns-in-None
unfolding written_at of_bits div
returns-in-None c = rw (sym c.next.ensures ∙ c.in-None.is)
