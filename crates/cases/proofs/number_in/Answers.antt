-- `cases::number_in` meets its contract. Assumes nothing.
use Rattle.std.proofs.Common.{sym, ◌∙◌, ne_eqb}
use lib.Ieee.{of_bits, div}
use Rattle.cases.specs.Cases.{number_in}
use Rattle.cases.proofs.number_in.Goals as goal

pub returns-in_default : goal.returns-in_default
unfolding number_in of_bits div
returns-in_default c = rw (sym c.hex.ensures ∙ c.in-Some.is, ← c.of_word.ensures, ← c.to_word.ensures, ne_eqb _ _ c.if-to_word-w.false)

pub returns-in_default-2 : goal.returns-in_default-2
unfolding number_in of_bits div
returns-in_default-2 c = rw (sym c.hex.ensures ∙ c.in_default.is)
