-- `bank::clear` meets its contract. Assumes nothing.
use mathlib.Core.List.{[]}
use Rattle.std.proofs.lemmas.Result.{err_from_is_err_and}
use Rattle.bank.specs.Calls.{Call}
use Rattle.bank.proofs.Ending.{ends_refused, ends_done}
use Rattle.bank.proofs.clear.Goals as goal

pub returns-in_err-at : goal.returns-in_err-at
returns-in_err-at c = let p = err_from_is_err_and c.from_residual.result c.from_residual.ensures.1 in rw (p.1, p.2) (ends_refused Call.clear _ _ _ _ _ c.in_err-at.ensures.value c.gate.ensures.scratch_after)

pub returns : goal.returns
returns c =
    ends_done Call.clear _ _ _ _ _ _ _ [] [] [] c.in_ok-at.ensures.value c.gate.ensures.scratch_after c.in_ok-at.ensures.at.at c.clear_slot.ensures
