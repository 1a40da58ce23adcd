-- `bank::calls::clear_slot` meets its contract. Assumes nothing.
use Rattle.bank.proofs.CallLaws.{settled_clear}
use Rattle.bank.proofs.calls.clear_slot.Goals as goal

pub returns : goal.returns
returns c = settled_clear _ _ c.wipe.ensures
