-- `bank::calls::restore_slot` meets its contract. Assumes nothing.
use Rattle.std.proofs.lemmas.Result.{err_from_is_err_and}
use Rattle.bank.proofs.CallLaws.{restore_refused, restore_unread, restore_stopped, restore_placed}
use Rattle.bank.proofs.calls.restore_slot.Goals as goal

pub returns-in_err-vacant : goal.returns-in_err-vacant
returns-in_err-vacant c = let p = err_from_is_err_and c.from_residual.result c.from_residual.ensures.1 in rw (p.1, p.2) (restore_refused _ _ _ c.in_err-vacant.ensures)

pub returns-in_err-fields : goal.returns-in_err-fields
returns-in_err-fields c = let p = err_from_is_err_and c.from_residual-in_err-fields.result c.from_residual-in_err-fields.ensures.1 in rw (p.1, p.2) (restore_unread _ _ _ c.in_ok-vacant.ensures c.in_err-fields.ensures)

pub returns-in_err-job : goal.returns-in_err-job
returns-in_err-job c = let p = err_from_is_err_and c.from_residual-in_err-job.result c.from_residual-in_err-job.ensures.1 in rw (p.1, p.2) (restore_stopped _ _ _ _ c.in_ok-vacant.ensures c.in_ok-fields.ensures c.in_err-job.ensures.is)

pub returns : goal.returns
returns c = restore_placed _ _ _ _ _ c.in_ok-vacant.ensures c.in_ok-fields.ensures c.in_ok-job.ensures.is c.store.ensures
