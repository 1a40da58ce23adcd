-- `bank::calls::open_slot` meets its contract. Assumes nothing.
use Rattle.std.proofs.lemmas.Result.{err_from_is_err_and}
use Rattle.bank.proofs.CallLaws.{open_refused, open_stopped, open_placed}
use Rattle.bank.proofs.calls.open_slot.Goals as goal

pub returns-in_err-vacant : goal.returns-in_err-vacant
returns-in_err-vacant c = let p = err_from_is_err_and c.from_residual.result c.from_residual.ensures.1 in rw (p.1, p.2) (open_refused _ _ _ c.in_err-vacant.ensures)

pub returns-in_err-job : goal.returns-in_err-job
returns-in_err-job c = let p = err_from_is_err_and c.from_residual-in_err-job.result c.from_residual-in_err-job.ensures.1 in rw (p.1, p.2) (open_stopped _ _ _ c.in_ok-vacant.ensures c.in_err-job.ensures.is)

pub returns : goal.returns
returns c = open_placed _ _ _ _ c.in_ok-vacant.ensures c.in_ok-job.ensures.is c.store.ensures
