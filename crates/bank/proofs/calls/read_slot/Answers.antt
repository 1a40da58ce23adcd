-- `bank::calls::read_slot` meets its contract. Assumes nothing.
use Rattle.std.proofs.lemmas.Result.{err_from_is_err_and}
use Rattle.bank.proofs.CallLaws.{read_refused, asked_holds}
use Rattle.bank.proofs.ReadLaws.{read_told, read_holds}
use Rattle.bank.proofs.calls.read_slot.Goals as goal

pub returns-in_err-job : goal.returns-in_err-job
returns-in_err-job c = let p = err_from_is_err_and c.from_residual.result c.from_residual.ensures.1 in rw (p.1, p.2) (read_refused _ _ _ _ c.in_err-job.ensures)

pub returns : goal.returns
returns c =
    read_holds _ _ _ _ c.requires.1 c.requires.2 _ _ _ (asked_holds _ _ c.in_ok-job.ensures) (read_told _ c.read.result _ _ _ _ _ c.read.ensures)
