-- `bank::calls::step_slot` meets its contract. Assumes nothing.
use mathlib.Core.Path.{refl}
use Rattle.std.proofs.lemmas.Result.{err_from_is_err_and}
use Rattle.bank.proofs.CallLaws.{step_refused, step_holds}
use Rattle.bank.proofs.calls.step_slot.Goals as goal

pub returns-in_err-before : goal.returns-in_err-before
returns-in_err-before c = let p = err_from_is_err_and c.from_residual.result c.from_residual.ensures.1 in rw (p.1, p.2) (step_refused _ _ c.in_err-before.ensures)

pub returns : goal.returns
returns c = step_holds _ _ _ _ c.step-answer.result.1 c.in_ok-before.ensures (rw c.requires.1 at c.step-answer.ensures.is) refl c.store.ensures
