-- `bank::save` meets its contract. Assumes nothing.
use borrow.Author.Rules.{rules}
use borrow.Author.Tests.{leb-true}
use mathlib.Core.List.{[]}
use Rattle.std.proofs.lemmas.Result.{err_from_is_err_and}
use Rattle.bank.specs.Calls.{Call}
use Rattle.bank.proofs.Ending.{ends_refused, ends_looked}
use Rattle.bank.proofs.save.Goals as goal

pub returns-in_err-at : goal.returns-in_err-at
returns-in_err-at c = let p = err_from_is_err_and c.from_residual.result c.from_residual.ensures.1 in rw (p.1, p.2) (ends_refused (Call.save _) _ _ _ _ _ c.in_err-at.ensures.value c.gate.ensures.scratch_after)

pub save_slot-requires : goal.save_slot-requires
save_slot-requires c = (search rules, leb-true 948 _ c.in_ok-at.ensures.at.fits)

pub returns : goal.returns
returns c = ends_looked (Call.save _) _ _ _ _ _ _ [] [] _ c.in_ok-at.ensures.value c.gate.ensures.scratch_after c.in_ok-at.ensures.at.at c.save_slot.ensures
