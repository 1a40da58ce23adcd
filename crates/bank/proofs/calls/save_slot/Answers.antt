-- `bank::calls::save_slot` meets its contract. Assumes nothing.
use mathlib.Core.Path.{refl, sym, ap, ◌∙◌}
use Rattle.std.proofs.lemmas.Result.{err_from_is_err_and}
use Rattle.numbers.specs.Outcome.{refused}
use Rattle.numbers.specs.Refusals.{refusal_number}
use Rattle.exchange.specs.declared.job.State.{State}
use Rattle.exchange.specs.Job.{standing_of}
use Rattle.bank.specs.Calls.{save_by}
use Rattle.bank.proofs.CallLaws.{save_refused, asked_holds}
use Rattle.bank.proofs.SaveLaws.{save_unfit, save_given, save_holds, saved_fits, image_by, wrote_same}
use borrow.Author.Rules.{rules}
use Rattle.bank.proofs.calls.save_slot.Goals as goal

pub returns-in_err-job : goal.returns-in_err-job
returns-in_err-job c = let p = err_from_is_err_and c.from_residual.result c.from_residual.ensures.1 in rw (p.1, p.2) (save_refused _ _ _ c.in_err-job.ensures)

pub returns-in_err-check : goal.returns-in_err-check
returns-in_err-check c = let p = err_from_is_err_and c.from_residual-in_err-check.result c.from_residual-in_err-check.ensures.1 in rw (p.1, p.2) (save_holds _ _ _ _ _ (asked_holds _ _ c.in_ok-job.ensures) (save_unfit _ _ _ _ c.in_err-check.ensures))

pub returns-in-Failed : goal.returns-in-Failed
returns-in-Failed c =
    let j = c.in_ok-job.job in
    save_holds _ _ _ _ _ (asked_holds _ _ c.in_ok-job.ensures)
    (save_given _ _ _ _ _ (refused (refusal_number c.in-Failed.why)) c.in_ok-check.ensures (ap (λ (s : State). save_by (standing_of s) j.fields) (sym c.in-Failed.is))
    (record { told = refl; slot = refl; taps = refl; freqs = refl; bytes = refl }))

pub returns-in_default : goal.returns-in_default
returns-in_default c =
    let j = c.in_ok-job.job in
    save_holds _ _ _ _ _ (asked_holds _ _ c.in_ok-job.ensures)
    (save_given _ _ _ _ _ _ c.in_ok-check.ensures (saved_fits j.fields _ c.requires.1 ∙ image_by j.state j.fields c.in_default.not-Failed) (wrote_same _ _ _ _ _ _ c.encode.ensures (search rules)))
