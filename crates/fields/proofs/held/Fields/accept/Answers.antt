-- `fields::held::Fields::accept` meets its contract. Assumes nothing.
use Rattle.std.proofs.Common.{sym, ◌∙◌}
use Rattle.std.proofs.lemmas.Result.{err_from_is_err_and}
use Rattle.numbers.specs.Outcome.{gave}
use Rattle.numbers.proofs.Given.{bind_given}
use Rattle.fir_types.specs.Edges.{packed}
use Rattle.fields.specs.Request.{request_for}
use Rattle.fields.proofs.RequestLaws.{points_most, accepted_range}
use Rattle.fields.proofs.AnswerLaws.{counts_stop, request_stop, request_next}
use Rattle.fields.proofs.held.Fields.accept.Goals as goal

pub returns-then-not-do_counts_hold : goal.returns-then-not-do_counts_hold
returns-then-not-do_counts_hold c = counts_stop c.args.self (sym c.do_counts_hold.ensures ∙ c.if-not-do_counts_hold.true)

pub returns-in_err-bands : goal.returns-in_err-bands
returns-in_err-bands c =
    let p = err_from_is_err_and c.from_residual.result c.from_residual.ensures.1 in
    rw (p.1, p.2) (request_stop c.args.self (sym c.do_counts_hold.ensures ∙ c.if-not-do_counts_hold.false) c.in_err-bands.ensures)

pub interpolated-requires : goal.interpolated-requires
interpolated-requires c =
    let b = bind_given (request_for c.args.self.request) (λ l. gave (packed l)) (sym c.in_ok-bands.ensures) in
    points_most _ (accepted_range _ _ b.given)

pub returns : goal.returns
returns c = request_next c.args.self (sym c.do_counts_hold.ensures ∙ c.if-not-do_counts_hold.false) c.in_ok-bands.ensures c.interpolated.ensures
