-- `exchange::design::taps_of` meets its contract. Assumes nothing.
use Rattle.std.proofs.lemmas.Result.{err_from_is_err_and}
use Rattle.numbers.proofs.OutcomeLaws.{fills_none}
use Rattle.exchange.proofs.TapLaws.{samples_lent, samples_refused, responses_refused, coefficients_refused, taps_filled}
use borrow.Author.Rules.{rules}
use Rattle.exchange.proofs.design.taps_of.Goals as goal

pub returns-in_err-sample_places : goal.returns-in_err-sample_places
returns-in_err-sample_places c =
    let p = err_from_is_err_and c.from_residual.result c.from_residual.ensures.1 in
    let lent = samples_lent c.args.request c.functions-m.result c.functions-m.ensures c.requires.1 c.requires.2 in
    rw (p.1, p.2) (fills_none (samples_refused _ _ _ _ _ c.sample_places.new.out lent c.in_err-sample_places.ensures))

pub returns-in_err-compute_freq_responses : goal.returns-in_err-compute_freq_responses
returns-in_err-compute_freq_responses c =
    let p = err_from_is_err_and c.from_residual-in_err-compute_freq_responses.result c.from_residual-in_err-compute_freq_responses.ensures.1 in
    let lent = samples_lent c.args.request c.functions-m.result c.functions-m.ensures c.requires.1 c.requires.2 in
    rw (p.1, p.2)
    (fills_none (responses_refused _ _ _ _ _ _ lent c.in_ok-sample_places.ensures (search rules) c.compute_freq_responses.ensures c.in_err-compute_freq_responses.was))

pub returns-in_err-compute_cheby_coefficients : goal.returns-in_err-compute_cheby_coefficients
returns-in_err-compute_cheby_coefficients c =
    let p = err_from_is_err_and c.from_residual-in_err-compute_cheby_coefficients.result c.from_residual-in_err-compute_cheby_coefficients.ensures.1 in
    let lent = samples_lent c.args.request c.functions-m.result c.functions-m.ensures c.requires.1 c.requires.2 in
    rw (p.1, p.2)
    (fills_none
    (coefficients_refused _ _ _ _ _ _ lent c.in_ok-sample_places.ensures (search rules) c.compute_freq_responses.ensures c.in_ok-compute_freq_responses.was (search rules)
    c.compute_cheby_coefficients.ensures c.in_err-compute_cheby_coefficients.was))

pub returns : goal.returns
returns c =
    let lent = samples_lent c.args.request c.functions-m.result c.functions-m.ensures c.requires.1 c.requires.2 in
    taps_filled _ _ _ _ _ _ lent c.in_ok-sample_places.ensures (search rules) c.compute_freq_responses.ensures c.in_ok-compute_freq_responses.was (search rules)
    c.compute_cheby_coefficients.ensures c.in_ok-compute_cheby_coefficients.was (search rules) c.h_from_ak.ensures
