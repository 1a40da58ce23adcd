-- `chebyshev::coefficients_of` meets its contract. Assumes nothing.
use Rattle.std.proofs.lemmas.Result.{err_from_is_err_and}
use Rattle.numbers.proofs.OutcomeLaws.{fills_none}
use Rattle.chebyshev.proofs.CoefficientLaws.{coefficients_filled, coefficients_refused}
use Rattle.chebyshev.proofs.coefficients_of.Goals as goal

pub returns-in_err-coefficient_cosines : goal.returns-in_err-coefficient_cosines
returns-in_err-coefficient_cosines c =
    let p = err_from_is_err_and c.from_residual.result c.from_residual.ensures.1 in
    rw (p.1, p.2) (fills_none (coefficients_refused c.args.d.now _ _ _ c.requires.same c.in_err-coefficient_cosines.ensures))

pub returns : goal.returns
returns c =
    coefficients_filled c.args.d.now _ _ _ _ _ _ _ _ c.requires.same c.halve_first_and_last.ensures c.in_ok-coefficient_cosines.ensures c.clenshaw.ensures
    c.halve_first_and_last-2.ensures c.needed_list.ensures
