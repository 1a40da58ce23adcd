-- `exchange::step::exchange` meets its contract. Assumes nothing.
use Rattle.std.proofs.lemmas.Result.{err_from_is_err_and}
use Rattle.exchange.proofs.StepLaws.{unbanded}
use Rattle.exchange.proofs.step.exchange.Goals as goal

pub returns-in_err-edges : goal.returns-in_err-edges
returns-in_err-edges c =
    let p = err_from_is_err_and c.from_residual.result c.from_residual.ensures.1 in
    rw (p.1, p.2) (unbanded _ _ _ _ c.in_err-edges.ensures)
