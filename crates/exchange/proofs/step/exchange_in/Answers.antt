-- `exchange::step::exchange_in` meets its contract. Assumes nothing.
use Prim.Native.Nat.{◌+◌}
use mathlib.Core.Path.{ap}
use lib.ListN.{take}
use Rattle.std.proofs.lemmas.Result.{err_from_is_err_and}
use Rattle.exchange.proofs.StepLaws.{kept_is, unkept}
use Rattle.exchange.proofs.step.exchange_in.Goals as goal

pub returns-in_err-kept : goal.returns-in_err-kept
returns-in_err-kept c =
    let a = c.args in
    let p = err_from_is_err_and c.from_residual.result c.from_residual.ensures.1 in
    rw (p.1, p.2)
    (unkept a.fields (take a.i.count a.i.points) (take a.i.count a.i.weights) (take a.i.count a.i.abscissas) a.intervals _ _ (ap (λ k. k + 1) c.functions-n.ensures) c.requires.0 (rw c.target.ensures at c.in_err-kept.ensures.kept))

pub returns : goal.returns
returns c =
    let a = c.args in
    kept_is a.fields (take a.i.count a.i.points) (take a.i.count a.i.weights) (take a.i.count a.i.abscissas) a.intervals _ _ (ap (λ k. k + 1) c.functions-n.ensures) c.requires.0 (rw c.target.ensures at c.in_ok-kept.ensures.kept) c.renew.ensures
