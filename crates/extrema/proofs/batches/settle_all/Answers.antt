-- `extrema::batches::settle_all` meets its contract. Assumes nothing.
use mathlib.Core.Path.{refl, ◌∙◌}
use native.Mathlib.Omega.{arith}
use Rattle.std.proofs.lemmas.Result.{err_from_is_err_and}
use Rattle.extrema.proofs.BatchLaws.{settled_none, settled_then}
use Rattle.extrema.proofs.BatchStages.{front_stays, tried_not}
use Rattle.extrema.proofs.batches.settle_all.Goals as goal

pub loop-i-init : goal.loop-i-init
loop-i-init c = (omega arith, omega arith, refl, refl, settled_none _ _ _)

pub returns-in_err-settle : goal.returns-in_err-settle
returns-in_err-settle c =
    let l = c.loop-i in
    let p = err_from_is_err_and c.from_residual.result c.from_residual.ensures.1 in
    rw (p.1, p.2) (tried_not _ (front_stays _ _ _ l.invariant.0 l.invariant.2 c.settle.ensures.front) (c.settle.ensures.long ∙ l.invariant.3))

pub loop-i-preserved : goal.loop-i-preserved
loop-i-preserved c =
    let l = c.loop-i in
    let t = c.settle.ensures in (
      omega arith,
      omega arith,
      front_stays _ _ _ l.invariant.0 l.invariant.2 t.front,
      t.long ∙ l.invariant.3,
      settled_then _ (omega arith) l.invariant.4 (t.settled c.in_ok-settle.was),
    )
