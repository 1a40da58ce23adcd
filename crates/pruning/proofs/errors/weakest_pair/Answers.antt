-- `pruning::errors::weakest_pair` meets its contract. Assumes nothing.
use Prim.Native.Nat.{◌+◌, ◌<◌}
use native.Mathlib.Omega.{arith}
use Rattle.pruning.specs.Errors.{negative_at, size_at}
use Rattle.pruning.proofs.PairLaws.{pair_inside}
use Rattle.pruning.proofs.RunLaws.{seek_start, seek_lower, seek_keep, seek_end}
use Rattle.pruning.proofs.errors.weakest_pair.Goals as goal
use Rattle.pruning.proofs.errors.weakest_pair.Goals.{then-p-v, else-p-v}

pub loop-k-init : goal.loop-k-init
loop-k-init c =
    let a = c.args in
    let e = a.errors.now in
    let q = c.size-last.ensures in (
      q,
      rw (c.smaller-v.ensures, q, c.size-first.ensures) (seek_start (negative_at e) (size_at e) a.kept.now 0 a.n (omega arith) (omega arith)),
    )

pub loop-k-preserved : goal.loop-k-preserved
loop-k-preserved c =
    let a = c.args in
    let e = a.errors.now in
    let l = c.loop-k in
    let h : l.k + 1 < a.n = omega arith in
    let q = c.size-next.ensures in
    let p = rw (l.invariant.0, q) at c.smaller-p.ensures in
    elim c.if-p-v.branch [
      | then-p-v w ↦
          rw (w.best-is, w.v-is)
          (q, seek_lower (negative_at e) (size_at e) a.kept.now 0 a.n (omega arith) l.invariant.1 h p w.if-p-v.true)
      | else-p-v w ↦
          rw (w.best-is, w.v-is)
          (q, seek_keep (negative_at e) (size_at e) a.kept.now 0 a.n (omega arith) l.invariant.1 h p w.if-p-v.false)
    ]

pub returns : goal.returns
returns c =
    let a = c.args in
    let e = a.errors.now in
    let is = seek_end (negative_at e) (size_at e) a.kept.now 0 a.n (omega arith) c.loop-k.invariant.1 (omega arith) in
    record { weakest = is; inside = rw (← is) at (pair_inside (negative_at e) (size_at e) a.n a.kept.now (omega arith) (omega arith)) }
