-- `pruning::errors::drop_end` meets its contract. Assumes nothing.
use Prim.Native.Nat.{◌-◌}
use mathlib.Core.Path.{ap, ◌∙◌}
use lib.ListN.{take}
use native.Mathlib.Omega.{arith}
use Rattle.pruning.specs.Errors.{negative_at, size_at}
use Rattle.pruning.proofs.PairLaws.{closed, end_last, end_first}
use Rattle.pruning.proofs.errors.drop_end.Goals as goal

pub returns-then-size : goal.returns-then-size
returns-then-size c =
    let a = c.args in
    let e = a.errors.now in
    end_last (negative_at e) (size_at e) 0 a.kept.now a.m (omega arith) (omega arith)
    (rw (c.size.ensures, c.size-2.ensures) at c.if-size.true)

pub returns : goal.returns
returns c =
    let a = c.args in
    let e = a.errors.now in
    let s = c in
    ap (take (a.m - 1)) c.copy_within.ensures.after
    ∙ closed a.m 0 1 a.kept.now (omega arith) (omega arith)
    ∙ end_first (negative_at e) (size_at e) 0 a.kept.now a.m (omega arith) (omega arith)
    (rw (s.size.ensures, s.size-2.ensures) at s.if-size.false)
