-- `pruning::errors::drop_pairs` meets its contract. Assumes nothing.
use Prim.Native.Nat.{◌-◌}
use mathlib.Core.Path.{ap, ◌∙◌}
use native.Mathlib.Omega.{arith}
use lib.ListN.{take}
use Rattle.pruning.specs.Errors.{negative_at, size_at}
use Rattle.pruning.proofs.PairLaws.{closed, pairs_next, pairs_end}
use borrow.Author.Rules.{rules}
use Rattle.pruning.proofs.errors.drop_pairs.Goals as goal

pub loop-k-preserved : goal.loop-k-preserved
loop-k-preserved c =
    let a = c.args in
    let e = a.errors.now in
    let l = c.loop-k in (
      search rules,
      omega (arith, l.invariant.1),
      pairs_next (negative_at e) (size_at e) l.invariant.2 (omega (arith, l.invariant.0, l.invariant.1))
          c.loop-k-test.true
          c.weakest_pair-w.ensures.weakest
          (ap (take (l.k - 2)) c.copy_within.ensures.after ∙ closed l.k _ 2 l.kept c.weakest_pair-w.ensures.inside (omega (arith, l.invariant.0, l.invariant.1))),
    )

pub returns : goal.returns
returns c =
    let e = c.args.errors.now in
    pairs_end (negative_at e) (size_at e) c.loop-k.invariant.2 c.loop-k-test.false
