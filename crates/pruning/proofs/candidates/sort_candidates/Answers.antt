-- `pruning::candidates::sort_candidates` meets its contract. Assumes nothing.
use mathlib.Core.Path.{◌∙◌}
use native.Mathlib.Omega.{arith}
use Rattle.pruning.proofs.SortLaws.{sorted_start, sorted_insertable, sorted_next, sorted-min}
use Rattle.pruning.proofs.candidates.sort_candidates.Goals as goal

pub loop-i-init : goal.loop-i-init
loop-i-init c = (omega arith, sorted_start c.args.words.now)

pub insert_at-requires : goal.insert_at-requires
insert_at-requires c =
    let l = c.loop-i in
    rw l.invariant.1 (sorted_insertable c.args.words.now l.i (omega (arith, c.min-i-end.ensures, c.loop-i-test.true)))

pub loop-i-preserved : goal.loop-i-preserved
loop-i-preserved c =
    let l = c.loop-i in (
      omega (arith, c.min-i-end.ensures, c.loop-i-test.true),
      c.insert_at.ensures ∙ rw l.invariant.1 (sorted_next c.args.words.now l.i (omega (arith, c.min-i-end.ensures, c.loop-i-test.true))),
    )

pub returns : goal.returns
returns c =
    let l = c.loop-i in
    l.invariant.1 ∙ sorted-min c.args.words.now l.i c.args.n (omega (arith, l.invariant.0, c.min-i-end.ensures, c.loop-i-test.false))
