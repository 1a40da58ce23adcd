-- `extrema::pruned::chosen_from` meets its contract. Assumes nothing.
use mathlib.Core.Path.{refl}
use lib.ListN.{length-set}
use Rattle.numbers.proofs.LoopLaws.{next, end, fill_start}
use Rattle.pruning.specs.Candidates.{all}
use Rattle.extrema.proofs.PrunedLaws.{packs}
use borrow.Author.Rules.{rules}
use Rattle.extrema.proofs.pruned.chosen_from.Goals as goal

pub loop-i-init : goal.loop-i-init
loop-i-init c = (refl, fill_start _ _ _ (search rules))

pub loop-i-preserved : goal.loop-i-preserved
loop-i-preserved c = (
  simp length-set c.loop-i.invariant.0,
  next c.loop-i.invariant.1 (search rules) (rw c.candidate_at.ensures),
)

pub returns : goal.returns
returns c =
    let a = c.args in
    rw (end c.loop-i.invariant.1 c.loop-i-test.false) (packs (all a.words.now) a.places.now c.requires)
