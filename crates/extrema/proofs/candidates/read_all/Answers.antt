-- `extrema::candidates::read_all` meets its contract. Assumes nothing.
use mathlib.Core.Path.{refl, ap, ◌∙◌}
use lib.ListN.{set, length-set}
use Rattle.numbers.proofs.LoopLaws.{next, end}
use Rattle.barycentric.proofs.LaneLaws.{fill_whole}
use borrow.Author.Rules.{rules}
use Rattle.extrema.proofs.candidates.read_all.Goals as goal

pub loop-k-init : goal.loop-k-init
loop-k-init g c = (refl, λ f gives. fill_whole _ _ _ refl)

pub loop-k-preserved : goal.loop-k-preserved
loop-k-preserved g c = (
  simp length-set c.loop-k.invariant.0,
  λ f gives. next (c.loop-k.invariant.1 f gives) (search rules) (ap (set c.loop-k.out c.loop-k.k) (gives _ _ c.part.ensures ∙ ap f c.candidate_at.ensures)),
)

pub returns : goal.returns
returns g c f gives = end (c.loop-k.invariant.1 f gives) (search rules)
