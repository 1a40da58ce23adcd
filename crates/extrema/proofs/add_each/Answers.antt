-- `extrema::add_each` meets its contract. Assumes nothing.
use mathlib.Core.Path.{ap, ◌∙◌}
use native.Mathlib.Omega.{arith}
use lib.ListN.{length}
use Rattle.numbers.specs.Outcome.{bind}
use Rattle.pruning.specs.Candidates.{view}
use Rattle.extrema.specs.Errors.{curve_of}
use Rattle.extrema.specs.Batches.{marked}
use Rattle.extrema.specs.Candidates.{candidates_for}
use Rattle.extrema.proofs.BatchStages.{both_are, stage_again}
use borrow.Author.Rules.{rules}
use Rattle.extrema.proofs.add_each.Goals.{in-Ok+in_default-settle_all, in_default}
use Rattle.extrema.proofs.add_each.Goals as goal

pub returns-in-Ok-settle_all : goal.returns-in-Ok-settle_all
returns-in-Ok-settle_all g c place finds =
    let b = c.put_each.ensures.swept place marked finds (λ p w w' n r h room e. search rules) in
    both_are (curve_of c.args.curve) place (λ v l. bind (place v) (λ p. candidates_for (curve_of c.args.curve) p l))
    (λ v p e. omega (arith, finds.short v p e, c.requires.most))
    (λ v p l e. ap (λ o. bind o (λ p. candidates_for (curve_of c.args.curve) p l)) e)
    c.args.list.now b c.in-Ok.is c.settle_all.ensures c.in-Ok-settle_all.is

pub returns : goal.returns
returns g c place finds =
    let b = c.put_each.ensures.swept place marked finds (λ p w w' n r h room e. search rules) in
    let a = (c.put_each-2.ensures.swept place (candidates_for (curve_of c.args.curve)) finds (λ p w w' n r h room e. search rules)).stage in
    elim c.match-put_each.branch [
      | in-Ok+in_default-settle_all w ↦
          let t = w.settle_all.ensures in
          stage_again (ap (λ z. view z c.args.start) w.words-is ∙ t.front ∙ b.front) (ap length w.words-is ∙ t.long ∙ b.stage.long) a
      | in_default w ↦ stage_again (ap (λ z. view z c.args.start) w.words-is ∙ b.front) (ap length w.words-is ∙ b.stage.long) a
    ]
