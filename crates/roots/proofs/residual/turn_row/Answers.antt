-- `roots::residual::turn_row` meets its contract. Assumes nothing.
use mathlib.Core.Path.{◌≡◌, ap, sym, ◌∙◌}
use native.Mathlib.Omega.{arith}
use lib.ListN.{set, length, get_or, length-set}
use lib.Ieee.{nan}
use borrow.Author.Rules.{rules}
use Rattle.numbers.proofs.LoopLaws.{next, end}
use Rattle.numbers.proofs.InPlace.{change_start, zip_length, zip_get, zip_set}
use Rattle.roots.specs.Residual.{turn_on}
use Rattle.roots.specs.Rows.{both, turns, no_turn, turn_of}
use Rattle.roots.proofs.residual.turn_row.Goals as goal

pub loop-k-init : goal.loop-k-init
loop-k-init g c =
    let m : length c.args.n.now ≡ g.row.N = search rules in
    let w : length c.args.v.now ≡ g.row.N = search rules in (
      m,
      w,
      λ q over. change_start (turn_of c.args.j q c.args.first c.args.left c.args.x.now) no_turn _ _ (sym (zip_length both c.args.n.now c.args.v.now (m ∙ sym w) ∙ m)),
    )

pub loop-k-preserved : goal.loop-k-preserved
loop-k-preserved g c =
    let l = c.loop-k in
    let t = c.next_turn-t in (
      simp length-set l.invariant.0,
      simp length-set l.invariant.1,
      λ q over.
          next (l.invariant.2 q over) c.loop-k-test.true
          (zip_set both l.n l.v l.k t.result.n t.result.v
          ∙ ap (set (turns l.n l.v) l.k)
          (t.ensures
          ∙ ap (λ w. turn_on c.args.j w c.args.first c.args.left (get_or c.args.x.now l.k nan) (get_or l.v l.k nan)) (over _ _ c.over.ensures)
          ∙ ap (turn_of c.args.j q c.args.first c.args.left c.args.x.now l.k) (sym (zip_get both l.n l.v l.k nan nan no_turn (omega (arith, l.invariant.0)) (omega (arith, l.invariant.1)))))),
    )

pub returns : goal.returns
returns g c = record { lengths = (c.loop-k.invariant.0, c.loop-k.invariant.1); turned = λ q over. end (c.loop-k.invariant.2 q over) c.loop-k-test.false }
