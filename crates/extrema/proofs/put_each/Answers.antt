-- `extrema::put_each` meets its contract. Assumes nothing.
use mathlib.Core.Path.{refl, ◌∙◌}
use native.Mathlib.Omega.{arith}
use native.Mathlib.Nat.{mul-suc}
use lib.ListN.{length}
use Rattle.std.proofs.lemmas.Result.{err_from_is_err_and}
use Rattle.numbers.proofs.OutcomeLaws.{sweeps_stop, sweeps_end, bind_stop}
use Rattle.extrema.proofs.StageLaws.{turn_next, turn_stop}
use Rattle.extrema.proofs.BatchStages.{behind_of, behind_stop, front_stays, found_next, turn_fits, turn_within}
use Rattle.extrema.proofs.put_each.Goals as goal

pub returns-in_err-k-clause-swept : goal.returns-in_err-k-clause-swept
returns-in_err-k-clause-swept g c place f finds puts =
    let l = c.loop-v in
    let s = l.invariant.swept place f finds puts in
    let p = err_from_is_err_and c.from_residual.result c.from_residual.ensures.1 in
    let e = finds.is _ _ _ _ l.invariant.room c.in_err-k.ensures in
    rw (p.1, p.2) (behind_stop (sweeps_stop _ s.1 c.loop-v-test.true (bind_stop _ e)) s.0 l.invariant.long)

pub returns-in_err-n-clause-swept : goal.returns-in_err-n-clause-swept
returns-in_err-n-clause-swept g c place f finds puts =
    let l = c.loop-v in
    let t = l.invariant in
    let s = t.swept place f finds puts in
    let p = err_from_is_err_and c.from_residual-in_err-n.result c.from_residual-in_err-n.ensures.1 in
    let few = c.requires.finds.most _ _ _ _ t.room c.in_ok-k.ensures in
    let fit = turn_fits g.row.MOST l.n c.args.start l.v-index (length c.args.list.now) c.in_ok-k.k c.find.new.arg3 _ _ t.most c.loop-v-test.true c.requires.room t.long (c.find.auto.arg3 ∙ t.room) few in
    let a = found_next g.row.MOST f (finds.is _ _ _ _ t.room c.in_ok-k.ensures) fit.0 (puts _ _ _ _ _ fit.0 fit.1 c.put.ensures) in
    rw (p.1, p.2)
    (behind_stop (turn_stop _ _ refl c.loop-v-test.true s.1 a.stage c.in_err-n.was) (front_stays _ _ _ t.least s.0 a.front) (a.stage.long ∙ t.long))

pub put-requires : goal.put-requires
put-requires g c =
    let l = c.loop-v in
    let t = l.invariant in
    let few = c.requires.finds.most _ _ _ _ t.room c.in_ok-k.ensures in
    let fit = turn_fits g.row.MOST l.n c.args.start l.v-index (length c.args.list.now) c.in_ok-k.k c.find.new.arg3 _ _ t.most c.loop-v-test.true c.requires.room t.long (c.find.auto.arg3 ∙ t.room) few in
    c.requires.puts.takes _ _ _ fit.0 fit.1

pub loop-v-preserved : goal.loop-v-preserved
loop-v-preserved g c =
    let l = c.loop-v in
    let t = l.invariant in
    let few = c.requires.finds.most _ _ _ _ t.room c.in_ok-k.ensures in
    let fit = turn_fits g.row.MOST l.n c.args.start l.v-index (length c.args.list.now) c.in_ok-k.k c.find.new.arg3 _ _ t.most c.loop-v-test.true c.requires.room t.long (c.find.auto.arg3 ∙ t.room) few in
    let more = c.requires.puts.most _ _ _ _ _ fit.0 fit.1 c.in_ok-n.ensures in
    record {
      within = omega arith;
      least = omega (arith, t.least, c.requires.puts.least _ _ _ _ _ fit.0 fit.1 c.in_ok-n.ensures);
      most = omega (arith, t.most, more, fit.0, mul-suc g.row.MOST l.v-index);
      room = c.find.auto.arg3 ∙ t.room;
      long = c.put.auto.arg3 ∙ t.long;
      swept = λ place f finds puts.
          let s = t.swept place f finds puts in
          let a = found_next g.row.MOST f (finds.is _ _ _ _ t.room c.in_ok-k.ensures) fit.0 (puts _ _ _ _ _ fit.0 fit.1 c.put.ensures) in
          (front_stays _ _ _ t.least s.0 a.front, turn_next _ _ refl c.loop-v-test.true s.1 a.stage c.in_ok-n.was);
    }

pub returns-clause-swept : goal.returns-clause-swept
returns-clause-swept g c place f finds puts =
    let k = c.loop-v in
    let s = k.invariant.swept place f finds puts in
    let m = turn_within g.row.MOST k.n c.args.start k.v-index (length c.args.list.now) k.invariant.most k.invariant.within in
    behind_of (sweeps_end s.1 (omega arith)) k.invariant.least m s.0 k.invariant.long
