-- `extrema::collect` meets its contract. Assumes nothing.
use Prim.Native.Nat.{◌+◌, ◌*◌, ◌/◌, ◌≤◌}
use mathlib.Core.Path.{◌∙◌}
use native.Mathlib.Omega.{arith}
use lib.ListN.{length}
use Rattle.std.proofs.lemmas.Result.{err_from_is_err_and}
use Rattle.numbers.proofs.OutcomeLaws.{bind_stop}
use Rattle.numbers.specs.Outcome.{sweep}
use Rattle.extrema.specs.Errors.{curve_of}
use Rattle.extrema.specs.Candidates.{Stage}
use Rattle.extrema.specs.Proxy.{ends_of}
use Rattle.extrema.proofs.ProxyLaws.{sweep-inside}
use Rattle.extrema.proofs.StageLaws.{stage_is, stage_refused, stage_most}
use Rattle.extrema.proofs.ExtremaLaws.{collected_is, inside_refused, ends_refused}
use Rattle.extrema.proofs.BatchStages.{ends_few, places_few}
use borrow.Author.Rules.{rules}
use Rattle.extrema.proofs.collect.Goals as goal

pub returns-in_err-k : goal.returns-in_err-k
returns-in_err-k c =
    let g = c.args in
    let cv = curve_of g.curve in
    let vs = g.list.now in
    let e : Stage (2 * length vs) (sweep (ends_of cv) vs) 0 c.add_each.result g.words.now c.add_each.new.words = c.add_each.ensures _ (record { is = λ v w w' r h e. search rules; short = ends_few }) in
    let p = err_from_is_err_and c.from_residual.result c.from_residual.ensures.1 in
    rw (p.1, p.2) (bind_stop _ (bind_stop _ (ends_refused cv g.nodes.now vs (stage_refused e c.in_err-k.was))))

pub add_each-requires-2-clause-room : goal.add_each-requires-2-clause-room
add_each-requires-2-clause-room c =
    let g = c.args in
    let cv = curve_of g.curve in
    let vs = g.list.now in
    let e : Stage (2 * length vs) (sweep (ends_of cv) vs) 0 c.add_each.result g.words.now c.add_each.new.words = c.add_each.ensures _ (record { is = λ v w w' r h e. search rules; short = ends_few }) in
    let r : 15 * length vs + c.in_ok-k.k ≤ length c.add_each.new.words / 2 = omega (arith, stage_most e c.in_ok-k.was, e.long) in
    omega (arith, r)

pub returns-in_err-m : goal.returns-in_err-m
returns-in_err-m c =
    let g = c.args in
    let cv = curve_of g.curve in
    let vs = g.list.now in
    let e : Stage (2 * length vs) (sweep (ends_of cv) vs) 0 c.add_each.result g.words.now c.add_each.new.words = c.add_each.ensures _ (record { is = λ v w w' r h e. search rules; short = ends_few }) in
    let i = c.add_each-2.ensures _ (record { is = λ v w w' r h e. search rules; short = places_few cv g.nodes.now }) in
    let p = err_from_is_err_and c.from_residual-in_err-m.result c.from_residual-in_err-m.ensures.1 in
    rw (p.1, p.2) (bind_stop _ (bind_stop _ (inside_refused cv g.nodes.now vs _ (stage_is e c.in_ok-k.was) (stage_refused i c.in_err-m.was ∙ sweep-inside cv g.nodes.now vs _))))

pub prune_to-requires : goal.prune_to-requires
prune_to-requires c =
    let g = c.args in
    let cv = curve_of g.curve in
    let vs = g.list.now in
    let e : Stage (2 * length vs) (sweep (ends_of cv) vs) 0 c.add_each.result g.words.now c.add_each.new.words = c.add_each.ensures _ (record { is = λ v w w' r h e. search rules; short = ends_few }) in
    let i = c.add_each-2.ensures _ (record { is = λ v w w' r h e. search rules; short = places_few cv g.nodes.now }) in
    let a = stage_most e c.in_ok-k.was in
    let b : c.in_ok-m.m ≤ c.in_ok-k.k + 15 * length vs = stage_most i c.in_ok-m.was in
    (omega (arith, a, b, e.long, i.long), omega (arith, a, b), omega arith)

pub returns : goal.returns
returns c =
    let g = c.args in
    let cv = curve_of g.curve in
    let vs = g.list.now in
    let e : Stage (2 * length vs) (sweep (ends_of cv) vs) 0 c.add_each.result g.words.now c.add_each.new.words = c.add_each.ensures _ (record { is = λ v w w' r h e. search rules; short = ends_few }) in
    let i = c.add_each-2.ensures _ (record { is = λ v w w' r h e. search rules; short = places_few cv g.nodes.now }) in
    let z = collected_is cv g.nodes.now vs _ (stage_is e c.in_ok-k.was) (stage_is i c.in_ok-m.was ∙ sweep-inside cv g.nodes.now vs _) in
    rw (← z) c.prune_to.ensures
