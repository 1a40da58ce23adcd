-- `pruning::errors::prune_finite` meets its contract. Assumes nothing.
use Prim.Native.Nat.{◌≤◌}
use native.Mathlib.Omega.{arith}
use lib.ListN.{length, take}
use lib.Seq.{length-take-le}
use Rattle.numbers.proofs.OutcomeLaws.{fills_none, fills}
use Rattle.pruning.specs.Errors.{negative_at, size_at, places_of, kept_places}
use Rattle.pruning.proofs.PairLaws.{too_few, kept_are}
use Rattle.pruning.proofs.errors.prune_finite.Goals as goal

pub returns-then-m-n : goal.returns-then-m-n
unfolding kept_places
returns-then-m-n c =
    let a = c.args in
    let e = a.errors.now in
    let k = c.keep_runs-m in
    let f : k.result ≤ length k.new.kept = omega arith in
    fills_none (too_few (negative_at e) (size_at e) a.n k.result k.new.kept (places_of e) f k.ensures.1 c.if-m-n.true)

pub returns : goal.returns
unfolding kept_places
returns c =
    let a = c.args in
    let e = a.errors.now in
    let k = c.keep_runs-m in
    let f : k.result ≤ length k.new.kept = omega arith in
    let u = c.cut_to.new.kept in
    fills (take a.n u)
    (kept_are (negative_at e) (size_at e) a.n k.result k.new.kept (places_of e) f k.ensures.1
    c.if-m-n.false
    c.cut_to.ensures)
    (length-take-le a.n u (omega arith))
    (rw (c.copy_from_slice.ensures.after, length-take-le a.n u (omega arith)))
