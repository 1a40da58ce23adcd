-- `extrema::batches::settle` meets its contract. Assumes nothing.
use mathlib.Core.Path.{◌≡◌, sym}
use native.Mathlib.Omega.{arith}
use lib.ListN.{length, take, replicate}
use lib.Seq.{length-take-le}
use Rattle.numbers.specs.Floats.{zero64}
use Rattle.extrema.specs.Batches.{place_of}
use Rattle.extrema.proofs.ErrorLaws.{errors_given}
use Rattle.extrema.proofs.BatchStages.{tried_here}
use borrow.Author.Rules.{rules}
use Rattle.extrema.proofs.batches.settle.Goals as goal

pub put_all-requires : goal.put_all-requires
put_all-requires c =
    let g = errors_given _ _ _ (sym c.in_ok-errors.ensures) in
    let l : length c.read_all.new.out ≡ c.args.m = search rules in
    (omega arith, g.long, g.places_are, g.errors_are)

pub returns : goal.returns
returns c =
    let m = c.args.m in
    let l : length c.read_all.new.out ≡ m = search rules in
    let k : length (take m (replicate 64 zero64)) ≡ m = length-take-le _ _ (omega arith) in
    let r = c.read_all.ensures place_of (λ k x e. search rules) in
    tried_here _ _ _ _ _ _ _ (omega arith) (rw k at r) c.in_ok-errors.ensures c.put_all.ensures.0 c.put_all.ensures.1
