-- `bank::read` meets its contract. Assumes nothing.
use borrow.Author.Rules.{rules}
use borrow.Author.Tests.{leb-true}
use lib.Dec.{leb}
use lib.ListN.{length}
use mathlib.Core.Bool.{true, ◌&&◌}
use mathlib.Core.Path.{◌≡◌}
use mathlib.Core.List.{[]}
use Rattle.std.proofs.lemmas.Result.{err_from_is_err_and}
use Rattle.numbers.proofs.Order.{and_1, and_2}
use Rattle.bank.specs.Calls.{Call}
use Rattle.bank.proofs.Ending.{ends_refused, ends_looked}
use Rattle.bank.proofs.read.Goals as goal

pub returns-in_err-at : goal.returns-in_err-at
returns-in_err-at c = let p = err_from_is_err_and c.from_residual.result c.from_residual.ensures.1 in rw (p.1, p.2) (ends_refused (Call.read _ _) _ _ _ _ _ (rw c.has_room.ensures at (c.in_err-at.ensures.value)) (rw c.has_room.ensures at (c.gate.ensures.scratch_after)))

pub read_slot-requires : goal.read_slot-requires
read_slot-requires c =
    let long = leb 128 (length c.args.taps.now) in
    let wide = leb 65 (length c.args.freqs.now) in
    let r : (long && wide) ≡ true = rw c.has_room.ensures at c.in_ok-at.ensures.at.fits in
    (search rules, leb-true 128 _ (and_1 long wide r), leb-true 65 _ (and_2 long wide r))

pub returns : goal.returns
returns c =
    ends_looked (Call.read _ _) _ _ _ _ _ _ _ _ [] (rw c.has_room.ensures at (c.in_ok-at.ensures.value)) (rw c.has_room.ensures at (c.gate.ensures.scratch_after))
    c.in_ok-at.ensures.at.at c.read_slot.ensures
