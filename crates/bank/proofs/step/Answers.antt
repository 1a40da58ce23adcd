-- `bank::step` meets its contract. Assumes nothing.
use mathlib.Core.Path.{◌≡◌, sym, ap, ◌∙◌}
use Prim.Native.Nat.{ℕ, ◌≤◌}
use mathlib.Core.List.{List, [], ◌++◌}
use borrow.Author.Rules.{rules}
use native.Mathlib.Omega.{arith}
use lib.ListN.{length, length-append, take, drop, replicate}
use lib.Seq.{length-take-le}
use Rattle.std.proofs.lemmas.Result.{err_from_is_err_and}
use Rattle.bank.specs.Calls.{Call}
use Rattle.bank.proofs.Ending.{ends_refused, ends_done, wiped_again}
use Rattle.bank.proofs.step.Goals as goal

pub returns-in_err-at : goal.returns-in_err-at
returns-in_err-at c = let p = err_from_is_err_and c.from_residual.result c.from_residual.ensures.1 in rw (p.1, p.2) (ends_refused Call.step _ _ _ _ _ c.in_err-at.ensures.value c.gate.ensures.scratch_after)

-- the lent front of the scratch comes back as long as it was
front_length : (w s : List ℕ) → length w ≡ length (take 8192 s) → 8192 ≤ length s → length w ≡ 8192
front_length w s e h = e ∙ length-take-le 8192 s h

pub slice_bounds-step_slot-end-3 : goal.slice_bounds-step_slot-end-3
slice_bounds-step_slot-end-3 c = sym (length-take-le 8192 c.gate.new.scratch (omega (arith, c.in_ok-at.ensures.at.spare, c.gate.auto)))

pub step_slot-answer-requires : goal.step_slot-answer-requires
step_slot-answer-requires c = (search rules, length-take-le 8192 c.gate.new.scratch (omega (arith, c.in_ok-at.ensures.at.spare, c.gate.auto)))

pub clean-requires : goal.clean-requires
clean-requires c =
    let k = front_length _ c.gate.new.scratch c.step_slot-answer.auto.scratch (omega (arith, c.in_ok-at.ensures.at.spare, c.gate.auto)) in
    simp length-append (omega (arith, k))

pub returns : goal.returns
returns c =
    let s = c.gate.new.scratch in
    let d = c.step_slot-answer in
    let k = front_length _ s d.auto.scratch (omega (arith, c.in_ok-at.ensures.at.spare, c.gate.auto)) in
    ends_done Call.step _ _ _ _ _ _ _ [] [] [] c.in_ok-at.ensures.value
    (c.clean.ensures ∙ wiped_again _ s d.new.scratch _ c.in_ok-at.ensures.value c.gate.ensures.scratch_after k)
    c.in_ok-at.ensures.at.at d.ensures
