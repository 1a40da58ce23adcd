-- `pruning::candidates::insert_at` meets its contract. Assumes nothing.
use Prim.Native.Nat.{◌+◌, ◌-◌}
use mathlib.Core.Path.{◌≡◌, ap, sym, ◌∙◌}
use native.Mathlib.Omega.{arith}
use Rattle.pruning.specs.Candidates.{put_raw}
use Rattle.pruning.proofs.SortLaws.{move_start, move_next, move_end}
use Rattle.pruning.proofs.candidates.insert_at.Goals as goal

pub loop-k-init : goal.loop-k-init
loop-k-init c = move_start c.args.words.now c.args.i c.requires.inside _

pub loop-k-preserved : goal.loop-k-preserved
loop-k-preserved c =
    let k = c.loop-k.k in
    let z : k - 1 + 1 ≡ k = omega arith in
    let t = rw (c.of_word-x.ensures, c.of_word.ensures) at c.if-x-of_word.true in
    rw (c.put_raw.ensures, z)
    (move_next c.args.words.now c.args.i c.requires.inside _ c.loop-k.invariant c.loop-k-test.true c.raw_at-p.ensures t)

pub returns-else-x-of_word : goal.returns-else-x-of_word
returns-else-x-of_word c =
    let k = c.loop-k.k in
    let z : k - 1 + 1 ≡ k = omega arith in
    rw (c.put_raw-else-x-of_word.ensures, z)
    (move_end c.args.words.now c.args.i c.requires.inside _ c.loop-k.invariant c.requires.ordered c.raw_at-c.ensures
    (λ h. rw (c.of_word-x.ensures, c.of_word.ensures, c.raw_at-p.ensures) at c.if-x-of_word.false))

pub returns : goal.returns
returns c =
    let z : c.loop-k.k ≡ 0 = omega arith in
    rw c.put_raw-2.ensures
    (ap (λ k. put_raw c.loop-k.words k c.raw_at-c.result) (sym z)
    ∙ move_end c.args.words.now c.args.i c.requires.inside _ c.loop-k.invariant c.requires.ordered c.raw_at-c.ensures
    (λ h. absurd (omega arith)))
