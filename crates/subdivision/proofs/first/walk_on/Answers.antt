-- `subdivision::first::walk_on` meets its contract. Assumes nothing.
use Prim.Native.Nat.{◌-◌}
use mathlib.Core.Path.{◌≡◌}
use native.Mathlib.Omega.{arith}
use borrow.Author.Rules.{rules}
use Rattle.subdivision.proofs.WalkLaws.{walk_stop, walk_next, walk_last}
use Rattle.subdivision.proofs.first.walk_on.Goals as goal

pub returns-then-s-consumed : goal.returns-then-s-consumed
returns-then-s-consumed c =
    walk_stop c.loop-band.invariant (rw (← c.length_of-band_length.ensures) c.if-s-consumed.true)

pub loop-band-preserved : goal.loop-band-preserved
loop-band-preserved c =
    rw c.length_of-band_length.ensures (walk_next c.loop-band.invariant (search rules) (rw (← c.length_of-band_length.ensures) c.if-s-consumed.false))

pub returns : goal.returns
returns c =
    let z : c.args.bands.count - 1 ≡ c.loop-band.band = omega arith in
    rw z (walk_last c.loop-band.invariant c.loop-band-test.false)
