-- `fir_types::target::Target::collected` meets its contract. Assumes nothing.
use Prim.Native.Nat.{◌+◌, ◌≤◌, ◌<◌}
use mathlib.Core.Path.{◌≡◌, ◌∙◌}
use mathlib.Core.List.{[]}
use native.Mathlib.Nat.{sub-zero}
use native.Mathlib.Omega.{arith}
use borrow.Author.Rules.{rules}
use lib.ListN.{length, take}
use lib.Seq.{length-take-le, get_or-take}
use Rattle.numbers.proofs.LoopLaws.{next, end}
use Rattle.bands.specs.Lookup.{band_of}
use Rattle.fir_types.specs.Edges.{moved, keep, adjusted}
use Rattle.fir_types.proofs.EdgeLaws.{keeping, keep_count}
use Rattle.fir_types.proofs.target.Target.collected.Goals as goal

pub loop-band-init : goal.loop-band-init
unfolding adjusted
loop-band-init c =
    let t = c.args.self in
    let k : 0 + t.plan.count ≤ 8 = omega (arith, c.requires) in
    rw c.none-edges.ensures
    (omega arith, record { within = omega arith; rest = rw sub-zero (keeping (λ i. moved t.symmetry t.odd (band_of t.plan i)) t.plan.count 0 [] k) })

pub loop-band-preserved : goal.loop-band-preserved
loop-band-preserved c =
    let t = c.args.self in
    let v = c.loop-band.invariant in
    let n : length (take t.plan.count t.plan.bands) ≡ t.plan.count = length-take-le _ _ (search rules) in
    let h : c.loop-band.band-index < t.plan.count = omega arith in
    let k : (keep c.moved.result c.loop-band.edges).count ≤ c.loop-band.edges.count + 1 = keep_count c.moved.result c.loop-band.edges in
    (rw c.keep.ensures (omega (arith, v.0)), next v.1 h (c.keep.ensures ∙ rw (c.moved.ensures, get_or-take _ _ _ _ h)))

pub returns : goal.returns
returns c =
    let t = c.args.self in
    let n : length (take t.plan.count t.plan.bands) ≡ t.plan.count = length-take-le _ _ (search rules) in
    end c.loop-band.invariant.1 (omega arith)
