use Prim.Native.Nat.{◌≤◌}
use Rattle.numbers.proofs.LoopLaws.{Going}
use Rattle.bands.specs.Lookup.{band_of}
use Rattle.fir_types.specs.Edges.{moved, packed, keep, adjusted}
use Rattle.fir_types.proofs.target.Target.collected.Given as goal

abbrev pub invariant-loop-band : goal.invariant-loop-band
invariant-loop-band l = (l.edges.count ≤ l.band-index)
    × Going (λ i. keep (moved l.fn.self.symmetry l.fn.self.odd (band_of l.fn.self.plan i))) l.fn.self.plan.count l.band-index l.edges (packed (adjusted l.fn.self.plan l.fn.self.symmetry l.fn.self.odd))
