use Rattle.numbers.specs.Operations.{◌⊕◌}
use Rattle.numbers.proofs.LoopLaws.{Going}
use Rattle.subdivision.specs.First.{band_of, length_of, total_length}
use Rattle.subdivision.proofs.first.total_length.Given as goal

abbrev pub invariant-loop-b : goal.invariant-loop-b
invariant-loop-b l = Going (λ i t. t ⊕ length_of (band_of l.fn.bands i)) l.fn.bands.count l.b-index l.total (total_length l.fn.bands)
