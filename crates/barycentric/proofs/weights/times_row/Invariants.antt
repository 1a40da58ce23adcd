use lib.ListN.{get_or}
use lib.Ieee.{nan, binary64, of_bits}
use Rattle.numbers.specs.Operations.{◌⊖◌, ◌⊗◌}
use Rattle.barycentric.proofs.LaneLaws.{Passing}
use Rattle.barycentric.proofs.weights.times_row.Given as goal

abbrev pub invariant-loop-k : goal.invariant-loop-k
invariant-loop-k l = Passing (λ k s. s ⊗ ((get_or l.x k nan ⊖ get_or l.x l.j nan) ⊗ of_bits binary64 0x4000_0000_0000_0000)) l.initial.p l.k l.p
