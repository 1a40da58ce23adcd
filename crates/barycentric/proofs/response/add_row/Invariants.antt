use lib.ListN.{get_or}
use lib.Ieee.{nan}
use Rattle.numbers.specs.Operations.{◌⊕◌, ◌⊖◌, ◌⊗◌, ◌⊘◌}
use Rattle.barycentric.proofs.LaneLaws.{Passing}
use Rattle.barycentric.proofs.response.add_row.Given as goal

abbrev pub invariant-loop-k : goal.invariant-loop-k
invariant-loop-k l = Passing (λ k s. s ⊕ l.w ⊘ (get_or l.places k nan ⊖ l.x) ⊗ l.y) l.initial.numer l.k l.numer × Passing (λ k s. s ⊕ l.w ⊘ (get_or l.places k nan ⊖ l.x)) l.initial.denom l.k l.denom
