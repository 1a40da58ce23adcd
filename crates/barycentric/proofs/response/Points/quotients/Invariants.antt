use lib.ListN.{get_or}
use lib.Ieee.{nan}
use Rattle.numbers.specs.Operations.{◌⊘◌}
use Rattle.barycentric.specs.Lanes.{settle}
use Rattle.barycentric.proofs.LaneLaws.{Passing}
use Rattle.barycentric.proofs.response.Points.quotients.Given as goal

abbrev pub invariant-loop-k : goal.invariant-loop-k
invariant-loop-k l = Passing (λ k s. settle (get_or l.places k nan) l.self.x.now l.self.yk.now (s ⊘ get_or l.denom k nan)) l.initial.numer l.k l.numer
