use lib.ListN.{length, get_or}
use lib.Ieee.{nan}
use Rattle.numbers.proofs.LoopLaws.{Seeking}
use Rattle.barycentric.specs.Response.{is_node}
use Rattle.barycentric.specs.Lanes.{node_or}
use Rattle.barycentric.proofs.response.Points.node_or.Given as goal

abbrev pub invariant-loop-i : goal.invariant-loop-i
invariant-loop-i l = Seeking (is_node l.x0 l.self.x.now) (λ i. get_or l.self.yk.now i nan) (λ i s. s) (λ s. s) (length l.self.x.now) l.i l.q (node_or l.x0 l.self.x.now l.self.yk.now l.q)
