use lib.ListN.{length, get_or}
use lib.Ieee.{nan}
use Rattle.numbers.proofs.LoopLaws.{Seeking}
use Rattle.barycentric.specs.Delta.{quotient}
use Rattle.barycentric.specs.Response.{is_node, response_step, response_of}
use Rattle.barycentric.proofs.response.Points.response.Given as goal

abbrev pub invariant-loop-i : goal.invariant-loop-i
invariant-loop-i l = Seeking (is_node l.x0 l.self.x.now) (λ i. get_or l.self.yk.now i nan) (response_step l.x0 l.self.x.now l.self.wk.now l.self.yk.now) quotient (length l.self.x.now) l.i l.s (response_of l.x0 l.self.x.now l.self.wk.now l.self.yk.now)
