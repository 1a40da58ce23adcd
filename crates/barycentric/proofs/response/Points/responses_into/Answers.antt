-- `barycentric::response::Points::responses_into` meets its contract. Assumes nothing.
use Rattle.barycentric.proofs.ResponseLanes.{responses_are}
use Rattle.barycentric.proofs.response.Points.responses_into.Goals as goal

pub returns : goal.returns
returns c = responses_are c.sums_into.ensures c.quotients.ensures
