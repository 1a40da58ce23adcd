-- What is said of a step that is not refused: it leaves a job, with one exchange more.
use Rattle.std.specs.Prelude.{◌+◌, ◌≡◌, List, length}
use Rattle.numbers.specs.Outcome.{gave}
use Rattle.pruning.specs.declared.candidates.Candidate.{Candidate}
use Rattle.fields.specs.declared.held.Fields.{Fields}
use Rattle.fields.specs.Interpolant.{Interpolation, padded}
use Rattle.fields.specs.Accept.{accept_of}
use Rattle.fields.specs.Request.{points_of}
use Rattle.fields.specs.Facts.{AcceptedFacts}
use Rattle.exchange.specs.Exchange.{falling_of}
use Rattle.exchange.specs.Job.{held, standing_by, job_for}

-- `kept` are the candidates that pruning has kept: their places are the next points
pub record Left (j next : Fields) : Type 0 where
  pub request : next.request ≡ j.request
  pub made : next.made ≡ j.made + 1
  pub kept : List Candidate
  pub many : length kept ≡ points_of j.request
  pub points : next.points ≡ padded (falling_of kept)
  pub interpolation : Interpolation
  pub accepted : accept_of next ≡ gave interpolation
  pub facts : AcceptedFacts next interpolation
  pub job : job_for (held next (standing_by next)) ≡ gave interpolation
