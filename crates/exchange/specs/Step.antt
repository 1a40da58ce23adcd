-- A step: a job goes in and comes back as the next job.
use Rattle.std.specs.Prelude.{Result, ℕ, ◌≡◌, List, leb, length}
use Rattle.numbers.specs.Outcome.{Outcome, refused, gave, bind, unless}
use Rattle.numbers.specs.Refusals.{verdict_of}
use Rattle.numbers.specs.declared.Refusal.{Refusal}
use Rattle.fields.specs.declared.held.Fields.{Fields}
use Rattle.fields.specs.Interpolant.{Interpolation}
use Rattle.extrema.specs.Extrema.{words_needed, wiped}
use Rattle.exchange.specs.declared.job.Job.{Job}
use Rattle.exchange.specs.Exchange.{exchanged}
use Rattle.exchange.specs.Job.{Standing, running, done, failed, Held, held, held_of, standing_by, job_for}

-- the next job, and what the call answers
pub record Next : Type 0 where
  pub job : Held
  pub answer : Outcome (Unit {0})

-- 3 for a finished job; a failed one gives its number again
abbrev pub ready_by : Standing → Interpolation → Outcome Interpolation
ready_by running i = gave i
ready_by done i = refused 3
ready_by (failed n) i = refused n

-- 1 for too few words, 4 for no job, then 3
unfoldable pub ready_for : Held → ℕ → Outcome Interpolation
ready_for j words = unless (leb words_needed words) 1 (bind (job_for j) (ready_by j.standing))

-- a refused exchange makes the job failed with that number; it keeps what it was before
abbrev pub settled : Held → Outcome Fields → Next
settled j (refused n) = record { job = held j.fields (failed n); answer = refused n }
settled j (gave f) = record { job = held f (standing_by f); answer = gave tt }

-- a call that is refused leaves the job as it was
abbrev pub stepped_by : Held → Outcome Interpolation → Next
stepped_by j (refused n) = record { job = j; answer = refused n }
stepped_by j (gave i) = settled j (exchanged j.fields i)

unfoldable pub step_of : Held → ℕ → Next
step_of j words = stepped_by j (ready_for j words)

-- of the job afterwards and the answer
abbrev pub next_of : Job → Result Unit Refusal → Next
next_of j r = record { job = held_of j; answer = verdict_of r tt }

-- The contract: the next job and the answer; the words that are worked in are zero afterwards, and for 1 untouched.
pub record Step (j : Held) (next : Job) (r : Result Unit Refusal) (w w' : List ℕ) : Type 0 where
  pub is : next_of next r ≡ step_of j (length w)
  pub words : w' ≡ wiped w
