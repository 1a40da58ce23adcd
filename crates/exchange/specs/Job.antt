-- A job: its fields, and where it stands. It is one exactly when restoring would accept those fields and the state agrees; else 4.
use Rattle.std.specs.Prelude.{Result, Ok, Err}
use Rattle.numbers.specs.declared.Refusal.{Refusal}
use Rattle.std.specs.Prelude.{ℕ, ◌≡◌, Bool, not, ◌&&◌, cond, leb, take}
use Rattle.numbers.specs.Outcome.{Outcome, refused, gave, bind, unless}
use Rattle.numbers.specs.Refusals.{refusal_number, verdict_of}
use Rattle.fields.specs.declared.request.Request.{Request}
use Rattle.fields.specs.declared.held.Fields.{Fields}
use Rattle.fields.specs.declared.interpolant.Interpolant.{Interpolant}
use Rattle.fields.specs.Interpolant.{Interpolation, places, interpolation}
use Rattle.fields.specs.Accept.{accept_of, finished, opening}
use Rattle.exchange.specs.declared.job.State.{State}
use Rattle.exchange.specs.declared.job.State.TheVariants as state
use Rattle.exchange.specs.declared.job.Job.{Job}

-- a failed job has the number of its refusal
pub data Standing : Type 0 where
  running : Standing
  done : Standing
  failed : ℕ → Standing

abbrev pub standing_of : State → Standing
standing_of state.Running = running
standing_of state.Finished = done
standing_of (state.Failed q) = failed (refusal_number q)

-- a job as the definitions have it
pub record Held : Type 0 where
  pub fields : Fields
  pub standing : Standing

abbrev pub held : Fields → Standing → Held
held f s = record { fields = f; standing = s }

abbrev pub held_of : Job → Held
held_of j = held j.fields (standing_of j.state)

-- finished or running
abbrev pub standing_by : Fields → Standing
standing_by f = cond (finished f) done running

-- finished as the fields say; otherwise running, or failed with 9 to 13
abbrev pub agrees : Fields → Standing → Bool
agrees f running = not (finished f)
agrees f done = finished f
agrees f (failed n) = not (finished f) && (leb 9 n && leb n 13)

abbrev pub four : {A : Type 0} → Outcome A → Outcome A
four (refused n) = refused 4
four (gave a) = gave a

unfoldable pub job_for : Held → Outcome Interpolation
job_for j = bind (four (accept_of j.fields)) (λ i. unless (agrees j.fields j.standing) 4 (gave i))

-- what the fields give, from arrays
abbrev pub interpolation_in : Interpolant → Interpolation
interpolation_in i =
    interpolation (places (take i.count i.freqs) (take i.count i.points)) (take i.count i.weights) (take i.count i.abscissas) i.delta

-- opening: the job before its first exchange, finished where none is allowed
abbrev pub opened_of : Request → Held
opened_of r = held (opening r) (standing_by (opening r))

-- a job that is answered
abbrev pub held_in : Result Job Refusal → Outcome Held
held_in (Ok j) = gave (held_of j)
held_in (Err q) = refused (refusal_number q)

-- The contract of resuming: the job that fields make, running or finished as they say, where they are accepted.
pub record Resuming (f : Fields) (r : Result Job Refusal) : Type 0 where
  pub is : held_in r ≡ bind (accept_of f) (λ _. gave (held f (standing_by f)))

-- The contract of opening: that job, where it is accepted: 5 to 9.
pub record Opening (q : Request) (r : Result Job Refusal) : Type 0 where
  pub is : held_in r ≡ bind (accept_of (opening q)) (λ _. gave (opened_of q))

-- The contract of a check: taken exactly where it is a job, else 4.
abbrev pub Checked : Held → Result Unit Refusal → Type 0
Checked j v = verdict_of v (tt {0}) ≡ bind (job_for j) (λ _. gave tt)
