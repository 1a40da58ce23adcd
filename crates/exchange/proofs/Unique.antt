-- No second answer fits the contracts of opening, the step and the finished design: a state is settled by where the job stands, as a
-- refusal is by its number. Assumes nothing.
use Rattle.std.specs.Prelude.{Result, Ok, Err}
use Prim.Native.Nat.{ℕ}
use mathlib.Core.Path.{◌≡◌, refl, sym, ap, ◌∙◌}
use mathlib.Core.List.{List}
use native.Mathlib.Omega.{arith}
use lib.Ieee.{Float}
use Rattle.numbers.specs.Outcome.{Outcome}
use Rattle.numbers.specs.declared.Refusal.{Refusal}
use Rattle.numbers.proofs.Given.{gave_same, never_given}
use Rattle.numbers.proofs.Unique.{refusal_unique, verdict_unique, outcome_unique}
use Rattle.fields.specs.declared.request.Request.{Request}
use Rattle.exchange.specs.declared.job.State.{State}
use Rattle.exchange.specs.declared.job.State.TheVariants as state
use Rattle.exchange.specs.declared.job.Job.{Job}
use Rattle.exchange.specs.declared.design.Report.{Report}
use Rattle.exchange.specs.Job.{Held, held_of, held_in, standing_of, Opening}
use Rattle.exchange.specs.Step.{Next, next_of, Step}
use Rattle.exchange.specs.Design.{Design, Designed}

state_unique : (s t : State) → standing_of s ≡ standing_of t → s ≡ t
state_unique state.Running state.Running e = refl
state_unique state.Running state.Finished e = absurd (let z : ◌≡◌ {A = ℕ} 0 1 = cc in omega arith)
state_unique state.Running (state.Failed q) e = absurd (let z : ◌≡◌ {A = ℕ} 0 1 = cc in omega arith)
state_unique state.Finished state.Running e = absurd (let z : ◌≡◌ {A = ℕ} 0 1 = cc in omega arith)
state_unique state.Finished state.Finished e = refl
state_unique state.Finished (state.Failed q) e = absurd (let z : ◌≡◌ {A = ℕ} 0 1 = cc in omega arith)
state_unique (state.Failed p) state.Running e = absurd (let z : ◌≡◌ {A = ℕ} 0 1 = cc in omega arith)
state_unique (state.Failed p) state.Finished e = absurd (let z : ◌≡◌ {A = ℕ} 0 1 = cc in omega arith)
state_unique (state.Failed p) (state.Failed q) e = ap state.Failed (refusal_unique p q (cc))

pub job_unique : (a b : Job) → held_of a ≡ held_of b → a ≡ b
job_unique a b e =
    let s = state_unique a.state b.state (ap (λ (h : Held). h.standing) e) in
    (λ i. record { fields = (e i).fields; state = s i })

held_unique : (a b : Result Job Refusal) → held_in a ≡ held_in b → a ≡ b
held_unique (Ok a) (Ok b) e = ap Ok (job_unique a b (gave_same e))
held_unique (Ok a) (Err q) e = absurd (never_given (sym e))
held_unique (Err p) (Ok b) e = absurd (never_given e)
held_unique (Err p) (Err q) e = ap Err (refusal_unique p q (cc))

pub opening_unique : {r : Request} {a b : Result Job Refusal} → Opening r a → Opening r b → a ≡ b
opening_unique {r} {a} {b} s t = held_unique a b (s.is ∙ sym t.is)

pub step_unique : {j : Held} {m n : Job} {a b : Result Unit Refusal} {w u v : List ℕ} → Step j m a w u → Step j n b w v → (m ≡ n) × (a ≡ b) × (u ≡ v)
step_unique {j} {m} {n} {a} {b} {w} {u} {v} s t =
    let e : next_of m a ≡ next_of n b = s.is ∙ sym t.is in
    (job_unique m n (ap (λ (n : Next). n.job) e), verdict_unique a b (tt {0}) (tt {0}) (ap (λ (n : Next). n.answer) e), s.words ∙ sym t.words)

pub designed_unique : {o : Outcome Design} {a b : Result Report Refusal} {t t' t'' f f' f'' : List Float} → Designed o a t t' f f' → Designed o b t t'' f f'' → (a ≡ b) × (t' ≡ t'') × (f' ≡ f'')
designed_unique {o} {a} {b} x y = (outcome_unique a b (x.is ∙ sym y.is), x.taps ∙ sym y.taps, x.freqs ∙ sym y.freqs)
