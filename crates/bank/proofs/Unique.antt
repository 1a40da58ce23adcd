-- No second answer fits a call's contract: what is told settles the answer, and bank, scratch and outputs are equations. Assumes nothing.
use Rattle.std.specs.Prelude.{Result, Ok, Err}
use Prim.Native.Nat.{ℕ, ◌≤◌}
use mathlib.Core.Path.{◌≡◌, refl, sym, ap, ◌∙◌}
use mathlib.Core.List.{List}
use native.Mathlib.Omega.{arith}
use lib.Ieee.{Float}
use Rattle.numbers.specs.declared.Refusal.{Refusal}
use Rattle.numbers.specs.declared.Refusal.TheVariants as why
use Rattle.numbers.specs.Refusals.{refusal_number}
use Rattle.numbers.proofs.Unique.{refusal_unique}
use Rattle.bank.specs.Calls.{Told, told_by, tell_done, tell_design, tell_bytes}
use Rattle.bank.specs.Bank.{Done, Ends}

-- no refusal has the number 0
pub not_zero : (q : Refusal) → 1 ≤ refusal_number q
not_zero why.Room = omega arith
not_zero why.Slot = omega arith
not_zero why.State = omega arith
not_zero why.Words = omega arith
not_zero why.Request = omega arith
not_zero why.Bands = omega arith
not_zero why.Response = omega arith
not_zero why.Edges = omega arith
not_zero why.NotFinite = omega arith
not_zero why.Derivative = omega arith
not_zero why.Balancing = omega arith
not_zero why.Roots = omega arith
not_zero why.Extrema = omega arith
not_zero why.Layout = omega arith
not_zero why.Lists = omega arith

-- what is told of calls that did their work is told of no other, and with the number 0
pub record Tells {A : Type 0} (f : A → Told) : Type 0 where
  pub number : (a : A) → (f a).number ≡ 0
  pub same : (a b : A) → f a ≡ f b → a ≡ b

pub tells_done : Tells tell_done
tells_done = record { number = λ a. refl; same = λ a b e. refl }

pub tells_design : Tells tell_design
tells_design =
    record { number = λ a. refl; same = λ a b e. (λ i. record { error = (e i).error; flatness = (e i).flatness; iterations = (e i).iterations }) }

pub tells_bytes : Tells tell_bytes
tells_bytes = record { number = λ a. refl; same = λ a b e. ap (λ (t : Told). t.count) e }

pub answer_unique : {A : Type 0} (f : A → Told) → Tells f → (a b : Result A Refusal) → told_by f a ≡ told_by f b → a ≡ b
answer_unique f t (Ok a) (Ok b) e = ap Ok (t.same a b e)
answer_unique f t (Ok a) (Err q) e = absurd (let k = not_zero q in let z : 0 ≡ refusal_number q = rw (t.number a) at (ap (λ (x : Told). x.number) e) in omega arith)
answer_unique f t (Err q) (Ok b) e = absurd (let k = not_zero q in let z : refusal_number q ≡ 0 = rw (t.number b) at (ap (λ (x : Told). x.number) e) in omega arith)
answer_unique f t (Err p) (Err q) e = ap Err (refusal_unique p q (ap (λ (x : Told). x.number) e))

pub ends_unique : {A : Type 0} {f : A → Told} {o : Done} {r r' : Result A Refusal} {b b' s s' bs bs' : List ℕ} {t t' g g' : List Float} → Tells f
    → Ends o (told_by f r) b s t g bs → Ends o (told_by f r') b' s' t' g' bs' → (r ≡ r') × (b ≡ b') × (s ≡ s') × (t ≡ t') × (g ≡ g') × (bs ≡ bs')
ends_unique {A} {f} {o} {r} {r'} u p q =
    (answer_unique f u r r' (p.told ∙ sym q.told), p.bank ∙ sym q.bank, p.scratch ∙ sym q.scratch, p.taps ∙ sym q.taps, p.freqs ∙ sym q.freqs, p.bytes ∙ sym q.bytes)
