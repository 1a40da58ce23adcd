-- A row put into a blank one entry by entry, and what is left in a lent matrix. Assumes nothing.
use Rattle.std.specs.Prelude.{Result, Err}
use Prim.Native.Nat.{ℕ, ◌+◌, ◌<◌}
use mathlib.Core.Path.{◌≡◌, refl, sym, ap, ◌∙◌}
use mathlib.Core.List.{List, []}
use native.Mathlib.Omega.{arith}
use lib.ListN.{length, get_or, set, replicate, length-set, get_or-replicate}
use lib.Seq.{set-set, set-get_or, get_or-set_same, get_or-set_other}
use lib.Ieee.{Float}
use Rattle.numbers.specs.Floats.{zero64}
use Rattle.numbers.specs.Outcome.{Outcome, refused, gave, bind}
use Rattle.numbers.specs.Refusals.{refusal_number}
use Rattle.numbers.specs.declared.Refusal.{Refusal}
use Rattle.numbers.proofs.Given.{never_given}
use Rattle.colleague.specs.declared.Colleague.{Colleague}
use Rattle.colleague.specs.Matrix.{Matrix, put, zeros}
use Rattle.colleague.specs.Lent.{Lent, Blank}

-- ---- row j of z, entry by entry
module _ (z : Matrix) (j : ℕ) (h : j < length z) where
  pub row_put : (a : Matrix) (r : List Float) (k : ℕ) (v : Float) → a ≡ set z j r → put a j k v ≡ set z j (set r k v)
  row_put a r k v e = rw (e, get_or-set_same z j r [] h, set-set z j r (set r k v))

pub row_own : (z : Matrix) (j : ℕ) (r : List Float) → get_or z j [] ≡ r → z ≡ set z j r
row_own z j r e = sym (set-get_or z j []) ∙ ap (λ (x : List Float). set z j x) e

-- ---- blank rows
pub zeros-blank : Blank 0 zeros
zeros-blank = record { long = refl; rest = λ k l h. get_or-replicate 15 k (replicate 15 zero64) [] h }

pub blank_next : (j : ℕ) (a : Matrix) (r : List Float) → Blank j a → Blank (j + 1) (set a j r)
blank_next j a r b =
    record {
      long = length-set a j r ∙ b.long;
      rest = λ k l h. get_or-set_other a j k r [] (λ e. omega arith) ∙ b.rest k (omega arith) h;
    }

-- ---- what is left in the lent matrix
pub lent_refused : {o : Outcome Colleague} {r : Result ℕ Refusal} {a : Matrix} {q : Refusal} → Lent o r a → r ≡ Err q → refused (refusal_number q) ≡ o
lent_refused {o} {r} {a} {q} l e = pick o (rw e at l.is)
  where
    pick : (o : Outcome Colleague) → ◌≡◌ {A = Outcome ℕ} (refused (refusal_number q)) (bind o (λ m. gave m.size)) → refused (refusal_number q) ≡ o
    pick (refused n) f = let z : refusal_number q ≡ n = cc in ap refused z
    pick (gave m) f = absurd (never_given f)
