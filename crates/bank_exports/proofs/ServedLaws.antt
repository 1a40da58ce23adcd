-- What a call on the bank tells, as C is told it. Assumes nothing.
use Prim.Native.Nat.{ℕ, ◌≤◌}
use mathlib.Core.Path.{◌≡◌, refl, sym, ap, ◌∙◌}
use mathlib.Core.Bool.{false}
use mathlib.Core.List.{List, [], ◌∷◌}
use native.Mathlib.Omega.{arith}
use borrow.Author.Tests.{ne_eqb}
use lib.Dec.{eqb}
use lib.ListN.{length, set, drop}
use lib.Ieee.{Float}
use Rattle.std.specs.Prelude.{Result, Ok, Err}
use Rattle.numbers.specs.declared.Refusal.{Refusal}
use Rattle.numbers.specs.Refusals.{refusal_number}
use Rattle.exports.specs.Answers.{said}
use Rattle.bank.specs.Calls.{Told, told_by, tell_done}
use Rattle.bank.specs.Bank.{Done, Ends}
use Rattle.bank.proofs.Unique.{not_zero}
use Rattle.bank_exports.specs.Served.{Served}

said_told : (r : Result Unit Refusal) → said r ≡ (told_by tell_done r).number
said_told (Ok tt) = refl
said_told (Err q) = refl

-- a call that tells only whether it did its work
pub served_done : {o : Done} {n : ℕ} (r : Result Unit Refusal) {b s bs : List ℕ} {t f : List Float} → n ≡ said r → Ends o (told_by tell_done r) b s t f bs → Served o n b s t f bs
served_done {o} {n} r e k =
    record { is = e ∙ said_told r ∙ ap (λ (t : Told). t.number) k.told; bank = k.bank; scratch = k.scratch; taps = k.taps; freqs = k.freqs; bytes = k.bytes }

-- one number, or two, in front
pub front_one : {A : Type 0} (l : List A) (x : A) → 1 ≤ length l → set l 0 x ≡ x ∷ drop 1 l
front_one [] x h = absurd (omega arith)
front_one (a ∷ l) x h = refl

pub front_two : {A : Type 0} (l : List A) (x y : A) → 2 ≤ length l → set (set l 0 x) 1 y ≡ x ∷ y ∷ drop 2 l
front_two [] x y h = absurd (omega arith)
front_two (a ∷ []) x y h = absurd (omega arith)
front_two (a ∷ b ∷ l) x y h = refl

-- a refused call tells nothing besides
pub nothing_told : (q : Refusal) → eqb (refusal_number q) 0 ≡ false
nothing_told q = ne_eqb (refusal_number q) 0 (λ z. let k = not_zero q in omega (arith, k, z))
