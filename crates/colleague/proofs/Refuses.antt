-- The matrix of 1 to 16 coefficients is refused with 9, 10 or 11 alone: what holds of these numbers holds of every refusal.
-- Assumes nothing.
use Prim.Native.Nat.{ℕ, zero, suc, ◌-◌, ◌≤◌}
use mathlib.Core.Bool.{Bool, true, false, not, ◌&&◌, cond}
use mathlib.Core.List.{List}
use borrow.Author.Tests.{le-leb}
use lib.Dec.{leb, eqb}
use lib.ListN.{length}
use lib.Ieee.{Float}
use Rattle.numbers.specs.Floats.{all_finite}
use Rattle.numbers.specs.Outcome.{Outcome, gave, bind, unless}
use Rattle.numbers.proofs.Refusing.{Refuses, refuses_gave, refuses_with, refuses_unless, refuses_bind}
use Rattle.colleague.specs.declared.Colleague.{Colleague}
use Rattle.colleague.specs.Matrix.{Matrix, entries_finite}
use Rattle.colleague.specs.Built.{without_zeros, built_of}
use Rattle.colleague.specs.Balance.{Balanced, pass_of, balanced_from, balanced_of}
use Rattle.colleague.specs.Answer.{shown, no_rows, balanced_for, colleague_for}

module _ {P : ℕ → Type 0} where
  passes_refuse : P 11 → (k made n : ℕ) (a : Matrix) → Refuses P (balanced_from k made n a)
  unfolding balanced_from
  passes_refuse p zero made n a = refuses_with 11 p
  passes_refuse p (suc k) made n a = pick ((pass_of a n).moved && not (pass_of a n).stopped) (passes_refuse p k (suc made) n (pass_of a n).matrix)
    where
      pick : (t : Bool) → Refuses P (balanced_from k (suc made) n (pass_of a n).matrix)
          → Refuses P (cond t (balanced_from k (suc made) n (pass_of a n).matrix) (gave (record { matrix = (pass_of a n).matrix; passes = suc made })))
      pick true r = r
      pick false r = refuses_gave (record { matrix = (pass_of a n).matrix; passes = suc made })

  balanced_refuses : P 9 → P 11 → (c : List Float) (s : ℕ) → Refuses P (balanced_for c s)
  balanced_refuses nine eleven c s =
      let last : Balanced → Outcome Colleague = λ b. unless (entries_finite b.matrix) 9 (gave (shown b.matrix s b.passes)) in
      refuses_unless (entries_finite (built_of c s)) 9 (bind (balanced_of (built_of c s) s) last) (λ t. nine)
      (λ t. refuses_bind (balanced_of (built_of c s) s) last (passes_refuse eleven 64 0 s (built_of c s))
      (λ b e. refuses_unless (entries_finite b.matrix) 9 (gave (shown b.matrix s b.passes)) (λ t. nine) (λ t. refuses_gave (shown b.matrix s b.passes))))

  pub colleague_refuses : P 9 → P 10 → P 11 → (c : List Float) → 1 ≤ length c → length c ≤ 16 → Refuses P (colleague_for c)
  unfolding colleague_for
  colleague_refuses nine ten eleven c a b =
      let n = without_zeros c (length c) in
      let last = cond (eqb n 1) (gave no_rows) (balanced_for c (n - 1)) in
      rw (le-leb 1 (length c) a, le-leb (length c) 16 b)
      (refuses_unless (all_finite c) 9 (unless (leb 1 n) 10 last) (λ t. nine)
      (λ t. refuses_unless (leb 1 n) 10 last (λ t. ten) (λ t. pick (eqb n 1))))
    where
      pick : (t : Bool) → Refuses P (cond t (gave no_rows) (balanced_for c (without_zeros c (length c) - 1)))
      pick true = refuses_gave no_rows
      pick false = balanced_refuses nine eleven c (without_zeros c (length c) - 1)
