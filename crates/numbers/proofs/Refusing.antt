-- Which refusals an outcome can be: every one has the property P. In a chain, what follows need have it only after what was given.
-- Assumes nothing.
use Prim.Native.Nat.{ℕ, zero, suc, ◌+◌, ◌<◌, ◌≤◌}
use mathlib.Core.Path.{◌≡◌, refl, sym}
use mathlib.Core.Bool.{Bool, true, false}
use mathlib.Core.List.{List, [], ◌∷◌}
use native.Mathlib.Omega.{arith}
use borrow.Author.Tests.{le-leb}
use lib.ListN.{length}
use lib.Ieee.{Float}
use lib.Ieee.Scale.{finite}
use Rattle.numbers.specs.Floats.{all_finite}
use Rattle.numbers.specs.Outcome.{Outcome, refused, gave, bind, unless, needed_of, needed_list_of, sweep, gather}
use Rattle.numbers.proofs.Given.{never_given}

pub record Refuses {A : Type 0} (P : ℕ → Type 0) (o : Outcome A) : Type 0 where
  pub is : (n : ℕ) → o ≡ refused n → P n

-- with one number alone
abbrev pub Only : ℕ → ℕ → Type 0
Only m n = n ≡ m

module _ {P : ℕ → Type 0} where
  pub refuses_weaker : {A : Type 0} {Q : ℕ → Type 0} {o : Outcome A} → ((n : ℕ) → Q n → P n) → Refuses Q o → Refuses P o
  refuses_weaker h r = record { is = λ n e. h n (r.is n e) }

  pub refuses_gave : {A : Type 0} (a : A) → Refuses P (gave a)
  refuses_gave a = record { is = λ n e. absurd (never_given (sym e)) }

  pub refuses_with : {A : Type 0} (m : ℕ) → P m → Refuses {A = A} P (refused m)
  refuses_with m p = record { is = λ n e. let k : m ≡ n = cc in rw (← k) p }

  pub refuses_unless : {A : Type 0} (t : Bool) (m : ℕ) (o : Outcome A) → (t ≡ false → P m) → (t ≡ true → Refuses P o) → Refuses P (unless t m o)
  refuses_unless true m o p r = r refl
  refuses_unless false m o p r = refuses_with m (p refl)

  pub refuses_bind : {A B : Type 0} (o : Outcome A) (k : A → Outcome B) → Refuses P o → ((a : A) → o ≡ gave a → Refuses P (k a)) → Refuses P (bind o k)
  refuses_bind (refused m) k r h = refuses_with m (r.is m refl)
  refuses_bind (gave a) k r h = h a refl

  pub refuses_gather : {A : Type 0} (g : ℕ → Outcome A) (n i : ℕ) → ((j : ℕ) → i ≤ j → j < i + n → Refuses P (g j)) → Refuses P (gather g n i)
  unfolding gather
  refuses_gather g zero i h = refuses_gave []
  refuses_gather g (suc n) i h =
      refuses_bind (g i) (λ a. bind (gather g n (i + 1)) (λ l. gave (a ∷ l))) (h i (omega arith) (omega arith))
      (λ a e. refuses_bind (gather g n (i + 1)) (λ l. gave (a ∷ l)) (refuses_gather g n (i + 1) (λ j p q. h j (omega arith) (omega arith))) (λ l f. refuses_gave (a ∷ l)))

  pub refuses_sweep : {A S : Type 0} (f : A → S → Outcome S) (xs : List A) (s : S) → ((x : A) (s : S) → Refuses P (f x s)) → Refuses P (sweep f xs s)
  unfolding sweep
  refuses_sweep f [] s h = refuses_gave s
  refuses_sweep f (x ∷ xs) s h = refuses_bind (f x s) (sweep f xs) (h x s) (λ t e. refuses_sweep f xs t h)

-- a needed number and a finished list, where there is room for it, are refused with 9 alone
pub refuses_needed : (x : Float) → Refuses (Only 9) (needed_of x)
refuses_needed x = refuses_unless (finite x) 9 (gave x) (λ t. refl) (λ t. refuses_gave x)

pub refuses_needed_list : (l : List Float) (room : ℕ) → length l ≤ room → Refuses (Only 9) (needed_list_of l room)
refuses_needed_list l room h = rw (le-leb (length l) room h) (refuses_unless (all_finite l) 9 (gave l) (λ t. refl) (λ t. refuses_gave l))
