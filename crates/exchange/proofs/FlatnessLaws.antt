-- The flatness of candidates whose errors are finite lies in 0 to 1, its sign clear; where there is none the refusal is 9. Assumes nothing.
use Prim.Native.Nat.{ℕ, ◌-◌, ◌<◌, ◌≤◌}
use mathlib.Core.Path.{◌≡◌, refl, sym, ◌∙◌}
use mathlib.Core.Bool.{Bool, true, false, not, cond, true≢false}
use mathlib.Core.List.{List}
use native.Mathlib.Omega.{arith}
use native.Mathlib.Decide.{dec_lt}
use borrow.Author.Tests.{not-true}
use lib.Dec.{T}
use lib.ListN.{length, get_or, get_or-eq_default}
use lib.Ieee.{Float, binary64, lt, le, eq, fits, is_nan, of_bits}
use lib.Ieee.Scale.{finite}
use Rattle.numbers.specs.Floats.{zero64, one64, magnitude_of, lesser}
use Rattle.numbers.specs.Operations.{◌⊖◌, ◌⊘◌}
use Rattle.numbers.specs.Outcome.{refused, gave, unless, needed_of}
use Rattle.numbers.proofs.Order.{not-lt, leq_trans, le_antisym, lt-le}
use Rattle.numbers.proofs.Chains.{le_same}
use Rattle.numbers.proofs.Given.{gave_same, never_given, unless_given}
use Rattle.numbers.proofs.LoopLaws.{run_keeps}
use Rattle.numbers.proofs.Magnitudes.{magnitude_sign, magnitude_finite, magnitude_fits}
use Rattle.numbers.proofs.Unit.{Within, number_is, clear_least, flat_unit}
use Rattle.pruning.specs.declared.candidates.Candidate.{Candidate}
use Rattle.pruning.specs.Candidates.{none}
use Rattle.exchange.specs.declared.flatness.Spread.{Spread}
use Rattle.exchange.specs.Flatness.{size_at, spread, widen, spread_of, flatness_of}

-- candidates whose errors are finite numbers of 64 bits
pub record Measured (l : List Candidate) : Type 0 where
  pub finite_at : (k : ℕ) → k < length l → finite (get_or l k none).error ≡ true
  pub fits_at : (k : ℕ) → k < length l → T (fits binary64 (get_or l k none).error)

-- a size from 0 up
record Size (a : Float) : Type 0 where
  number : finite a ≡ true
  fit : T (fits binary64 a)
  least : le zero64 a ≡ true

sized : (x : Float) → finite x ≡ true → T (fits binary64 x) → Size (magnitude_of x)
sized x n f =
    let m : finite (magnitude_of x) ≡ true = magnitude_finite x ∙ n in
    record { number = m; fit = magnitude_fits binary64 x f; least = clear_least (magnitude_of x) m (magnitude_sign x) }

zero_sized : Size (magnitude_of zero64)
zero_sized = sized zero64 (unfold of_bits in refl) (unfold fits of_bits in tt)

size_of : (l : List Candidate) → Measured l → (k : ℕ) → Size (size_at l k)
size_of l m k = go (dec_lt k (length l))
  where
    go : Dec (k < length l) → Size (size_at l k)
    go (yes h) = sized (get_or l k none).error (m.finite_at k h) (m.fits_at k h)
    go (no h) = let p : length l ≤ k = omega arith in rw (get_or-eq_default l none {n = k} p) zero_sized

-- a spread: two sizes in order
record Ordered (s : Spread) : Type 0 where
  most : Size s.most
  least : Size s.least
  order : le s.least s.most ≡ true

widened : (s : Spread) (a : Float) → Ordered s → Size a → Ordered (spread (cond (lt s.most a) a s.most) (lesser s.least a))
widened s a o z = go (lt s.most a) (lt a s.least) refl refl
  where
    A : is_nan a ≡ false
    A = number_is a z.number

    M : is_nan s.most ≡ false
    M = number_is s.most o.most.number

    go : (p q : Bool) → lt s.most a ≡ p → lt a s.least ≡ q → Ordered (spread (cond p a s.most) (cond q a s.least))
    go true true h k = record { most = z; least = z; order = le_same a A }
    go true false h k = record { most = z; least = o.least; order = leq_trans s.least s.most a o.order (lt-le s.most a h) }
    go false true h k = record { most = o.most; least = z; order = not-lt s.most a M A h }
    go false false h k = o

spread_ordered : (l : List Candidate) → Measured l → Ordered (spread_of l)
unfolding spread_of
spread_ordered l m =
    run_keeps Ordered (widen l) (λ i s o. widened s (size_at l i) o (size_of l m i)) (length l - 1) 1 (spread (size_at l 0) (size_at l 0))
    (record { most = size_of l m 0; least = size_of l m 0; order = le_same (size_at l 0) (number_is (size_at l 0) (size_of l m 0).number) })

above : (x : Float) → is_nan x ≡ false → le zero64 x ≡ true → eq x zero64 ≡ false → lt zero64 x ≡ true
above x n h e = go (lt zero64 x) refl
  where
    go : (t : Bool) → lt zero64 x ≡ t → lt zero64 x ≡ true
    go true k = k
    go false k = absurd (true≢false (sym (le_antisym x zero64 (not-lt zero64 x (unfold is_nan of_bits in refl) n k) h) ∙ e))

flat : (s : Spread) → Ordered s → eq s.most zero64 ≡ false → Within ((s.most ⊖ s.least) ⊘ s.most) one64
flat s o e =
    let m = o.most in
    flat_unit binary64 s.least s.most m.fit m.number (above s.most (number_is s.most m.number) m.least e) o.least.least o.order

-- from 0 to 1, the sign clear
pub flatness_unit : (l : List Candidate) (f : Float) → Measured l → flatness_of l ≡ gave f → Within f one64
unfolding flatness_of
flatness_unit l f m e =
    let s = spread_of l in
    let x = (s.most ⊖ s.least) ⊘ s.most in
    let a = unless_given (not (eq s.most zero64)) 9 (needed_of x) e in
    let b = unless_given (finite x) 9 (gave x) a.rest in
    rw (← gave_same b.rest) (flat s (spread_ordered l m) (not-true (eq s.most zero64) a.test))

by_nine : (t u : Bool) (x : Float) (n : ℕ) → unless t 9 (unless u 9 (gave x)) ≡ refused n → n ≡ 9
by_nine true true x n e = absurd (never_given (sym e))
by_nine true false x n e = cc
by_nine false u x n e = cc

-- whatever the candidates are, no other refusal is given
pub flatness_refused : (l : List Candidate) (n : ℕ) → flatness_of l ≡ refused n → n ≡ 9
unfolding flatness_of
flatness_refused l n e =
    let s = spread_of l in
    let x = (s.most ⊖ s.least) ⊘ s.most in
    by_nine (not (eq s.most zero64)) (finite x) x n e

-- and of finite errors it is given only where the largest is zero
pub flatness_given : (l : List Candidate) → Measured l → eq (spread_of l).most zero64 ≡ false
    → flatness_of l ≡ gave (((spread_of l).most ⊖ (spread_of l).least) ⊘ (spread_of l).most)
unfolding flatness_of
flatness_given l m e = rw (e, (flat (spread_of l) (spread_ordered l m) e).number)
