-- The test for a finite number, and what it rules out. Assumes nothing.
use mathlib.Core.Path.{◌≡◌, refl, sym}
use mathlib.Core.Bool.{Bool, true, false, ◌&&◌, cond}
use Prim.Native.Nat.{ℕ, zero, suc, ◌+◌, ◌<◌, ◌≤◌}
use mathlib.Core.List.{List, [], ◌∷◌}
use native.Mathlib.Nat.{not-suc-le-zero, le_of_suc-le-suc, zero-add}
use native.Mathlib.Numerals.{add-one}
use lib.ListN.{length, get_or, drop, drop_of_length-le}
use lib.Seq.{drop-cons}
use native.Mathlib.Omega.{arith}
use borrow.Author.Tests.{ne_eqb}
use lib.Dec.{eqb}
use lib.Ieee.{Float, nan, inf, fin, binary64, sub, div, of_bits, lt, le, eq, neg, is_nan}
use lib.Ieee.Scale.{finite}
use Rattle.numbers.specs.Floats.{zero64, one64, fault_of, all_finite, Inside}
use Rattle.numbers.specs.Outcome.{gave, needed_of}
use Rattle.numbers.proofs.Order.{and_1, and_2}
use Rattle.numbers.proofs.Zero.{sub_self64, sub_self_nan}

pub below_top : (x : Float) → lt x (div binary64 one64 zero64) ≡ true → lt (div binary64 (neg one64) zero64) x ≡ finite x
unfolding lt div of_bits neg
below_top nan h = refl
below_top (inf true) h = refl
below_top (inf false) h = sym h
below_top (fin s m e) h = refl

pub not_below_top : (x : Float) → lt x (div binary64 one64 zero64) ≡ false → false ≡ finite x
unfolding lt div of_bits neg
not_below_top nan h = refl
not_below_top (inf true) h = refl
not_below_top (inf false) h = refl
not_below_top (fin s m e) h = sym h

-- what a needed number gave is finite
pub given_finite : (x y : Float) → needed_of x ≡ gave y → finite y ≡ true
given_finite nan y e = absurd (let z : ◌≡◌ {A = ℕ} 0 1 = cc in omega arith)
given_finite (inf s) y e = absurd (let z : ◌≡◌ {A = ℕ} 0 1 = cc in omega arith)
given_finite (fin s m k) y e = let h : fin s m k ≡ y = cc in rw (← h)

-- ---- the faults of a list, counted
unfoldable pub faults : List Float → ℕ
faults [] = 0
faults (x ∷ xs) = fault_of x + faults xs

-- as many as were counted before i, and those from i on; so never more than i are counted
pub record Counting (xs : List Float) (i n : ℕ) : Type 0 where
  pub within : i ≤ length xs
  pub few : n ≤ i
  pub rest : n + faults (drop i xs) ≡ faults xs

pub fault_most : (x : Float) → fault_of x ≤ 1
fault_most x = go (finite x)
  where
    go : (t : Bool) → cond t 0 1 ≤ 1
    go true = omega arith
    go false = omega arith

pub count_start : {xs : List Float} → Counting xs 0 0
count_start = record { within = omega arith; few = omega arith; rest = rw zero-add }

pub count_next : {xs : List Float} {i n m : ℕ} → Counting xs i n → i < length xs → m ≡ n + fault_of (get_or xs i nan) → Counting xs (i + 1) m
unfolding faults
count_next {xs} {i} {n} {m} c h e =
    let k : n + (fault_of (get_or xs i nan) + faults (drop (suc i) xs)) ≡ faults xs = rw (drop-cons xs i nan) at c.rest in
    let z : m + faults (drop (suc i) xs) ≡ faults xs = omega (arith, e, k) in
    record { within = omega arith; few = omega (arith, fault_most (get_or xs i nan), c.few, e); rest = rw add-one z }

none_faulty : (xs : List Float) → eqb (faults xs) 0 ≡ all_finite xs
unfolding faults all_finite
none_faulty [] = refl
none_faulty (x ∷ xs) = go (finite x) (none_faulty xs)
  where
    go : (t : Bool) → eqb (faults xs) 0 ≡ all_finite xs → eqb (cond t 0 1 + faults xs) 0 ≡ (t && all_finite xs)
    go true h = rw zero-add h
    go false h = ne_eqb (1 + faults xs) 0 (λ e. omega arith)

pub count_end : {xs : List Float} {i n : ℕ} → Counting xs i n → length xs ≤ i → eqb n 0 ≡ all_finite xs
unfolding faults
count_end {xs} {i} {n} c h =
    let k : n + 0 ≡ faults xs = rw (drop_of_length-le xs {i = i} h) at c.rest in
    let z : n ≡ faults xs = omega arith in
    rw z (none_faulty xs)

-- x - x is a zero of finite numbers alone
pub fault_none : (x : Float) → eq (sub binary64 x x) zero64 ≡ finite x
fault_none x = go (finite x) refl
  where
    go : (t : Bool) → finite x ≡ t → eq (sub binary64 x x) zero64 ≡ t
    go true e = rw (sub_self64 x e) (unfold eq of_bits in refl)
    go false e = rw (sub_self_nan binary64 x e) (unfold eq in refl)

-- where every number is finite, the one at i is
pub finite_at : (xs : List Float) (i : ℕ) → all_finite xs ≡ true → i < length xs → finite (get_or xs i nan) ≡ true
unfolding all_finite
finite_at [] i h l = absurd (not-suc-le-zero l)
finite_at (x ∷ xs) zero h l = and_1 (finite x) (all_finite xs) h
finite_at (x ∷ xs) (suc i) h l = finite_at xs i (and_2 (finite x) (all_finite xs) h) (le_of_suc-le-suc l)

-- a number between two finite ones is finite
pub inside_finite : (low high x : Float) → finite low ≡ true → finite high ≡ true → Inside low high x → finite x ≡ true
unfolding le lt eq is_nan
inside_finite low high nan p q i = sym i.number
inside_finite (fin s m e) high (inf true) p q i = i.least
inside_finite low (fin s m e) (inf false) p q i = i.most
inside_finite nan high (inf true) p q i = p
inside_finite (inf s) high (inf true) p q i = p
inside_finite low nan (inf false) p q i = q
inside_finite low (inf s) (inf false) p q i = q
inside_finite low high (fin s m e) p q i = refl
