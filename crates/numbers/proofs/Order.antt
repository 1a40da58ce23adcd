-- The order of numbers, as the equations that a branch hands over: lt and le are transitive and antisymmetric, and where
-- no NaN is about one of them holds; two values that fit and are equal, and no zeros, are one value. Assumes nothing.
use Prim.Native.Nat.{ℕ, zero, suc, pred, ◌+◌, ◌*◌, ◌^◌, ◌%◌, ◌<◌, ◌≤◌, zero-le}
use mathlib.Core.Path.{◌≡◌, refl, sym, ap, ◌∙◌}
use mathlib.Core.Bool.{Bool, true, false, ◌&&◌, ◌||◌, beq, cond, true≢false}
use native.Mathlib.Nat.{pow-suc, mul_assoc, mul-one, mul_right_comm, mul-pos, mul-lt-mul_of_pos_right, lt_of_mul-lt-mul_right, lt_of_lt_of_le, lt_of_le_of_lt, le_of_eq, mul-le-mul_right, le_trans, le_of_lt, zero-mul, eq-or-lt_of_le, lt_irrefl, zero-lt-suc}
use mathlib.Core.Logic.{inl, inr}
use native.Mathlib.Omega.{arith}
use borrow.Author.Tests.{ltb-true, ltb-false, lt-ltb, le-ltb, eqb-true, eq-eqb, ne_eqb}
use lib.Dec.{T, ltb, leb, eqb, eqb→eq}
use lib.Pow.{pow-add}
use lib.IntN.{ℤ, pos, negsuc}
use lib.Ieee.{Float, nan, inf, fin, Format, up, down, below, level, lt, le, eq, is_nan, odd, units, round, low, emax, prec, of_bits, fits}
use lib.Ieee.Fits.{down_pos, up_pos, round_is, and_l}
use lib.Ieee.Positive.{through, first_pos}
use Rattle.numbers.specs.Floats.{is_zero, sign, zero64}

pub no : {A : Type 0} → false ≡ true → A
no h = absurd (true≢false (sym h))

-- ---- lt: neither side is a NaN
pub lt_left : (x y : Float) → lt x y ≡ true → is_nan x ≡ false
unfolding lt is_nan
lt_left nan y h = no h
lt_left (inf s) y h = refl
lt_left (fin s m e) y h = refl

pub lt_right : (x y : Float) → lt x y ≡ true → is_nan y ≡ false
unfolding lt is_nan
lt_right nan nan h = no h
lt_right (inf s) nan h = no h
lt_right (fin s m e) nan h = no h
lt_right x (inf s) h = refl
lt_right x (fin s m e) h = refl

-- ---- x / p < y / q ≤ z / r, and x / p ≤ y / q < z / r
through_lt : (x y z p q r : ℕ) → 0 < r → x * q < y * p → y * r ≤ z * q → x * r < z * p
through_lt x y z p q r R h k =
    lt_of_mul-lt-mul_right q
    (lt_of_le_of_lt (le_of_eq (mul_right_comm x r q))
    (lt_of_lt_of_le (mul-lt-mul_of_pos_right h R)
    (le_trans (le_of_eq (mul_right_comm y p r)) (le_trans (mul-le-mul_right p k) (le_of_eq (mul_right_comm z q p))))))

-- a number below another makes that one positive
pos_of_lt : (a b q p : ℕ) → a * q < b * p → 0 < b
pos_of_lt a b q p h = first_pos b p (lt_of_le_of_lt zero-le h)

sum_l : (a b : ℕ) → 0 < a → 0 < a + b
sum_l a b h = omega arith

sum_r : (a b : ℕ) → 0 < b → 0 < a + b
sum_r a b h = omega arith

-- three numbers ±a / p, ±b / q, ±c / r
below_trans : (s t u : Bool) (a b c p q r : ℕ) → 0 < p → 0 < q → 0 < r → below s (a * q) t (b * p) ≡ true → below t (b * r) u (c * q) ≡ true → below s (a * r) u (c * p) ≡ true
below_trans false false false a b c p q r P Q R h k =
    lt-ltb (a * r) (c * p) (through_lt a b c p q r R (ltb-true (a * q) (b * p) h) (le_of_lt (ltb-true (b * r) (c * q) k)))
below_trans false false true a b c p q r P Q R h k = k
below_trans false true u a b c p q r P Q R h k = no h
below_trans true false false a b c p q r P Q R h k =
    lt-ltb 0 (a * r + c * p) (sum_r (a * r) (c * p) (mul-pos (pos_of_lt b c r q (ltb-true (b * r) (c * q) k)) P))
below_trans true false true a b c p q r P Q R h k = no k
below_trans true true false a b c p q r P Q R h k =
    lt-ltb 0 (a * r + c * p) (sum_l (a * r) (c * p) (mul-pos (pos_of_lt b a p q (ltb-true (b * p) (a * q) h)) R))
below_trans true true true a b c p q r P Q R h k =
    lt-ltb (c * p) (a * r) (through_lt c b a r q p P (ltb-true (c * q) (b * r) k) (le_of_lt (ltb-true (b * p) (a * q) h)))

pub lt_trans : (x y z : Float) → lt x y ≡ true → lt y z ≡ true → lt x z ≡ true
unfolding lt
lt_trans nan y z h k = no h
lt_trans (inf s) nan z h k = no h
lt_trans (inf s) (inf t) nan h k = no k
lt_trans (inf true) (inf false) (inf u) h k = no k
lt_trans (inf true) (inf true) (inf u) h k = k
lt_trans (inf false) (inf t) (inf u) h k = no h
lt_trans (inf true) (inf t) (fin u l g) h k = refl
lt_trans (inf false) (inf t) (fin u l g) h k = no h
lt_trans (inf s) (fin t n d) nan h k = no k
lt_trans (inf true) (fin t n d) (inf u) h k = k
lt_trans (inf false) (fin t n d) (inf u) h k = no h
lt_trans (inf s) (fin t n d) (fin u l g) h k = h
lt_trans (fin s m e) nan z h k = no h
lt_trans (fin s m e) (inf t) nan h k = no k
lt_trans (fin s m e) (inf true) (inf u) h k = no h
lt_trans (fin s m e) (inf false) (inf u) h k = no k
lt_trans (fin s m e) (inf true) (fin u l g) h k = no h
lt_trans (fin s m e) (inf false) (fin u l g) h k = no k
lt_trans (fin s m e) (fin t n d) nan h k = no k
lt_trans (fin s m e) (fin t n d) (inf u) h k = k
lt_trans (fin s m e) (fin t n d) (fin u l g) h k =
    below_trans s t u (m * up e) (n * up d) (l * up g) (down e) (down d) (down g) (down_pos e) (down_pos d) (down_pos g) h k

-- ---- le is the negation of lt the other way round, where neither is a NaN
pub or_true : (b : Bool) → (b || true) ≡ true
or_true true = refl
or_true false = refl

eq_lt : (a b : ℕ) → a ≤ b → (ltb a b || (eqb a b && true)) ≡ true
eq_lt a b h = elim (eq-or-lt_of_le h) [ inl p ↦ (let z : eqb a b ≡ true = eq-eqb a b p in rw z (or_true (ltb a b))) | inr q ↦ (let z : ltb a b ≡ true = lt-ltb a b q in rw z) ]

zeros : (a b : ℕ) → a + b ≤ 0 → (eqb a b && (false || eqb a 0)) ≡ true
zeros a b h = let p : a ≡ b = omega arith in let q : a ≡ 0 = omega arith in rw (eq-eqb a b p, eq-eqb a 0 q)

below_total : (s t : Bool) (a b : ℕ) → below s a t b ≡ false → (below t b s a || level t b s a) ≡ true
below_total false false a b h = eq_lt b a (ltb-false a b h)
below_total false true a b h = elim (ltb 0 (b + a)) as (λ z. ltb 0 (b + a) ≡ z → (z || level true b false a) ≡ true) [
  | true ↦ λ e. refl
  | false ↦ λ e. zeros b a (ltb-false 0 (b + a) e)
] refl
below_total true false a b h = zeros b a (let z : a + b ≤ 0 = ltb-false 0 (a + b) h in omega arith)
below_total true true a b h = eq_lt' (ltb-false b a h)
  where
    eq_lt' : a ≤ b → (ltb a b || (eqb b a && true)) ≡ true
    eq_lt' k = elim (eq-or-lt_of_le k) [ inl p ↦ (let z : eqb b a ≡ true = eq-eqb b a (sym p) in rw z (or_true (ltb a b))) | inr q ↦ (let z : ltb a b ≡ true = lt-ltb a b q in rw z) ]

-- not x < y, and no NaN: y ≤ x
pub not-lt : (x y : Float) → is_nan x ≡ false → is_nan y ≡ false → lt x y ≡ false → le y x ≡ true
unfolding lt le eq is_nan
not-lt nan y p q h = no (sym p)
not-lt (inf s) nan p q h = no (sym q)
not-lt (inf true) (inf true) p q h = refl
not-lt (inf true) (inf false) p q h = no (sym h)
not-lt (inf false) (inf true) p q h = refl
not-lt (inf false) (inf false) p q h = refl
not-lt (inf true) (fin t n d) p q h = no (sym h)
not-lt (inf false) (fin t n d) p q h = refl
not-lt (fin s m e) nan p q h = no (sym q)
not-lt (fin s m e) (inf true) p q h = refl
not-lt (fin s m e) (inf false) p q h = no (sym h)
not-lt (fin s m e) (fin t n d) p q h = below_total s t (m * up e * down d) (n * up d * down e) h

-- ---- le is transitive
pub zero_of : (a q : ℕ) → 0 < q → a * q ≤ 0 → a ≡ 0
zero_of zero q Q h = refl
zero_of (suc a) q Q h = absurd (lt_irrefl 0 (lt_of_lt_of_le (mul-pos (zero-lt-suc a) Q) h))

pub of_zero : (a r : ℕ) → a ≡ 0 → a * r ≡ 0
of_zero a r e = rw e (zero-mul r)

sum_zero : (a b : ℕ) → ltb 0 (a + b) ≡ false → (a ≤ 0) × (b ≤ 0)
sum_zero a b h = let z : a + b ≤ 0 = ltb-false 0 (a + b) h in (omega arith, omega arith)

both_zero : (a b : ℕ) → a ≡ 0 → b ≡ 0 → ltb 0 (a + b) ≡ false
both_zero a b p q = le-ltb 0 (a + b) (omega arith)

under_zero : (a b : ℕ) → a ≡ 0 → ltb b a ≡ false
under_zero a b p = le-ltb b a (omega arith)

not_below_trans : (s t u : Bool) (a b c p q r : ℕ) → 0 < p → 0 < q → 0 < r → below t (b * p) s (a * q) ≡ false → below u (c * q) t (b * r) ≡ false → below u (c * p) s (a * r) ≡ false
not_below_trans false false false a b c p q r P Q R h k =
    le-ltb (c * p) (a * r) (through a b c p q r Q (ltb-false (b * p) (a * q) h) (ltb-false (c * q) (b * r) k))
not_below_trans false false true a b c p q r P Q R h k =
    let z = sum_zero (c * q) (b * r) k in
    let y = zero_of b r R z.1 in
    let w : a * q ≤ 0 = le_trans (ltb-false (b * p) (a * q) h) (le_of_eq (of_zero b p y)) in
    both_zero (c * p) (a * r) (of_zero c p (zero_of c q Q z.0)) (of_zero a r (zero_of a q Q w))
not_below_trans false true false a b c p q r P Q R h k =
    let z = sum_zero (b * p) (a * q) h in under_zero (a * r) (c * p) (of_zero a r (zero_of a q Q z.1))
not_below_trans false true true a b c p q r P Q R h k =
    let z = sum_zero (b * p) (a * q) h in
    let y = zero_of b p P z.0 in
    let w : c * q ≤ 0 = le_trans (ltb-false (b * r) (c * q) k) (le_of_eq (of_zero b r y)) in
    both_zero (c * p) (a * r) (of_zero c p (zero_of c q Q w)) (of_zero a r (zero_of a q Q z.1))
not_below_trans true t false a b c p q r P Q R h k = refl
not_below_trans true false true a b c p q r P Q R h k =
    let z = sum_zero (c * q) (b * r) k in under_zero (c * p) (a * r) (of_zero c p (zero_of c q Q z.0))
not_below_trans true true true a b c p q r P Q R h k =
    le-ltb (a * r) (c * p) (through c b a r q p Q (ltb-false (b * r) (c * q) k) (ltb-false (a * q) (b * p) h))

-- not y < x and not z < y, no NaN at y: not z < x
pub not-lt_trans : (x y z : Float) → is_nan y ≡ false → lt y x ≡ false → lt z y ≡ false → lt z x ≡ false
unfolding lt is_nan
not-lt_trans x nan z p h k = no (sym p)
not-lt_trans nan (inf t) nan p h k = refl
not-lt_trans nan (inf t) (inf u) p h k = refl
not-lt_trans nan (inf t) (fin u l g) p h k = refl
not-lt_trans (inf s) (inf t) nan p h k = refl
not-lt_trans (inf true) (inf t) (inf true) p h k = refl
not-lt_trans (inf true) (inf t) (inf false) p h k = refl
not-lt_trans (inf false) (inf true) (inf u) p h k = no (sym h)
not-lt_trans (inf false) (inf false) (inf u) p h k = k
not-lt_trans (inf true) (inf t) (fin u l g) p h k = refl
not-lt_trans (inf false) (inf true) (fin u l g) p h k = no (sym h)
not-lt_trans (inf false) (inf false) (fin u l g) p h k = k
not-lt_trans (fin s m e) (inf t) nan p h k = refl
not-lt_trans (fin s m e) (inf true) (inf u) p h k = no (sym h)
not-lt_trans (fin s m e) (inf false) (inf true) p h k = k
not-lt_trans (fin s m e) (inf false) (inf false) p h k = refl
not-lt_trans (fin s m e) (inf true) (fin u l g) p h k = no (sym h)
not-lt_trans (fin s m e) (inf false) (fin u l g) p h k = no (sym k)
not-lt_trans nan (fin t n d) nan p h k = refl
not-lt_trans nan (fin t n d) (inf u) p h k = refl
not-lt_trans nan (fin t n d) (fin u l g) p h k = refl
not-lt_trans (inf s) (fin t n d) nan p h k = refl
not-lt_trans (inf true) (fin t n d) (inf true) p h k = refl
not-lt_trans (inf true) (fin t n d) (inf false) p h k = refl
not-lt_trans (inf false) (fin t n d) (inf u) p h k = no (sym h)
not-lt_trans (inf s) (fin t n d) (fin u l g) p h k = h
not-lt_trans (fin s m e) (fin t n d) nan p h k = refl
not-lt_trans (fin s m e) (fin t n d) (inf u) p h k = k
not-lt_trans (fin s m e) (fin t n d) (fin u l g) p h k =
    not_below_trans s t u (m * up e) (n * up d) (l * up g) (down e) (down d) (down g) (down_pos e) (down_pos d) (down_pos g) h k

-- ---- le x y says: no NaN, and not y < x
pub or_false : (a b : Bool) → (a || b) ≡ false → a ≡ false
or_false true b h = h
or_false false b h = refl

-- x ≤ y the other way: not y < x
clash : (a b : ℕ) → a < b → b < a → ⊥
clash a b h k = omega arith

below_anti : (s t : Bool) (a b : ℕ) → (below s a t b || level s a t b) ≡ true → below t b s a ≡ false
below_anti false false a b h = go (ltb a b) (eqb a b) refl refl h
  where
    go : (x y : Bool) → ltb a b ≡ x → eqb a b ≡ y → (x || (y && true)) ≡ true → ltb b a ≡ false
    go true y p q h = le-ltb b a (le_of_lt (ltb-true a b p))
    go false true p q h = le-ltb b a (le_of_eq (eqb-true a b q))
    go false false p q h = no h
below_anti false true a b h = go (eqb a b) (eqb a 0) refl refl h
  where
    go : (x y : Bool) → eqb a b ≡ x → eqb a 0 ≡ y → (x && y) ≡ true → ltb 0 (b + a) ≡ false
    go true true p q h = le-ltb 0 (b + a) (let u : a ≡ b = eqb-true a b p in let v : a ≡ 0 = eqb-true a 0 q in omega arith)
    go true false p q h = no h
    go false y p q h = no h
below_anti true false a b h = refl
below_anti true true a b h = go (ltb b a) (eqb a b) refl refl h
  where
    go : (x y : Bool) → ltb b a ≡ x → eqb a b ≡ y → (x || (y && true)) ≡ true → ltb a b ≡ false
    go true y p q h = le-ltb a b (le_of_lt (ltb-true b a p))
    go false true p q h = le-ltb a b (let u : a ≡ b = eqb-true a b q in omega arith)
    go false false p q h = no h

pub le_not_lt : (x y : Float) → le x y ≡ true → lt y x ≡ false
unfolding lt le eq
le_not_lt nan y h = no h
le_not_lt (inf s) nan h = refl
le_not_lt (inf true) (inf true) h = refl
le_not_lt (inf true) (inf false) h = refl
le_not_lt (inf false) (inf true) h = no h
le_not_lt (inf false) (inf false) h = refl
le_not_lt (inf true) (fin t n d) h = refl
le_not_lt (inf false) (fin t n d) h = no h
le_not_lt (fin s m e) nan h = refl
le_not_lt (fin s m e) (inf true) h = no h
le_not_lt (fin s m e) (inf false) h = refl
le_not_lt (fin s m e) (fin t n d) h = below_anti s t (m * up e * down d) (n * up d * down e) h

pub le_left : (x y : Float) → le x y ≡ true → is_nan x ≡ false
unfolding le is_nan
le_left nan y h = no h
le_left (inf s) y h = refl
le_left (fin s m e) y h = refl

pub le_right : (x y : Float) → le x y ≡ true → is_nan y ≡ false
unfolding le is_nan
le_right nan nan h = no h
le_right (inf s) nan h = no h
le_right (fin s m e) nan h = no h
le_right x (inf s) h = refl
le_right x (fin s m e) h = refl

pub leq_trans : (x y z : Float) → le x y ≡ true → le y z ≡ true → le x z ≡ true
leq_trans x y z h k = not-lt z x (le_right y z k) (le_left x y h) (not-lt_trans x y z (le_right x y h) (le_not_lt x y h) (le_not_lt y z k))

-- both ways: equal
level_of : (s t : Bool) (a b : ℕ) → (below s a t b || level s a t b) ≡ true → below s a t b ≡ false → level s a t b ≡ true
level_of s t a b h k = rw k at h

pub le_antisym : (x y : Float) → le x y ≡ true → le y x ≡ true → eq x y ≡ true
unfolding le lt eq
le_antisym x y h k = rw (le_not_lt y x k) at h

pub odd_signed : (d : ℕ) (s : Bool) (q k l : ℕ) → sign (odd d s q k l) ≡ s
unfolding odd sign
odd_signed d s zero k l = refl
odd_signed d s (suc q) k l = refl

cond_signed : (b : Bool) (x y : Float) (s : Bool) → sign x ≡ s → sign y ≡ s → sign (cond b x y) ≡ s
cond_signed true x y s p q = p
cond_signed false x y s p q = q

units_signed : (f : Format) (s : Bool) (q k : ℕ) → sign (units f s q k) ≡ s
unfolding units sign
units_signed f s q k = cond_signed (ltb (q * 2 ^ k) (2 ^ (low f + suc (emax f)))) (odd (suc (prec f)) s q k (low f)) (inf s) s (odd_signed (suc (prec f)) s q k (low f)) refl

pub round_signed : (f : Format) (s : Bool) (num den : ℕ) → sign (round f s num den) ≡ s
round_signed f s num den = rw round_is (units_signed f s _ _)

pub not_negative : (x : Float) → sign x ≡ false → lt x zero64 ≡ false
unfolding lt sign of_bits
not_negative nan h = refl
not_negative (inf s) h = h
not_negative (fin true m e) h = no (sym h)
not_negative (fin false m e) h = le-ltb (m * up e * 1) (0 * 1 * down e) (rw zero-mul zero-le)

-- ---- two values that fit and are equal as numbers, and not zero, are one value
odd_pow : (m n a b : ℕ) → m % 2 ≡ 1 → n % 2 ≡ 1 → m * 2 ^ a ≡ n * 2 ^ b → (m ≡ n) × (a ≡ b)
odd_pow m n zero zero p q h = (omega arith, refl)
odd_pow m n zero (suc b) p q h = let k : m * 1 ≡ n * 2 ^ b * 2 = h ∙ twice n b in absurd (odd_even m (n * 2 ^ b) p k)
  where
    twice : (n b : ℕ) → n * 2 ^ suc b ≡ n * 2 ^ b * 2
    twice n b = rw pow-suc (sym (mul_assoc n (2 ^ b) 2))

    odd_even : (m k : ℕ) → m % 2 ≡ 1 → m * 1 ≡ k * 2 → ⊥
    odd_even m k p h = omega arith
odd_pow m n (suc a) zero p q h = let k : n * 1 ≡ m * 2 ^ a * 2 = sym h ∙ twice m a in absurd (odd_even n (m * 2 ^ a) q k)
  where
    twice : (n b : ℕ) → n * 2 ^ suc b ≡ n * 2 ^ b * 2
    twice n b = rw pow-suc (sym (mul_assoc n (2 ^ b) 2))

    odd_even : (m k : ℕ) → m % 2 ≡ 1 → m * 1 ≡ k * 2 → ⊥
    odd_even m k p h = omega arith
odd_pow m n (suc a) (suc b) p q h =
    let r = odd_pow m n a b p q (halve (m * 2 ^ a) (n * 2 ^ b) (sym (twice m a) ∙ h ∙ twice n b)) in (r.0, ap suc r.1)
  where
    twice : (n b : ℕ) → n * 2 ^ suc b ≡ n * 2 ^ b * 2
    twice n b = rw pow-suc (sym (mul_assoc n (2 ^ b) 2))

    halve : (x y : ℕ) → x * 2 ≡ y * 2 → x ≡ y
    halve x y h = omega arith

pub odd_exp : (m n : ℕ) (e d : ℤ) → m % 2 ≡ 1 → n % 2 ≡ 1 → m * up e * down d ≡ n * up d * down e → (m ≡ n) × (e ≡ d)
odd_exp m n (pos a) (pos b) p q h = let r = odd_pow m n a b p q (sym (mul-one (m * 2 ^ a)) ∙ h ∙ mul-one (n * 2 ^ b)) in (r.0, ap pos r.1)
odd_exp m n (pos a) (negsuc b) p q h =
    let r = odd_pow m n (a + suc b) 0 p q (rw pow-add (sym (mul_assoc m (2 ^ a) (2 ^ suc b))) ∙ h ∙ mul-one (n * 1)) in absurd (never a b r.1)
  where
    never : (a b : ℕ) → a + suc b ≡ 0 → ⊥
    never a b h = omega arith
odd_exp m n (negsuc a) (pos b) p q h =
    let r = odd_pow m n 0 (b + suc a) p q (sym (mul-one (m * 1)) ∙ h ∙ mul_assoc n (2 ^ b) (2 ^ suc a) ∙ sym (ap (λ (z : ℕ). n * z) (pow-add 2 b (suc a)))) in absurd (never b a (sym r.1))
  where
    never : (a b : ℕ) → a + suc b ≡ 0 → ⊥
    never a b h = omega arith
odd_exp m n (negsuc a) (negsuc b) p q h =
    let r = odd_pow m n (suc b) (suc a) p q (sym (ap (λ (z : ℕ). z * 2 ^ suc b) (mul-one m)) ∙ h ∙ ap (λ (z : ℕ). z * 2 ^ suc a) (mul-one n)) in
    (r.0, ap (λ (z : ℕ). negsuc (pred z)) (sym r.1))

-- the significand is odd
pub fits_odd : (f : Format) (s : Bool) (m : ℕ) (e : ℤ) → T (fits f (fin s (suc m) e)) → suc m % 2 ≡ 1
unfolding fits
fits_odd f s m e t =
    let a : Bool = eqb (suc m % 2) 1 in
    let b : Bool = ltb (suc m) (2 ^ prec f) in
    let c : Bool = leb (down e) (2 ^ low f) in
    let d : Bool = ltb (suc m * up e) (2 ^ suc (emax f) * down e) in
    eqb→eq (suc m % 2) 1 (and_l a b (and_l (a && b) c (and_l (a && b && c) d t)))

pub beq_eq : (s t : Bool) → beq s t ≡ true → s ≡ t
beq_eq true true h = refl
beq_eq false false h = refl
beq_eq true false h = no h
beq_eq false true h = no h

pub and_1 : (a b : Bool) → (a && b) ≡ true → a ≡ true
and_1 true b h = refl
and_1 false b h = h

pub and_2 : (a b : Bool) → (a && b) ≡ true → b ≡ true
and_2 true b h = h
and_2 false b h = no h

pub or_2 : (a b : Bool) → (a || b) ≡ true → b ≡ false → a ≡ true
or_2 true b h k = refl
or_2 false b h k = no (sym k ∙ h)

pub ne_zero : (a : ℕ) → 0 < a → eqb a 0 ≡ false
ne_zero a h = ne_eqb a 0 (λ e. absurd (lt_irrefl 0 (rw e at h)))

pub eq_same : (f : Format) (x y : Float) → T (fits f x) → T (fits f y) → is_zero x ≡ false → is_zero y ≡ false → eq x y ≡ true → x ≡ y
unfolding eq
eq_same f nan y p q u v h = no h
eq_same f (inf s) nan p q u v h = no h
eq_same f (inf s) (inf t) p q u v h = ap inf (beq_eq s t h)
eq_same f (inf s) (fin t n d) p q u v h = no h
eq_same f (fin s m e) nan p q u v h = no h
eq_same f (fin s m e) (inf t) p q u v h = no h
eq_same f (fin s zero e) (fin t n d) p q u v h = no (sym u)
eq_same f (fin s (suc m) e) (fin t zero d) p q u v h = no (sym v)
eq_same f (fin s (suc m) e) (fin t (suc n) d) p q u v h =
    let a = suc m * up e * down d in
    let b = suc n * up d * down e in
    let r = odd_exp (suc m) (suc n) e d (fits_odd f s m e p) (fits_odd f t n d q) (eqb-true a b (and_1 (eqb a b) (beq s t || eqb a 0) h)) in
    let z = beq_eq s t (or_2 (beq s t) (eqb a 0) (and_2 (eqb a b) (beq s t || eqb a 0) h) (ne_zero a (mul-pos (mul-pos (zero-lt-suc m) (up_pos e)) (down_pos d)))) in
    λ i. fin (z i) (r.0 i) (r.1 i)

pub lt-le : (x y : Float) → lt x y ≡ true → le x y ≡ true
unfolding le
lt-le x y h = rw h

pub lt_asym : (x y : Float) → lt x y ≡ true → lt y x ≡ false
lt_asym x y h = le_not_lt x y (lt-le x y h)

pub lt_irr : (x : Float) → lt x x ≡ false
lt_irr x = go (lt x x) refl
  where
    go : (b : Bool) → lt x x ≡ b → lt x x ≡ false
    go true e = lt_asym x x e
    go false e = e
