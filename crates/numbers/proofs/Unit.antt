-- A difference of two numbers from 0 up, a quotient of at most one, and the two together, (most - least) / most: from
-- 0 to 1, the sign clear. Assumes nothing.
use Prim.Native.Nat.{ℕ, zero, suc, ◌+◌, ◌-◌, ◌*◌, ◌%◌, ◌/◌, ◌<◌, ◌≤◌}
use mathlib.Core.Path.{◌≡◌, refl, sym, ap, ◌∙◌, subst}
use mathlib.Core.Bool.{Bool, true, false, not, cond}
use native.Mathlib.Nat.{le_trans, le_of_eq, mul_assoc, mul_comm, mul_left_comm, mul-pos, zero-mul, zero-lt-suc, mul-le-mul_right, sub-le}
use native.Mathlib.Omega.{arith}
use borrow.Author.Tests.{le-ltb, ltb-true, ltb-false, leb-false}
use lib.Dec.{T, ltb, leb, eqb}
use lib.IntN.{ℤ, pos}
use lib.Ieee.{Float, nan, inf, fin, Format, binary32, binary64, up, down, low, prec, top, hid, ones, odd, round, fits, add, sub, neg, sum, div, lt, le, is_nan, of_bits, to_bits, of_fields}
use lib.Ieee.Fits.{down_pos, up_pos, div-fits}
use lib.Ieee.Scale.{finite}
use lib.Ieee.Order.{round_mono}
use lib.Ieee.Positive.{first_pos}
use lib.Ieee.Bits.{of_bits-to_bits, is_true}
use Rattle.numbers.proofs.Order.{no, round_signed, odd_signed, not-lt, le_not_lt, not_negative, ne_zero, zero_of}
use Rattle.numbers.proofs.Value.{round_own}
use Rattle.numbers.proofs.Zero.{+0}
use Rattle.numbers.specs.Floats.{one64, sign, zero64}

-- x is a number from 0 to b, its sign bit clear
pub record Within (x b : Float) : Type 0 where
  pub number : finite x ≡ true
  pub clear : sign x ≡ false
  pub least : le zero64 x ≡ true
  pub most : le x b ≡ true

finite_below : (x b : Float) → finite b ≡ true → sign x ≡ false → le x b ≡ true → finite x ≡ true
unfolding le sign
finite_below nan b p q h = no h
finite_below (inf true) b p q h = no (sym q)
finite_below (inf false) nan p q h = no p
finite_below (inf false) (inf t) p q h = no p
finite_below (inf false) (fin t n d) p q h = no h
finite_below (fin s m e) b p q h = refl

pub number_is : (x : Float) → finite x ≡ true → is_nan x ≡ false
unfolding is_nan
number_is nan h = no h
number_is (inf s) h = refl
number_is (fin s m e) h = refl

-- the form in which `f64::to_bits` asks for it
pub no_nan : (x : Float) → finite x ≡ true → T (not (is_nan x))
unfolding is_nan
no_nan nan h = no h
no_nan (inf s) h = tt
no_nan (fin s m e) h = tt

pub clear_least : (x : Float) → finite x ≡ true → sign x ≡ false → le zero64 x ≡ true
clear_least x n q = not-lt x zero64 (number_is x n) (unfold is_nan of_bits in refl) (not_negative x q)

pub within : (x b : Float) → finite b ≡ true → sign x ≡ false → le x b ≡ true → Within x b
within x b p q h =
    let n : finite x ≡ true = finite_below x b p q h in
    record { number = n; clear = q; least = clear_least x n q; most = h }

-- ---- a fraction that is at most b rounds to at most b
round_most : (f : Format) (n : ℕ) (d : ℤ) → T (fits f (fin false n d)) → (a c : ℕ) → 0 < c → a * down d ≤ n * up d * c → Within (round f false a c) (fin false n d)
round_most f n d F a c C h =
    let own : round f false (n * up d) (down d) ≡ fin false n d = round_own f false n d F (n * up d) (down d) (down_pos d) refl in
    within (round f false a c) (fin false n d) refl (round_signed f false a c)
    (subst (λ (z : Float). le (round f false a c) z ≡ true) own (is_true _ (round_mono f a c (n * up d) (down d) C (down_pos d) h)))

-- ---- 0 ≤ a ≤ b: b - a lies from 0 to b
pick : (f : Format) (a b c : ℕ) → b ≤ a → sum f false a true b c ≡ round f false (a - b) c
unfolding sum
pick f a b c h = rw (le-ltb a b h)

to_top : (B x d e : ℕ) → x ≤ B * e → x * d ≤ B * (d * e)
to_top B x d e h = le_trans (mul-le-mul_right d h) (le_of_eq (simp (mul_assoc, mul_comm, mul_left_comm)))

plus_none : (a b : ℕ) → b ≤ 0 → a + b ≤ a
plus_none a b h = omega arith

first-none : (a b : ℕ) → a + b ≤ 0 → a ≤ 0
first-none a b h = omega arith

-- b - a as `sub` has it, for a fin b; a may be -0
sub_pos : (f : Format) (m : ℕ) (e : ℤ) (n : ℕ) (d : ℤ) → m * up e * down d ≤ n * up d * down e → sub f (fin false n d) (fin false m e) ≡ round f false (n * up d * down e - m * up e * down d) (down d * down e)
unfolding sub add neg
sub_pos f m e n d l = pick f (n * up d * down e) (m * up e * down d) (down d * down e) l

sub-neg : (f : Format) (m : ℕ) (e : ℤ) (n : ℕ) (d : ℤ) → sub f (fin false n d) (fin true m e) ≡ round f false (n * up d * down e + m * up e * down d) (down d * down e)
unfolding sub add neg sum
sub-neg f m e n d = refl

minus_zero : (m : ℕ) (e : ℤ) → le zero64 (fin true m e) ≡ true → m ≡ 0
minus_zero m e h = zero_of m (up e * 1) (mul-pos (up_pos e) (zero-lt-suc 0)) (le_trans (le_of_eq (sym (mul_assoc m (up e) 1))) (first-none (m * up e * 1) (0 * down e) (ltb-false 0 (m * up e * 1 + 0 * down e) k)))
  where
    k : ltb 0 (m * up e * 1 + 0 * down e) ≡ false
    k = unfold lt of_bits in le_not_lt zero64 (fin true m e) h

pub sub_nonneg : (f : Format) (a b : Float) → T (fits f b) → finite b ≡ true → sign b ≡ false → le zero64 a ≡ true → le a b ≡ true → Within (sub f b a) b
sub_nonneg f a nan F p q k h = no p
sub_nonneg f a (inf t) F p q k h = no p
sub_nonneg f nan (fin t n d) F p q k h = no (unfold le in h)
sub_nonneg f (inf true) (fin t n d) F p q k h = no (unfold le of_bits in k)
sub_nonneg f (inf false) (fin t n d) F p q k h = no (unfold le in h)
sub_nonneg f (fin s m e) (fin true n d) F p q k h = no (sym (unfold sign in q))
sub_nonneg f (fin true m e) (fin false n d) F p q k h =
    let A = m * up e * down d in
    let B = n * up d * down e in
    let z : A ≤ 0 = rw (minus_zero m e k) (le_of_eq (simp zero-mul)) in
    subst (λ (z : Float). Within z (fin false n d)) (sym (sub-neg f m e n d))
    (round_most f n d F (B + A) (down d * down e) (mul-pos (down_pos d) (down_pos e)) (to_top (n * up d) (B + A) (down d) (down e) (plus_none B A z)))
sub_nonneg f (fin false m e) (fin false n d) F p q k h =
    let A = m * up e * down d in
    let B = n * up d * down e in
    let l : A ≤ B = ltb-false B A (unfold lt in le_not_lt (fin false m e) (fin false n d) h) in
    subst (λ (z : Float). Within z (fin false n d)) (sym (sub_pos f m e n d l))
    (round_most f n d F (B - A) (down d * down e) (mul-pos (down_pos d) (down_pos e)) (to_top (n * up d) (B - A) (down d) (down e) (sub-le B A)))

-- the exception: -0 - +0 is -0, so a b of -0 is left out

-- ---- 0 ≤ a ≤ b and 0 < b: a / b lies from 0 to 1. Nothing is rounded but the quotient, so neither need fit; b may be an infinity
pub one_fits : (f : Format) → T (fits f (fin false 1 (pos 0)))
one_fits binary32 = unfold fits in tt
one_fits binary64 = unfold fits in tt

pub one64_is : one64 ≡ fin false 1 (pos 0)
unfolding of_bits
one64_is = refl

in_one : (a b : ℕ) → a ≤ b → a * 1 ≤ 1 * 1 * b
in_one a b h = omega arith

div-at : (f : Format) (m : ℕ) (e : ℤ) (n : ℕ) (d : ℤ) → eqb n 0 ≡ false → div f (fin false m e) (fin false n d) ≡ round f false (m * up e * down d) (n * up d * down e)
unfolding div
div-at f m e n d z = rw z

above_zero : (n : ℕ) (d : ℤ) → lt zero64 (fin false n d) ≡ true → 0 < n
above_zero n d h = first_pos n (up d) (first_pos (n * up d) 1 (le_trans (one_up (0 * down d)) (ltb-true (0 * down d) (n * up d * 1) (unfold lt of_bits in h))))
  where
    one_up : (x : ℕ) → 1 ≤ suc x
    one_up x = omega arith

pub div_unit : (f : Format) (a b : Float) → finite a ≡ true → sign a ≡ false → lt zero64 b ≡ true → le a b ≡ true → Within (div f a b) one64
div_unit f nan b p q k h = no p
div_unit f (inf s) b p q k h = no p
div_unit f (fin true m e) b p q k h = no (sym (unfold sign in q))
div_unit f (fin false m e) nan p q k h = no (unfold lt of_bits in k)
div_unit f (fin false m e) (inf true) p q k h = no (unfold lt of_bits in k)
div_unit f (fin false m e) (inf false) p q k h = unfold div in within +0 one64 (unfold of_bits in refl) (unfold sign in refl) (unfold le of_bits in refl)
div_unit f (fin false m e) (fin true n d) p q k h = no (unfold lt of_bits in k)
div_unit f (fin false m e) (fin false n d) p q k h =
    let A = m * up e * down d in
    let B = n * up d * down e in
    let l : A ≤ B = ltb-false B A (unfold lt in le_not_lt (fin false m e) (fin false n d) h) in
    let N : 0 < n = above_zero n d k in
    subst (λ (z : Float). Within (div f (fin false m e) (fin false n d)) z) (sym one64_is)
    (subst (λ (z : Float). Within z (fin false 1 (pos 0))) (sym (div-at f m e n d (ne_zero n N)))
    (round_most f 1 (pos 0) (one_fits f) A B (mul-pos (mul-pos N (up_pos d)) (down_pos e)) (in_one A B l)))

-- ---- (max - min) / max
pub flat_unit : (f : Format) (least most : Float) → T (fits f most) → finite most ≡ true → lt zero64 most ≡ true → le zero64 least ≡ true → le least most ≡ true → Within (div f (sub f most least) most) one64
flat_unit f least most F p q k h =
    let w = sub_nonneg f least most F p (clear_of most q) k h in
    div_unit f (sub f most least) most w.number w.clear q w.most
  where
    clear_of : (x : Float) → lt zero64 x ≡ true → sign x ≡ false
    clear_of nan h = unfold sign in refl
    clear_of (inf true) h = no (unfold lt of_bits in h)
    clear_of (inf false) h = unfold sign in refl
    clear_of (fin true m e) h = no (unfold lt of_bits in h)
    clear_of (fin false m e) h = unfold sign in refl

-- ---- the sign bit of a number whose sign is clear
fields_sign : (f : Format) (s : Bool) (x t : ℕ) → is_nan (of_fields f s x t) ≡ false → sign (of_fields f s x t) ≡ s
unfolding of_fields
fields_sign f s zero t h = odd_signed (prec f) s t 0 (low f)
fields_sign f s (suc x) t h = go (eqb (suc x) (ones f)) (eqb t 0) h
  where
    go : (u v : Bool) → is_nan (cond u (cond v (inf s) nan) (odd (prec f) s (hid f + t) x (low f))) ≡ false → sign (cond u (cond v (inf s) nan) (odd (prec f) s (hid f + t) x (low f))) ≡ s
    go true true h = unfold sign in refl
    go true false h = no (sym (unfold is_nan in h))
    go false v h = odd_signed (prec f) s (hid f + t) x (low f)

pub bits_sign : (f : Format) (x : Float) → T (fits f x) → is_nan x ≡ false → leb (top f) (to_bits f x) ≡ sign x
bits_sign f x F n =
    let b = to_bits f x in
    let e : of_fields f (leb (top f) b) (b % top f / hid f) (b % hid f) ≡ x = unfold of_bits in of_bits-to_bits f x F in
    sym (fields_sign f (leb (top f) b) (b % top f / hid f) (b % hid f) (ap is_nan e ∙ n)) ∙ ap sign e

pub clear_bits : (x : Float) → T (fits binary64 x) → is_nan x ≡ false → sign x ≡ false → to_bits binary64 x < 0x8000_0000_0000_0000
clear_bits x F n s = leb-false (top binary64) (to_bits binary64 x) (bits_sign binary64 x F n ∙ s)

pub flat_bits : (least most : Float) → T (fits binary64 most) → finite most ≡ true → lt zero64 most ≡ true → le zero64 least ≡ true → le least most ≡ true
    → to_bits binary64 (div binary64 (sub binary64 most least) most) < 0x8000_0000_0000_0000
flat_bits least most F p q k h =
    let r = div binary64 (sub binary64 most least) most in
    let w : Within r one64 = flat_unit binary64 least most F p q k h in
    clear_bits r (div-fits binary64 (sub binary64 most least) most) (number_is r w.number) w.clear
