-- The magnitude as a program works it out, if x <= 0.0 { 0.0 - x } else { x }, is the number without its sign. Assumes nothing.
use Prim.Native.Nat.{ℕ, zero, suc, ◌*◌, ◌<◌}
use mathlib.Core.Path.{◌≡◌, refl, sym, ap, ◌∙◌}
use mathlib.Core.Logic.{◌⊎◌, inl, inr}
use mathlib.Core.Bool.{Bool, true, false, beq, ◌&&◌, ◌||◌, cond}
use native.Mathlib.Nat.{zero-lt-suc, mul-pos, zero-mul, le_of_eq, lt_of_le_of_lt}
use borrow.Author.Tests.{eq-eqb, lt-ltb}
use lib.Dec.{T, eqb, eqb-suc-zero}
use lib.IntN.{ℤ}
use lib.Ieee.{level, Float, nan, inf, fin, Format, binary64, up, down, lt, le, eq, is_nan, of_bits, add, sub, neg, fits}
use lib.Ieee.Fits.{up_pos, neg-fits}
use lib.Ieee.Scale.{finite}
use Rattle.numbers.proofs.Order.{not_negative, no, ne_zero, lt_left, not-lt}
use Rattle.numbers.proofs.Value.{zero_exp}
use Rattle.numbers.proofs.Zero.{+0, -0, +0add, sub_self}
use Rattle.numbers.proofs.Chains.{lt_not_le, lt-not_eq}
use Rattle.numbers.specs.Floats.{is_zero, magnitude_of, sign, zero64}

-- as the program has it
abbrev cleared : Float → Float
cleared x = cond (le x zero64) (sub binary64 zero64 x) x

pub above_zero : (m : ℕ) (e : ℤ) → lt zero64 (fin false (suc m) e) ≡ true
unfolding lt of_bits
above_zero m e = lt-ltb (0 * down e) (suc m * up e * 1) (lt_of_le_of_lt (le_of_eq (zero-mul (down e))) (mul-pos (mul-pos (zero-lt-suc m) (up_pos e)) (zero-lt-suc 0)))

minus_le : (m : ℕ) (e : ℤ) → le (fin true m e) zero64 ≡ true
minus_le m e = not-lt zero64 (fin true m e) (unfold is_nan of_bits in refl) (unfold is_nan in refl) (unfold lt of_bits in refl)

minus_sub : (m : ℕ) (e : ℤ) → sub binary64 zero64 (fin true m e) ≡ add binary64 +0 (fin false m e)
unfolding sub neg of_bits
minus_sub m e = refl

-- the magnitude is exact: it is x without its sign, for every value that fits, a NaN and the infinities included
pub magnitude_is : (x : Float) → T (fits binary64 x) → cleared x ≡ magnitude_of x
magnitude_is nan F = unfold le in refl
magnitude_is (inf true) F = unfold le sub add neg of_bits in refl
magnitude_is (inf false) F = unfold le of_bits in refl
magnitude_is (fin true m e) F =
    let G : T (fits binary64 (fin false m e)) = unfold neg in neg-fits binary64 (fin true m e) F in
    rw (minus_le m e) (minus_sub m e ∙ +0add binary64 (fin false m e) G refl)
magnitude_is (fin false zero e) F =
    rw (zero_exp binary64 false e F) (unfold le of_bits in sub_self binary64 +0 refl)
magnitude_is (fin false (suc m) e) F = rw (lt_not_le zero64 (fin false (suc m) e) (above_zero m e))

-- ---- what stays of x, and that a magnitude is never below zero
pub magnitude_zero : (x : Float) → is_zero (magnitude_of x) ≡ is_zero x
magnitude_zero nan = refl
magnitude_zero (inf s) = refl
magnitude_zero (fin s m e) = refl

pub magnitude_sign : (x : Float) → sign (magnitude_of x) ≡ false
unfolding sign
magnitude_sign nan = refl
magnitude_sign (inf s) = refl
magnitude_sign (fin s m e) = refl

pub magnitude_finite : (x : Float) → finite (magnitude_of x) ≡ finite x
magnitude_finite nan = refl
magnitude_finite (inf s) = refl
magnitude_finite (fin s m e) = refl

pub magnitude_nan : (x : Float) → is_nan (magnitude_of x) ≡ is_nan x
unfolding is_nan
magnitude_nan nan = refl
magnitude_nan (inf s) = refl
magnitude_nan (fin s m e) = refl

pub magnitude_fits : (f : Format) (x : Float) → T (fits f x) → T (fits f (magnitude_of x))
unfolding fits
magnitude_fits f nan h = tt
magnitude_fits f (inf s) h = tt
magnitude_fits f (fin s zero e) h = h
magnitude_fits f (fin s (suc m) e) h = h

pub magnitude_not_negative : (x : Float) → lt (magnitude_of x) zero64 ≡ false
magnitude_not_negative x = not_negative (magnitude_of x) (magnitude_sign x)

-- ---- zeros
and_same : (x y : Bool) → (x && (y || x)) ≡ x
and_same true true = refl
and_same true false = refl
and_same false y = refl

scaled_zero : (m u : ℕ) → 0 < u → eqb (m * u * 1) 0 ≡ eqb m 0
scaled_zero zero u h = eq-eqb (0 * u * 1) 0 (simp zero-mul)
scaled_zero (suc m) u h = ne_zero (suc m * u * 1) (mul-pos (mul-pos (zero-lt-suc m) h) (zero-lt-suc 0)) ∙ sym (eqb-suc-zero m)

level_zero : (s : Bool) (m a b : ℕ) → b ≡ 0 → eqb a 0 ≡ eqb m 0 → level s a false b ≡ eqb m 0
level_zero s m a b p q = rw p (and_same (eqb a 0) (beq s false) ∙ q)

-- the test x == 0.0
pub zero_test : (x : Float) → eq x zero64 ≡ is_zero x
zero_test nan = unfold eq in refl
zero_test (inf s) = unfold eq of_bits in refl
zero_test (fin s m e) = unfold eq of_bits in level_zero s m (m * up e * 1) (0 * down e) (zero-mul (down e)) (scaled_zero m (up e) (up_pos e))

pub zero_values : (f : Format) (x : Float) → T (fits f x) → is_zero x ≡ true → (x ≡ +0) ⊎ (x ≡ -0)
zero_values f nan F h = no h
zero_values f (inf s) F h = no h
zero_values f (fin true zero e) F h = inr (ap (λ (z : ℤ). fin true 0 z) (zero_exp f true e F))
zero_values f (fin false zero e) F h = inl (ap (λ (z : ℤ). fin false 0 z) (zero_exp f false e F))
zero_values f (fin s (suc m) e) F h = no (sym (eqb-suc-zero m) ∙ h)

-- ---- the magnitude of anything that is neither a zero nor a NaN is above zero; so is that of a number below zero
pub magnitude_above : (x : Float) → is_nan x ≡ false → is_zero x ≡ false → lt zero64 (magnitude_of x) ≡ true
magnitude_above nan n z = no (sym (unfold is_nan in n))
magnitude_above (inf s) n z = unfold lt of_bits in refl
magnitude_above (fin s zero e) n z = no (sym z)
magnitude_above (fin s (suc m) e) n z = above_zero m e

pub negative_above : (x : Float) → lt x zero64 ≡ true → lt zero64 (magnitude_of x) ≡ true
negative_above x h = magnitude_above x (lt_left x zero64 h) (sym (zero_test x) ∙ lt-not_eq x zero64 h)
