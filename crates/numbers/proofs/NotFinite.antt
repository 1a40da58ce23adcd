-- What is not finite stays so: a sum or a product with it is not finite, a quotient of two such is a NaN. The difference of
-- equal numbers is a zero, and nothing over it is finite. Assumes nothing.
use Prim.Native.Nat.{ℕ, ◌+◌, ◌-◌, ◌*◌, ◌<◌}
use mathlib.Core.Path.{◌≡◌, refl, sym}
use mathlib.Core.Bool.{Bool, true, false, not, ◌&&◌, cond}
use native.Mathlib.Nat.{mul-pos}
use native.Mathlib.Omega.{arith}
use borrow.Author.Tests.{eqb-true, le-ltb}
use lib.Dec.{eqb, ltb}
use lib.Ieee.{Float, Format, nan, inf, fin, add, sub, mul, div, neg, sum, round, eq, up, down, level, unlike}
use lib.Ieee.Fits.{down_pos}
use lib.Ieee.Scale.{finite}
use Rattle.numbers.specs.Floats.{is_zero}
use Rattle.numbers.proofs.Order.{no, and_1, and_2}
use Rattle.numbers.proofs.Value.{round_zero}
use Rattle.numbers.proofs.Zero.{add_comm, sub_self_nan}

-- ---- sums, products and quotients
pub add_left_not_finite : (f : Format) (x y : Float) → finite x ≡ false → finite (add f x y) ≡ false
unfolding add
add_left_not_finite f nan y h = refl
add_left_not_finite f (inf s) nan h = refl
add_left_not_finite f (inf true) (inf true) h = refl
add_left_not_finite f (inf true) (inf false) h = refl
add_left_not_finite f (inf false) (inf true) h = refl
add_left_not_finite f (inf false) (inf false) h = refl
add_left_not_finite f (inf s) (fin t n d) h = refl
add_left_not_finite f (fin s m e) y h = no (sym h)

pub add_right_not_finite : (f : Format) (x y : Float) → finite y ≡ false → finite (add f x y) ≡ false
add_right_not_finite f x y h = rw (add_comm f x y) (add_left_not_finite f y x h)

nan_or_infinite : (b s : Bool) → finite (cond b nan (inf s)) ≡ false
nan_or_infinite true s = refl
nan_or_infinite false s = refl

pub mul_left_not_finite : (f : Format) (x y : Float) → finite x ≡ false → finite (mul f x y) ≡ false
unfolding mul
mul_left_not_finite f nan y h = refl
mul_left_not_finite f (inf s) nan h = refl
mul_left_not_finite f (inf s) (inf t) h = refl
mul_left_not_finite f (inf s) (fin t n d) h = nan_or_infinite (eqb n 0) (unlike s t)
mul_left_not_finite f (fin s m e) y h = no (sym h)

pub div-not_finite : (f : Format) (x y : Float) → finite x ≡ false → finite y ≡ false → div f x y ≡ nan
unfolding div
div-not_finite f nan y h k = refl
div-not_finite f (inf s) nan h k = refl
div-not_finite f (inf s) (inf t) h k = refl
div-not_finite f (inf s) (fin t n d) h k = no (sym k)
div-not_finite f (fin s m e) y h k = no (sym h)

-- ---- a difference of equal numbers
zero_round : (f : Format) (s : Bool) (c : ℕ) → 0 < c → is_zero (round f s 0 c) ≡ true
zero_round f s c p = rw (round_zero f s c p)

-- over plain numbers: a and b with like signs, and with unlike ones, where both are zeros
like_signs : (f : Format) (s t : Bool) (a b c : ℕ) → 0 < c → eqb a b ≡ true
    → is_zero (cond (ltb a b) (round f t (b - a) c) (round f (s && ltb b a) (a - b) c)) ≡ true
like_signs f s t a b c p h =
    let e : a ≡ b = eqb-true a b h in
    let z : a - b ≡ 0 = omega arith in
    rw (le-ltb a b (omega arith), z) (zero_round f (s && ltb b a) c p)

both_zero : (f : Format) (s : Bool) (a b c : ℕ) → 0 < c → eqb a b ≡ true → eqb a 0 ≡ true → is_zero (round f s (a + b) c) ≡ true
both_zero f s a b c p h k =
    let e : a ≡ b = eqb-true a b h in
    let d : a ≡ 0 = eqb-true a 0 k in
    let z : a + b ≡ 0 = omega arith in
    rw z (zero_round f s c p)

level_sum : (f : Format) (s t : Bool) (a b c : ℕ) → 0 < c → level s a t b ≡ true → is_zero (sum f s a (not t) b c) ≡ true
unfolding sum
level_sum f true true a b c p h = like_signs f true false a b c p (and_1 (eqb a b) true h)
level_sum f false false a b c p h = like_signs f false true a b c p (and_1 (eqb a b) true h)
level_sum f true false a b c p h = both_zero f true a b c p (and_1 (eqb a b) (eqb a 0) h) (and_2 (eqb a b) (eqb a 0) h)
level_sum f false true a b c p h = both_zero f false a b c p (and_1 (eqb a b) (eqb a 0) h) (and_2 (eqb a b) (eqb a 0) h)

pub equal_difference : (f : Format) (x y : Float) → eq x y ≡ true → finite x ≡ true → is_zero (sub f x y) ≡ true
unfolding eq sub neg add
equal_difference f nan y h k = no h
equal_difference f (inf s) y h k = no k
equal_difference f (fin s m e) nan h k = no h
equal_difference f (fin s m e) (inf t) h k = no h
equal_difference f (fin s m e) (fin t n d) h k =
    level_sum f s t (m * up e * down d) (n * up d * down e) (down e * down d) (mul-pos (down_pos e) (down_pos d)) h

over_nan : (f : Format) (x : Float) → finite (div f x nan) ≡ false
unfolding div
over_nan f nan = refl
over_nan f (inf s) = refl
over_nan f (fin s m e) = refl

pub over_zero : (f : Format) (x y : Float) → is_zero y ≡ true → finite (div f x y) ≡ false
unfolding div
over_zero f nan y h = refl
over_zero f (inf s) nan h = refl
over_zero f (inf s) (inf t) h = refl
over_zero f (inf s) (fin t n d) h = refl
over_zero f (fin s m e) nan h = refl
over_zero f (fin s m e) (inf t) h = no h
over_zero f (fin s m e) (fin t n d) h = rw h (nan_or_infinite (eqb m 0) (unlike s t))

-- equal infinities too: their difference is a NaN
pub over_difference : (f : Format) (w x y : Float) → eq x y ≡ true → finite (div f w (sub f x y)) ≡ false
over_difference f w nan y h = no (unfold eq in h)
over_difference f w (inf s) nan h = no (unfold eq in h)
over_difference f w (inf s) (fin t n d) h = no (unfold eq in h)
over_difference f w (inf true) (inf true) h = rw (sub_self_nan f (inf true) refl) (over_nan f w)
over_difference f w (inf false) (inf false) h = rw (sub_self_nan f (inf false) refl) (over_nan f w)
over_difference f w (inf true) (inf false) h = no (unfold eq in h)
over_difference f w (inf false) (inf true) h = no (unfold eq in h)
over_difference f w (fin s m e) y h = over_zero f w (sub f (fin s m e) y) (equal_difference f (fin s m e) y h refl)
