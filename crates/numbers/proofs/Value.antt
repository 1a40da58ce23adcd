-- A value that fits is the only one with its number and sign, so that rounding that number gives it back. Assumes nothing.
use Prim.Native.Nat.{ℕ, zero, suc, ◌+◌, ◌-◌, ◌*◌, ◌^◌, ◌%◌, ◌<◌, ◌≤◌}
use mathlib.Core.Path.{◌≡◌, refl, sym, ap, ◌∙◌, subst}
use mathlib.Core.Bool.{Bool, ◌&&◌}
use native.Mathlib.Nat.{pow-succ', mul_assoc, mul_comm, mul-one, one-mul, mul_right_comm, mul-pos, mul-lt-mul_of_pos_right, lt_of_mul-lt-mul_right, lt_of_not-le, not-le_of_lt, le_of_suc-le-suc, zero-mul, lt_irrefl, zero-lt-suc, eq_of_mul-eq-mul_right}
use native.Mathlib.Omega.{arith}
use lib.Dec.{T, ltb, leb, eqb, eqb→eq, ltb→lt, leb→le}
use lib.Pow.{pow-add, pow_pos, pow-lt}
use lib.IntN.{ℤ, pos, negsuc}
use lib.Ieee.{Float, nan, inf, fin, Format, up, down, round, low, emax, prec, fits}
use lib.Ieee.Fits.{down_pos, up_pos, round-fits, and_l, and_r}
use lib.Ieee.Exact.{HasValue, round_exact}
use lib.Ieee.Scale.{round_same}
use lib.Ieee.Digits.{back}
use Rattle.numbers.proofs.Order.{odd_exp, fits_odd}

-- ---- a / c is x / de and y / dg: the two are in the same proportion
same_ratio : (p q de dg a c : ℕ) → 0 < c → p * c ≡ a * de → q * c ≡ a * dg → p * dg ≡ q * de
same_ratio p q de dg a c C h k =
    eq_of_mul-eq-mul_right c C (p * dg) (q * de)
    (mul_right_comm p dg c ∙ ap (λ (z : ℕ). z * dg) h ∙ mul_right_comm a de dg ∙ ap (λ (z : ℕ). z * de) (sym k) ∙ mul_right_comm q c de)

two_up : (p : ℕ) → 0 < p → 2 * p ≡ 1 → ⊥
two_up p h e = omega arith

flat : (e : ℤ) → up e * down e ≡ 1 → e ≡ pos 0
flat (pos zero) h = refl
flat (pos (suc k)) h = absurd (two_up (2 ^ k) (pow_pos k) (sym (pow-succ' 2 k) ∙ sym (mul-one (2 ^ suc k)) ∙ h))
flat (negsuc k) h = absurd (two_up (2 ^ k) (pow_pos k) (sym (pow-succ' 2 k) ∙ sym (one-mul (2 ^ suc k)) ∙ h))

-- a zero that fits is written in the one way
pub zero_exp : (f : Format) (s : Bool) (e : ℤ) → T (fits f (fin s zero e)) → e ≡ pos 0
unfolding fits
zero_exp f s e t = flat e (eqb→eq (up e * down e) 1 t)

no_zero : (m a : ℕ) (e g : ℤ) (c : ℕ) → 0 < c → 0 * up e * c ≡ a * down e → suc m * up g * c ≡ a * down g → ⊥
no_zero m a e g c C h k =
    let z : 0 * up e * down g ≡ suc m * up g * down e = same_ratio (0 * up e) (suc m * up g) (down e) (down g) a c C h k in
    lt_irrefl 0 (subst (λ (x : ℕ). 0 < x) (sym z ∙ simp zero-mul) (mul-pos (mul-pos (zero-lt-suc m) (up_pos g)) (down_pos e)))

pub value_unique : (f : Format) (x y : Float) (s : Bool) (a c : ℕ) → T (fits f x) → T (fits f y) → 0 < c → HasValue x s a c → HasValue y s a c → x ≡ y
value_unique f nan y s a c p q C v w = absurd v
value_unique f (inf t) y s a c p q C v w = absurd v
value_unique f (fin t m e) nan s a c p q C v w = absurd w
value_unique f (fin t m e) (inf u) s a c p q C v w = absurd w
value_unique f (fin t zero e) (fin u zero g) s a c p q C v w = λ i. fin ((v.0 ∙ sym w.0) i) zero ((zero_exp f t e p ∙ sym (zero_exp f u g q)) i)
value_unique f (fin t zero e) (fin u (suc n) g) s a c p q C v w = absurd (no_zero n a e g c C v.1 w.1)
value_unique f (fin t (suc m) e) (fin u zero g) s a c p q C v w = absurd (no_zero m a g e c C w.1 v.1)
value_unique f (fin t (suc m) e) (fin u (suc n) g) s a c p q C v w =
    let r = odd_exp (suc m) (suc n) e g (fits_odd f t m e p) (fits_odd f u n g q) (same_ratio (suc m * up e) (suc n * up g) (down e) (down g) a c C v.1 w.1) in
    λ i. fin ((v.0 ∙ sym w.0) i) (r.0 i) (r.1 i)

-- ---- what `fits` says of a number that is not zero
pub fits_says : (f : Format) (s : Bool) (m : ℕ) (e : ℤ) → T (fits f (fin s (suc m) e)) → (suc m < 2 ^ prec f) × (down e ≤ 2 ^ low f) × (suc m * up e < 2 ^ suc (emax f) * down e)
unfolding fits
fits_says f s m e t =
    let a : Bool = eqb (suc m % 2) 1 in
    let b : Bool = ltb (suc m) (2 ^ prec f) in
    let c : Bool = leb (down e) (2 ^ low f) in
    let d : Bool = ltb (suc m * up e) (2 ^ suc (emax f) * down e) in
    (ltb→lt (suc m) (2 ^ prec f) (and_r a b (and_l (a && b) c (and_l (a && b && c) d t))), leb→le (down e) (2 ^ low f) (and_r (a && b) c (and_l (a && b && c) d t)), ltb→lt (suc m * up e) (2 ^ suc (emax f) * down e) (and_r (a && b && c) d t))

pub pow_back : (i j : ℕ) → 2 ^ i ≤ 2 ^ j → i ≤ j
pow_back i j h = le_of_suc-le-suc (lt_of_not-le (λ (g : suc j ≤ i). not-le_of_lt (pow-lt g) h))

-- 2 ^ e is 2 ^ j of the format's smallest values
shift : (l : ℕ) (e : ℤ) → down e ≤ 2 ^ l → (j : ℕ) × (2 ^ j * down e ≡ up e * 2 ^ l)
shift l (pos k) h = (k + l, mul-one (2 ^ (k + l)) ∙ pow-add 2 k l)
shift l (negsuc k) h = (l - suc k, sym (pow-add 2 (l - suc k) (suc k)) ∙ ap (λ (z : ℕ). 2 ^ z) (back l (suc k) (pow_back (suc k) l h)) ∙ sym (one-mul (2 ^ l)))

own_exact : (f : Format) (s : Bool) (m : ℕ) (e : ℤ) → T (fits f (fin s m e)) → HasValue (round f s (m * up e) (down e)) s (m * up e) (down e)
own_exact f s zero e t = round_exact f s (0 * up e) (down e) 0 0 (down_pos e) (pow_pos (prec f)) (pow_pos (low f + suc (emax f))) (simp zero-mul)
own_exact f s (suc m) e t =
    let z = fits_says f s m e t in
    let l = low f in
    let j = shift l e z.1 in
    let v : suc m * up e * 2 ^ l ≡ suc m * 2 ^ j.0 * down e = mul_assoc (suc m) (up e) (2 ^ l) ∙ ap (λ (x : ℕ). suc m * x) (sym j.1) ∙ sym (mul_assoc (suc m) (2 ^ j.0) (down e)) in
    let w : suc m * up e * 2 ^ l < 2 ^ (l + suc (emax f)) * down e =
    subst (λ (x : ℕ). suc m * up e * 2 ^ l < x) (mul_right_comm (2 ^ suc (emax f)) (down e) (2 ^ l) ∙ ap (λ (x : ℕ). x * down e) (mul_comm (2 ^ suc (emax f)) (2 ^ l) ∙ sym (pow-add 2 l (suc (emax f)))))
    (mul-lt-mul_of_pos_right z.2 (pow_pos l)) in
    round_exact f s (suc m * up e) (down e) (suc m) j.0 (down_pos e) z.0 (lt_of_mul-lt-mul_right (down e) (subst (λ (x : ℕ). x < 2 ^ (l + suc (emax f)) * down e) v w)) v

-- the number of a value that fits, written as any fraction, rounds to that value
pub round_own : (f : Format) (s : Bool) (m : ℕ) (e : ℤ) → T (fits f (fin s m e)) → (a c : ℕ) → 0 < c → m * up e * c ≡ a * down e → round f s a c ≡ fin s m e
round_own f s m e t a c C h =
    round_same f s a c (m * up e) (down e) C (down_pos e) (sym h)
    ∙ value_unique f (round f s (m * up e) (down e)) (fin s m e) s (m * up e) (down e) (round-fits f s (m * up e) (down e)) t (down_pos e) (own_exact f s m e t) (refl, refl)

pub round_zero : (f : Format) (s : Bool) (c : ℕ) → 0 < c → round f s 0 c ≡ fin s 0 (pos 0)
round_zero f s c C = round_own f s 0 (pos 0) (unfold fits in tt) 0 c C (simp zero-mul)
