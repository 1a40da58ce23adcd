-- Adding a zero, and a value less itself. Assumes nothing.
use Prim.Native.Nat.{ℕ, zero, suc, ◌+◌, ◌-◌, ◌*◌, ◌<◌, ◌≤◌}
use mathlib.Core.Path.{◌≡◌, refl, sym, ap, ◌∙◌}
use mathlib.Core.Bool.{Bool, true, false, ◌&&◌, beq, cond}
use mathlib.Core.Logic.{◌⊎◌, inl, inr}
use native.Mathlib.Nat.{le_refl, mul_comm, mul-one, mul-pos, zero-mul, zero-lt-suc}
use native.Mathlib.Omega.{arith}
use borrow.Author.Tests.{lt-ltb, le-ltb, ltb-true, ltb-false}
use lib.Dec.{T, ltb, eqb, eqb-suc-zero}
use lib.IntN.{ℤ, pos}
use lib.Ieee.{Float, nan, inf, fin, Format, binary64, up, down, round, fits, add, sub, neg, sum, of_bits}
use lib.Ieee.Fits.{down_pos, up_pos}
use lib.Ieee.Scale.{finite}
use Rattle.numbers.proofs.Order.{no, round_signed}
use Rattle.numbers.proofs.Value.{zero_exp, round_own, round_zero}
use Rattle.numbers.specs.Floats.{is_zero, sign, zero64}

-- +0 and -0, in either format
abbrev pub +0 : Float
+0 = fin false 0 (pos 0)

abbrev pub -0 : Float
-0 = fin true 0 (pos 0)

pub zero64_is : zero64 ≡ +0
unfolding of_bits
zero64_is = refl

-- ---- x + +0 and x + -0
none_under : (a b : ℕ) → b ≡ 0 → ltb a b ≡ false
none_under a b e = le-ltb a b (omega arith)

some_over : (a b : ℕ) → b ≡ 0 → 0 < a → ltb b a ≡ true
some_over a b e h = lt-ltb b a (omega arith)

sum-own : (m : ℕ) (e : ℤ) (x : ℕ) → x ≡ m * up e → m * up e * (down e * 1) ≡ x * down e
sum-own m e x h = rw (h, mul-one)

-- the sum of ±m * 2 ^ e and a zero, as `add` has it
sum_zero : (f : Format) (s t : Bool) (m : ℕ) (e : ℤ) → T (fits f (fin s (suc m) e)) → (a b c : ℕ) → a ≡ suc m * up e → b ≡ 0 → c ≡ down e → sum f s a t b c ≡ fin s (suc m) e
unfolding sum
sum_zero f s t m e F a b c p q r =
    go (beq s t)
  where
    C : 0 < c
    C = rw r (down_pos e)

    A : 0 < a
    A = rw p (mul-pos (zero-lt-suc m) (up_pos e))

    own : (x : ℕ) → x ≡ a → round f s x c ≡ fin s (suc m) e
    own x h = round_own f s (suc m) e F x c C (rw (h, p, r))

    plus : (x y : ℕ) → y ≡ 0 → x + y ≡ x
    plus x y h = omega arith

    less : (x y : ℕ) → y ≡ 0 → x - y ≡ x
    less x y h = omega arith

    here : (u : Bool) → round f (u && true) (a - b) c ≡ round f u (a - b) c
    here true = refl
    here false = refl

    go : (u : Bool) → cond u (round f s (a + b) c) (cond (ltb a b) (round f t (b - a) c) (round f (s && ltb b a) (a - b) c)) ≡ fin s (suc m) e
    go true = own (a + b) (plus a b q)
    go false = rw (none_under a b q, some_over a b q A) (here s ∙ own (a - b) (less a b q))

-- two zeros: the sum is -0 only where both are
two-zeros : (f : Format) (s t : Bool) (a b c : ℕ) → a ≡ 0 → b ≡ 0 → 0 < c → sum f s a t b c ≡ fin (s && t) 0 (pos 0)
unfolding sum
two-zeros f true true a b c p q C = rw (p, q) (round_zero f true c C)
two-zeros f false false a b c p q C = rw (p, q) (round_zero f false c C)
two-zeros f true false a b c p q C = rw (p, q) (round_zero f false c C)
two-zeros f false true a b c p q C = rw (p, q) (round_zero f false c C)

times_zero : (a b : ℕ) → 0 * a * b ≡ 0
times_zero a b = simp zero-mul

-- a zero that fits plus a zero
pub zeros-add : (f : Format) (s t : Bool) → add f (fin s 0 (pos 0)) (fin t 0 (pos 0)) ≡ fin (s && t) 0 (pos 0)
unfolding add
zeros-add f s t = two-zeros f s t 0 0 1 refl refl (zero-lt-suc 0)

-- anything else plus a zero
pub add_zero_right : (f : Format) (x : Float) (t : Bool) → T (fits f x) → is_zero x ≡ false → add f x (fin t 0 (pos 0)) ≡ x
unfolding add
add_zero_right f nan t p z = refl
add_zero_right f (inf s) t p z = refl
add_zero_right f (fin s zero e) t p z = no (sym z)
add_zero_right f (fin s (suc m) e) t p z = sum_zero f s t m e p (suc m * up e * 1) (0 * down e) (down e * 1) (mul-one (suc m * up e)) (zero-mul (down e)) (mul-one (down e))

-- ---- the order of a sum's two terms does not matter
swap : (x y : ℕ) → x + y ≡ y + x
swap x y = omega arith

clash : (x y : ℕ) → x < y → y < x → ⊥
clash x y h k = omega arith

level : (x y : ℕ) → x ≤ y → y ≤ x → x - y ≡ y - x
level x y h k = omega arith

mixed : (f : Format) (a b c : ℕ) → sum f true a false b c ≡ sum f false b true a c
unfolding sum
mixed f a b c = go (ltb a b) (ltb b a) refl refl
  where
    go : (u v : Bool) → ltb a b ≡ u → ltb b a ≡ v → cond u (round f false (b - a) c) (round f v (a - b) c) ≡ cond v (round f true (a - b) c) (round f false (b - a) c)
    go true true p q = absurd (clash a b (ltb-true a b p) (ltb-true b a q))
    go true false p q = refl
    go false true p q = refl
    go false false p q = ap (λ (z : ℕ). round f false z c) (level a b (ltb-false b a q) (ltb-false a b p))

sum_comm : (f : Format) (s t : Bool) (a b c : ℕ) → sum f s a t b c ≡ sum f t b s a c
sum_comm f true true a b c = unfold sum in ap (λ (z : ℕ). round f true z c) (swap a b)
sum_comm f false false a b c = unfold sum in ap (λ (z : ℕ). round f false z c) (swap a b)
sum_comm f true false a b c = mixed f a b c
sum_comm f false true a b c = sym (mixed f b a c)

pub add_comm : (f : Format) (x y : Float) → add f x y ≡ add f y x
unfolding add
add_comm f nan nan = refl
add_comm f nan (inf t) = refl
add_comm f nan (fin t n d) = refl
add_comm f (inf s) nan = refl
add_comm f (inf true) (inf true) = refl
add_comm f (inf true) (inf false) = refl
add_comm f (inf false) (inf true) = refl
add_comm f (inf false) (inf false) = refl
add_comm f (inf s) (fin t n d) = refl
add_comm f (fin s m e) nan = refl
add_comm f (fin s m e) (inf t) = refl
add_comm f (fin s m e) (fin t n d) =
    sum_comm f s t (m * up e * down d) (n * up d * down e) (down e * down d) ∙ ap (λ (z : ℕ). sum f t (n * up d * down e) s (m * up e * down d) z) (mul_comm (down e) (down d))

pub add_zero_left : (f : Format) (x : Float) (t : Bool) → T (fits f x) → is_zero x ≡ false → add f (fin t 0 (pos 0)) x ≡ x
add_zero_left f x t p z = add_comm f (fin t 0 (pos 0)) x ∙ add_zero_right f x t p z

-- ---- +0 changes nothing but -0, which it turns into +0; -0 changes nothing at all
abbrev pub is_0 : Float → Bool
is_0 nan = false
is_0 (inf s) = false
is_0 (fin s m e) = s && eqb m 0

off_zero : (b : Bool) → (b && true) ≡ false → b ≡ false
off_zero true h = h
off_zero false h = refl

stays : (b : Bool) → (b && true) ≡ b
stays true = refl
stays false = refl

-- a value that fits is a zero in the one writing, or none
pub zero_or_not : (f : Format) (x : Float) → T (fits f x) → (x ≡ fin (sign x) 0 (pos 0)) ⊎ (is_zero x ≡ false)
unfolding sign
zero_or_not f nan p = inr refl
zero_or_not f (inf s) p = inr refl
zero_or_not f (fin s zero e) p = inl (ap (λ (z : ℤ). fin s 0 z) (zero_exp f s e p))
zero_or_not f (fin s (suc m) e) p = inr (eqb-suc-zero m)

pub add+0 : (f : Format) (x : Float) → T (fits f x) → is_0 x ≡ false → add f x +0 ≡ x
add+0 f x p z = go (zero_or_not f x p)
  where
    go : (x ≡ fin (sign x) 0 (pos 0)) ⊎ (is_zero x ≡ false) → add f x +0 ≡ x
    go (inl e) =
        let k : sign x ≡ false = off_zero (sign x) (rw e at z) in
        let h : x ≡ +0 = e ∙ ap (λ (b : Bool). fin b 0 (pos 0)) k in
        rw h (zeros-add f false false)
    go (inr h) = add_zero_right f x false p h

pub add_0 : (f : Format) (x : Float) → T (fits f x) → add f x -0 ≡ x
add_0 f x p = go (zero_or_not f x p)
  where
    go : (x ≡ fin (sign x) 0 (pos 0)) ⊎ (is_zero x ≡ false) → add f x -0 ≡ x
    go (inl e) = ap (λ (y : Float). add f y -0) e ∙ zeros-add f (sign x) true ∙ ap (λ (b : Bool). fin b 0 (pos 0)) (stays (sign x)) ∙ sym e
    go (inr h) = add_zero_right f x true p h

pub -0+0 : (f : Format) → add f -0 +0 ≡ +0
-0+0 f = zeros-add f true false

pub +0add : (f : Format) (x : Float) → T (fits f x) → is_0 x ≡ false → add f +0 x ≡ x
+0add f x p z = add_comm f +0 x ∙ add+0 f x p z

pub -0add : (f : Format) (x : Float) → T (fits f x) → add f -0 x ≡ x
-0add f x p = add_comm f -0 x ∙ add_0 f x p

-- the same with a program's 0.0
pub add-zero64 : (x : Float) → T (fits binary64 x) → is_0 x ≡ false → add binary64 x zero64 ≡ x
add-zero64 x p z = rw zero64_is (add+0 binary64 x p z)

pub zero64-add : (x : Float) → T (fits binary64 x) → is_0 x ≡ false → add binary64 zero64 x ≡ x
zero64-add x p z = rw zero64_is (+0add binary64 x p z)

pub minus_zero64 : add binary64 -0 zero64 ≡ zero64
minus_zero64 = rw zero64_is (-0+0 binary64)

-- ---- a value whose sign is clear, plus a zero
pub clear_is_not_0 : (x : Float) → sign x ≡ false → is_0 x ≡ false
unfolding sign
clear_is_not_0 nan h = refl
clear_is_not_0 (inf s) h = refl
clear_is_not_0 (fin true m e) h = no (sym h)
clear_is_not_0 (fin false m e) h = refl

pub add_zero_magnitude : (f : Format) (x y : Float) → T (fits f x) → T (fits f y) → sign x ≡ false → is_zero y ≡ true → add f x y ≡ x
add_zero_magnitude f x y p q s z = go (zero_or_not f y q)
  where
    plus : (t : Bool) → add f x (fin t 0 (pos 0)) ≡ x
    plus true = add_0 f x p
    plus false = add+0 f x p (clear_is_not_0 x s)

    go : (y ≡ fin (sign y) 0 (pos 0)) ⊎ (is_zero y ≡ false) → add f x y ≡ x
    go (inl e) = rw e (plus (sign y))
    go (inr h) = no (sym h ∙ z)

sub_self_nat : (a : ℕ) → a - a ≡ 0
sub_self_nat a = omega arith

-- ---- x - x: +0 for every finite x, and a NaN for an infinity and a NaN
pub sub_self : (f : Format) (x : Float) → finite x ≡ true → sub f x x ≡ +0
unfolding sub add neg sum
sub_self f nan h = no h
sub_self f (inf s) h = no h
sub_self f (fin true m e) h = rw (le-ltb (m * up e * down e) (m * up e * down e) (le_refl (m * up e * down e)), sub_self_nat (m * up e * down e)) (round_zero f false (down e * down e) (mul-pos (down_pos e) (down_pos e)))
sub_self f (fin false m e) h = rw (le-ltb (m * up e * down e) (m * up e * down e) (le_refl (m * up e * down e)), sub_self_nat (m * up e * down e)) (round_zero f false (down e * down e) (mul-pos (down_pos e) (down_pos e)))

pub sub_self_nan : (f : Format) (x : Float) → finite x ≡ false → sub f x x ≡ nan
unfolding sub add neg
sub_self_nan f nan h = refl
sub_self_nan f (inf true) h = refl
sub_self_nan f (inf false) h = refl
sub_self_nan f (fin s m e) h = no (sym h)

pub add_nan_right : (f : Format) (x : Float) → add f x nan ≡ nan
unfolding add
add_nan_right f nan = refl
add_nan_right f (inf s) = refl
add_nan_right f (fin s m e) = refl

pub add_nan_left : (f : Format) (x : Float) → add f nan x ≡ nan
unfolding add
add_nan_left f x = refl

-- the sum of two values whose signs are clear has its sign clear
pub add_clear : (f : Format) (x y : Float) → sign x ≡ false → sign y ≡ false → sign (add f x y) ≡ false
unfolding add sum
add_clear f nan y p q = unfold sign in refl
add_clear f (inf s) nan p q = unfold sign in refl
add_clear f (inf true) (inf t) p q = no (sym (unfold sign in p))
add_clear f (inf false) (inf true) p q = no (sym (unfold sign in q))
add_clear f (inf false) (inf false) p q = unfold sign in refl
add_clear f (inf s) (fin t n d) p q = unfold sign in p
add_clear f (fin s m e) nan p q = unfold sign in refl
add_clear f (fin s m e) (inf t) p q = unfold sign in q
add_clear f (fin true m e) (fin t n d) p q = no (sym (unfold sign in p))
add_clear f (fin false m e) (fin true n d) p q = no (sym (unfold sign in q))
add_clear f (fin false m e) (fin false n d) p q = round_signed f false (m * up e * down d + n * up d * down e) (down e * down d)

pub sub_self64 : (x : Float) → finite x ≡ true → sub binary64 x x ≡ zero64
sub_self64 x h = sub_self binary64 x h ∙ sym zero64_is
