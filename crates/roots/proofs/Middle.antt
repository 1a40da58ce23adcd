-- Halving a cell whose ends are whole multiples of 2 ^ -k: the midpoint is exact and strictly between them, and both halves are
-- such cells. Assumes nothing.
use Prim.Native.Nat.{ℕ, suc, ◌+◌, ◌-◌, ◌*◌, ◌^◌, ◌<◌, ◌≤◌}
use mathlib.Core.Path.{◌≡◌, refl, sym, ap, ◌∙◌, subst}
use mathlib.Core.Bool.{Bool, true, false, not}
use mathlib.Core.Logic.{◌⊎◌, inl, inr}
use lib.Ieee.Positive.{first_pos}
use native.Mathlib.Nat.{lt_of_mul-lt-mul_right, mul-lt-mul_of_pos_right, mul_assoc, mul_comm, mul_left_comm, mul_right_comm, mul-one, add-mul, mul-pos, zero-mul, zero-lt-suc, pow-suc, pow-succ', mul-mul-mul_comm, lt_of_lt_of_le, eq_of_mul-eq-mul_right, le_trans, le_of_eq}
use native.Mathlib.Omega.{arith}
use borrow.Author.Tests.{lt-ltb}
use lib.Pow.{pow-add, pow_pos, pow_mono, pow-lt, shl_lt}
use lib.IntN.{ℤ}
use lib.Ieee.{Float, nan, inf, fin, Format, binary64, up, down, round, unlike, add, mul, sum, lt, of_bits}
use lib.Ieee.Fits.{down_pos}
use lib.Ieee.Exact.{HasValue, round_exact}
use lib.Ieee.Scale.{round_same}
use lib.Ieee.Digits.{back}
use Rattle.numbers.proofs.Zero.{add_comm}

-- ---- a sum of two values of one sign, and a product, by any fractions that they equal
same_sum : (A B de dd a b c : ℕ) → A * c ≡ a * de → B * c ≡ b * dd → (A * dd + B * de) * c ≡ (a + b) * (de * dd)
same_sum A B de dd a b c h k =
    add-mul (A * dd) (B * de) c
    ∙ ap (λ (z : ℕ). z + B * de * c) (mul_right_comm A dd c ∙ ap (λ (z : ℕ). z * dd) h ∙ mul_assoc a de dd)
    ∙ ap (λ (z : ℕ). a * (de * dd) + z) (mul_right_comm B de c ∙ ap (λ (z : ℕ). z * de) k ∙ mul_assoc b dd de ∙ ap (λ (z : ℕ). b * z) (mul_comm dd de))
    ∙ sym (add-mul a b (de * dd))

add_signed : (f : Format) (s : Bool) (m : ℕ) (e : ℤ) (n : ℕ) (d : ℤ) → add f (fin s m e) (fin s n d) ≡ round f s (m * up e * down d + n * up d * down e) (down e * down d)
unfolding add sum
add_signed f true m e n d = refl
add_signed f false m e n d = refl

pub add_value : (f : Format) (s : Bool) (x y : Float) (a b c : ℕ) → 0 < c → HasValue x s a c → HasValue y s b c → add f x y ≡ round f s (a + b) c
add_value f s nan y a b c C v w = absurd v
add_value f s (inf t) y a b c C v w = absurd v
add_value f s (fin t m e) nan a b c C v w = absurd w
add_value f s (fin t m e) (inf u) a b c C v w = absurd w
add_value f s (fin t m e) (fin u n d) a b c C v w =
    rw (v.0, w.0) (add_signed f s m e n d)
    ∙ round_same f s (m * up e * down d + n * up d * down e) (down e * down d) (a + b) c (mul-pos (down_pos e) (down_pos d)) C
    (same_sum (m * up e) (n * up d) (down e) (down d) a b c v.1 w.1)

pub mul_value : (f : Format) (s t : Bool) (x y : Float) (a c b d : ℕ) → 0 < c → 0 < d → HasValue x s a c → HasValue y t b d → mul f x y ≡ round f (unlike s t) (a * b) (c * d)
mul_value f s t nan y a c b d C D v w = absurd v
mul_value f s t (inf u) y a c b d C D v w = absurd v
mul_value f s t (fin u m e) nan a c b d C D v w = absurd w
mul_value f s t (fin u m e) (inf r) a c b d C D v w = absurd w
mul_value f s t (fin u m e) (fin r n g) a c b d C D v w =
    rw (v.0, w.0) (is f s t m e n g)
    ∙ round_same f (unlike s t) (m * up e * (n * up g)) (down e * down g) (a * b) (c * d) (mul-pos (down_pos e) (down_pos g)) (mul-pos C D)
    (mul-mul-mul_comm (m * up e) (n * up g) c d ∙ ap (λ (z : ℕ). z * (n * up g * d)) v.1 ∙ ap (λ (z : ℕ). a * down e * z) w.1 ∙ mul-mul-mul_comm a (down e) b (down g))
  where
    is : (f : Format) (s t : Bool) (m : ℕ) (e : ℤ) (n : ℕ) (g : ℤ) → mul f (fin s m e) (fin t n g) ≡ round f (unlike s t) (m * up e * (n * up g)) (down e * down g)
    is f s t m e n g = unfold mul in refl

-- ---- n / 2 ^ k is exact in binary64 for n below 2 ^ 53 and k up to 1074
pub frac_exact : (s : Bool) (n k : ℕ) → n < 2 ^ 53 → k ≤ 1074 → HasValue (round binary64 s n (2 ^ k)) s n (2 ^ k)
frac_exact s n k h l =
    round_exact binary64 s n (2 ^ k) n (1074 - k) (pow_pos k) h
    (lt_of_lt_of_le (shl_lt 53 (1074 - k) h) (pow_mono (room k)))
    (ap (λ (z : ℕ). n * z) (sym (ap (λ (z : ℕ). 2 ^ z) (back 1074 k l)) ∙ pow-add 2 (1074 - k) k) ∙ sym (mul_assoc n (2 ^ (1074 - k)) (2 ^ k)))
  where
    room : (k : ℕ) → 53 + (1074 - k) ≤ 1074 + 1024
    room k = omega arith

-- ---- x is ±a / c; a zero may have either sign
abbrev pub Is : Float → Bool → ℕ → ℕ → Type 0
Is x s a c = HasValue x s a c ⊎ ((a ≡ 0) × HasValue x (not s) 0 c)

from_zero : (a b : ℕ) → a ≡ 0 → 0 < b → (a < b) × (b - a ≡ a + b)
from_zero a b z h = (omega arith, omega arith)

sum_cross : (f : Format) (s : Bool) (A B C : ℕ) → A ≡ 0 → 0 < B → sum f (not s) A s B C ≡ round f s (A + B) C
unfolding sum
sum_cross f true A B C z h = let k = from_zero A B z h in rw (lt-ltb A B k.0, k.1)
sum_cross f false A B C z h = let k = from_zero A B z h in rw (lt-ltb A B k.0, k.1)

none_of : (A c de : ℕ) → 0 < c → A * c ≡ 0 * de → A ≡ 0
none_of A c de C h = eq_of_mul-eq-mul_right c C A 0 (h ∙ zero-mul de ∙ sym (zero-mul c))

some_of : (B c dd b : ℕ) → 0 < b → 0 < dd → B * c ≡ b * dd → 0 < B
some_of B c dd b h D k = first_pos B c (subst (λ (z : ℕ). 0 < z) (sym k) (mul-pos h D))

add_cross : (f : Format) (s : Bool) (m : ℕ) (e : ℤ) (n : ℕ) (d : ℤ) → m * up e ≡ 0 → 0 < n * up d → add f (fin (not s) m e) (fin s n d) ≡ round f s (m * up e * down d + n * up d * down e) (down e * down d)
unfolding add
add_cross f s m e n d z h = sum_cross f s (m * up e * down d) (n * up d * down e) (down e * down d) (rw z (zero-mul (down d))) (mul-pos h (down_pos e))

pub add_is : (f : Format) (s : Bool) (x y : Float) (a b c : ℕ) → 0 < c → 0 < b → Is x s a c → HasValue y s b c → add f x y ≡ round f s (a + b) c
add_is f s x y a b c C B (inl v) w = add_value f s x y a b c C v w
add_is f s x y a b c C B (inr r) w = crossed x y r.1 w
  where
    crossed : (x y : Float) → HasValue x (not s) 0 c → HasValue y s b c → add f x y ≡ round f s (a + b) c
    crossed nan y v w = absurd v
    crossed (inf t) y v w = absurd v
    crossed (fin t m e) nan v w = absurd w
    crossed (fin t m e) (inf u) v w = absurd w
    crossed (fin t m e) (fin u n d) v w =
        rw (v.0, w.0) (add_cross f s m e n d (none_of (m * up e) c (down e) C v.1) (some_of (n * up d) c (down d) b B (down_pos d) w.1))
        ∙ round_same f s (m * up e * down d + n * up d * down e) (down e * down d) (a + b) c (mul-pos (down_pos e) (down_pos d)) C
        (same_sum (m * up e) (n * up d) (down e) (down d) a b c (v.1 ∙ ap (λ (z : ℕ). z * down e) (sym r.0)) w.1)

-- the same value over twice the denominator
twice : (x : Float) (s : Bool) (a k : ℕ) → HasValue x s a (2 ^ k) → HasValue x s (2 * a) (2 ^ suc k)
twice nan s a k v = v
twice (inf t) s a k v = v
twice (fin t m e) s a k v = (
  v.0,
  ap (λ (z : ℕ). m * up e * z) (pow-succ' 2 k) ∙ mul_left_comm (m * up e) 2 (2 ^ k) ∙ ap (λ (z : ℕ). 2 * z) v.1 ∙ sym (mul_assoc 2 a (down e)),
)

twice_is : (x : Float) (s : Bool) (a k : ℕ) → Is x s a (2 ^ k) → Is x s (2 * a) (2 ^ suc k)
twice_is x s a k (inl v) = inl (twice x s a k v)
twice_is x s a k (inr r) = inr (rw r.0, twice x (not s) 0 k r.1)

-- ---- a cell of width 2 ^ -k on one side of zero and no further out than 1: `near` is the end nearer to zero
pub record Cell (s : Bool) (m k : ℕ) (near far : Float) : Type 0 where
  pub near_is : Is near s m (2 ^ k)
  pub far_is : HasValue far s (suc m) (2 ^ k)
  pub inside : m < 2 ^ k

abbrev pub half64 : Float
half64 = of_bits binary64 0x3fe0_0000_0000_0000

abbrev pub mid : Float → Float → Float
mid x y = mul binary64 (add binary64 x y) half64

half_is : HasValue half64 false 1 2
unfolding of_bits
half_is = (refl, refl)

pub mid_swap : (x y : Float) → mid x y ≡ mid y x
mid_swap x y = ap (λ (z : Float). mul binary64 z half64) (add_comm binary64 x y)

like_false : (s : Bool) → unlike s false ≡ s
like_false true = refl
like_false false = refl

small_sum : (m p q : ℕ) → m < p → 2 * p ≤ q → m + suc m < q
small_sum m p q h l = omega arith

pub mid_exact : (s : Bool) (m k : ℕ) (near far : Float) → Is near s m (2 ^ k) → HasValue far s (suc m) (2 ^ k) → m + suc m < 2 ^ 53 → k < 1074 → HasValue (mid near far) s (suc (2 * m)) (2 ^ suc k)
mid_exact s m k near far v w h l =
    let S = add binary64 near far in
    let n = m + suc m in
    let sum_is : S ≡ round binary64 s n (2 ^ k) = add_is binary64 s near far m (suc m) (2 ^ k) (pow_pos k) (zero-lt-suc m) v w in
    let sum-val : HasValue S s n (2 ^ k) = subst (λ (z : Float). HasValue z s n (2 ^ k)) (sym sum_is) (frac_exact s n k h (weaker k l)) in
    let mid-is : mid near far ≡ round binary64 s n (2 ^ suc k) =
    mul_value binary64 s false S half64 n (2 ^ k) 1 2 (pow_pos k) (zero-lt-suc 1) sum-val half_is
    ∙ ap (λ (t : Bool). round binary64 t (n * 1) (2 ^ k * 2)) (like_false s)
    ∙ ap (λ (z : ℕ). round binary64 s z (2 ^ k * 2)) (mul-one n)
    ∙ ap (λ (z : ℕ). round binary64 s n z) (sym (pow-suc 2 k)) in
    subst (λ (z : Float). HasValue z s (suc (2 * m)) (2 ^ suc k)) (sym mid-is)
    (subst (λ (z : ℕ). HasValue (round binary64 s n (2 ^ suc k)) s z (2 ^ suc k)) (count m) (frac_exact s n (suc k) h l))
  where
    weaker : (k : ℕ) → k < 1074 → k ≤ 1074
    weaker k l = omega arith

    count : (m : ℕ) → m + suc m ≡ suc (2 * m)
    count m = omega arith

pub record Halves (s : Bool) (m k : ℕ) (near far : Float) : Type 0 where
  pub inner : Cell s (2 * m) (suc k) near (mid near far)
  pub outer : Cell s (suc (2 * m)) (suc k) (mid near far) far

pub halve : (s : Bool) (m k : ℕ) (near far : Float) → Cell s m k near far → k < 53 → Halves s m k near far
halve s m k near far c l =
    let p : 2 ^ suc k ≡ 2 * 2 ^ k = pow-succ' 2 k in
    let q : 2 * 2 ^ k ≤ 2 ^ 53 = le_trans (le_of_eq (sym p)) (pow_mono l) in
    let v : HasValue (mid near far) s (suc (2 * m)) (2 ^ suc k) = mid_exact s m k near far c.near_is c.far_is (small_sum m (2 ^ k) (2 ^ 53) c.inside q) (far_off k l) in
    record {
      inner = record { near_is = twice_is near s m k c.near_is; far_is = v; inside = rw p (even m (2 ^ k) c.inside) };
      outer = record { near_is = inl v; far_is = subst (λ (z : ℕ). HasValue far s z (2 ^ suc k)) (count m) (twice far s (suc m) k c.far_is); inside = rw p (uneven m (2 ^ k) c.inside) };
    }
  where
    far_off : (k : ℕ) → k < 53 → k < 1074
    far_off k l = omega arith

    count : (m : ℕ) → 2 * suc m ≡ suc (suc (2 * m))
    count m = omega arith

    even : (m p : ℕ) → m < p → 2 * m < 2 * p
    even m p h = omega arith

    uneven : (m p : ℕ) → m < p → suc (2 * m) < 2 * p
    uneven m p h = omega arith

-- ---- the cells of a grid of 2 ^ -k
pub grid-cell : (s : Bool) (m k : ℕ) → m < 2 ^ k → k < 53 → Cell s m k (round binary64 s m (2 ^ k)) (round binary64 s (suc m) (2 ^ k))
grid-cell s m k h l =
    let p : 2 ^ k < 2 ^ 53 = pow-lt l in
    record { near_is = inl (frac_exact s m k (down_one m (2 ^ k) (2 ^ 53) h p) (far_off k l)); far_is = frac_exact s (suc m) k (at_most m (2 ^ k) (2 ^ 53) h p) (far_off k l); inside = h }
  where
    down_one : (m p q : ℕ) → m < p → p < q → m < q
    down_one m p q h l = omega arith

    at_most : (m p q : ℕ) → m < p → p < q → suc m < q
    at_most m p q h l = omega arith

    far_off : (k : ℕ) → k < 53 → k ≤ 1074
    far_off k l = omega arith

-- ---- the ends of a cell are in order, so that a midpoint lies strictly between
in_order : (A B de dd a b c : ℕ) → 0 < c → 0 < de → 0 < dd → A * c ≡ a * de → B * c ≡ b * dd → a < b → A * dd < B * de
in_order A B de dd a b c C E D h k l =
    lt_of_mul-lt-mul_right c
    (subst (λ (z : ℕ). z < B * de * c) (sym (mul_right_comm A dd c ∙ ap (λ (z : ℕ). z * dd) h ∙ mul_assoc a de dd))
    (subst (λ (z : ℕ). a * (de * dd) < z) (sym (mul_right_comm B de c ∙ ap (λ (z : ℕ). z * de) k ∙ mul_assoc b dd de ∙ ap (λ (z : ℕ). b * z) (mul_comm dd de)))
    (mul-lt-mul_of_pos_right l (mul-pos E D))))

-- x is nearer to zero than y, on the side s
abbrev pub nearer : Bool → Float → Float → Bool
nearer true x y = lt y x
nearer false x y = lt x y

fin_order : (s : Bool) (m : ℕ) (e : ℤ) (n : ℕ) (d : ℤ) → m * up e * down d < n * up d * down e → nearer s (fin s m e) (fin s n d) ≡ true
unfolding lt
fin_order true m e n d h = lt-ltb (m * up e * down d) (n * up d * down e) h
fin_order false m e n d h = lt-ltb (m * up e * down d) (n * up d * down e) h

cross_order : (s : Bool) (m : ℕ) (e : ℤ) (n : ℕ) (d : ℤ) → 0 < n * up d → nearer s (fin (not s) m e) (fin s n d) ≡ true
unfolding lt
cross_order true m e n d h = lt-ltb 0 (n * up d * down e + m * up e * down d) (left (n * up d * down e) (m * up e * down d) (mul-pos h (down_pos e)))
  where
    left : (a b : ℕ) → 0 < a → 0 < a + b
    left a b h = omega arith
cross_order false m e n d h = lt-ltb 0 (m * up e * down d + n * up d * down e) (right (m * up e * down d) (n * up d * down e) (mul-pos h (down_pos e)))
  where
    right : (a b : ℕ) → 0 < b → 0 < a + b
    right a b h = omega arith

value_order : (s : Bool) (x y : Float) (a b c : ℕ) → 0 < c → HasValue x s a c → HasValue y s b c → a < b → nearer s x y ≡ true
value_order s nan y a b c C v w l = absurd v
value_order s (inf t) y a b c C v w l = absurd v
value_order s (fin t m e) nan a b c C v w l = absurd w
value_order s (fin t m e) (inf u) a b c C v w l = absurd w
value_order s (fin t m e) (fin u n d) a b c C v w l = rw (v.0, w.0) (fin_order s m e n d (in_order (m * up e) (n * up d) (down e) (down d) a b c C (down_pos e) (down_pos d) v.1 w.1 l))

crossed_order : (s : Bool) (x y : Float) (b c : ℕ) → HasValue x (not s) 0 c → HasValue y s b c → 0 < b → nearer s x y ≡ true
crossed_order s nan y b c v w l = absurd v
crossed_order s (inf t) y b c v w l = absurd v
crossed_order s (fin t m e) nan b c v w l = absurd w
crossed_order s (fin t m e) (inf u) b c v w l = absurd w
crossed_order s (fin t m e) (fin u n d) b c v w l = rw (v.0, w.0) (cross_order s m e n d (some_of (n * up d) c (down d) b l (down_pos d) w.1))

pub cell_order : (s : Bool) (m k : ℕ) (near far : Float) → Cell s m k near far → nearer s near far ≡ true
cell_order s m k near far c = go c.near_is
  where
    go : Is near s m (2 ^ k) → nearer s near far ≡ true
    go (inl v) = value_order s near far m (suc m) (2 ^ k) (pow_pos k) v c.far_is (next m)
      where
        next : (m : ℕ) → m < suc m
        next m = omega arith
    go (inr r) = crossed_order s near far (suc m) (2 ^ k) r.1 c.far_is (zero-lt-suc m)

pub mid_between : (s : Bool) (m k : ℕ) (near far : Float) → Cell s m k near far → k < 53 → (nearer s near (mid near far) ≡ true) × (nearer s (mid near far) far ≡ true)
mid_between s m k near far c l =
    let h = halve s m k near far c l in
    (cell_order s (2 * m) (suc k) near (mid near far) h.inner, cell_order s (suc (2 * m)) (suc k) (mid near far) far h.outer)

-- ---- the same by the lower and the upper end, as a program holds them
abbrev pub Span : Bool → ℕ → ℕ → Float → Float → Type 0
Span true m k lo hi = Cell true m k hi lo
Span false m k lo hi = Cell false m k lo hi

-- lo and hi are neighbours on the grid of 2 ^ -k, no further out than 1
pub record Fine (k : ℕ) (lo hi : Float) : Type 0 where
  pub side : Bool
  pub place : ℕ
  pub span : Span side place k lo hi

pub fine_order : (k : ℕ) (lo hi : Float) → Fine k lo hi → lt lo hi ≡ true
fine_order k lo hi f = go f.side f.span
  where
    go : (s : Bool) → Span s f.place k lo hi → lt lo hi ≡ true
    go true c = cell_order true f.place k hi lo c
    go false c = cell_order false f.place k lo hi c

pub lower : (k : ℕ) (lo hi : Float) → Fine k lo hi → k < 53 → Fine (suc k) lo (mid lo hi)
lower k lo hi f l = go f.side f.span
  where
    go : (s : Bool) → Span s f.place k lo hi → Fine (suc k) lo (mid lo hi)
    go true c = rw (mid_swap lo hi) (record { side = true; place = suc (2 * f.place); span = (halve true f.place k hi lo c l).outer })
    go false c = record { side = false; place = 2 * f.place; span = (halve false f.place k lo hi c l).inner }

pub upper : (k : ℕ) (lo hi : Float) → Fine k lo hi → k < 53 → Fine (suc k) (mid lo hi) hi
upper k lo hi f l = go f.side f.span
  where
    go : (s : Bool) → Span s f.place k lo hi → Fine (suc k) (mid lo hi) hi
    go true c = rw (mid_swap lo hi) (record { side = true; place = 2 * f.place; span = (halve true f.place k hi lo c l).inner })
    go false c = record { side = false; place = suc (2 * f.place); span = (halve false f.place k lo hi c l).outer }
