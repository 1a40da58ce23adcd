-- Chains of lt, le and eq; clamping. Assumes nothing.
use Prim.Native.Nat.{ℕ, ◌*◌}
use mathlib.Core.Path.{◌≡◌, refl, sym, ◌∙◌}
use mathlib.Core.Logic.{◌⊎◌, inl, inr}
use mathlib.Core.Bool.{Bool, true, false, ◌||◌, beq, cond}
use borrow.Author.Tests.{eqb-true, eq-eqb}
use lib.Dec.{eqb}
use lib.Ieee.{Float, nan, inf, fin, up, down, level, lt, le, eq, is_nan}
use Rattle.numbers.proofs.Order.{no, and_1, and_2, or_true, not-lt, le_not_lt, le_left, le_right, lt_left, lt_right, leq_trans, le_antisym, lt-le, lt_irr}
use Rattle.numbers.specs.Floats.{Inside, clamp}

-- ---- eq
pub eq→le : (x y : Float) → eq x y ≡ true → le x y ≡ true
unfolding le
eq→le x y h = rw h (or_true (lt x y))

beq_swap : (s t : Bool) → beq s t ≡ beq t s
beq_swap true true = refl
beq_swap true false = refl
beq_swap false true = refl
beq_swap false false = refl

level_swap : (s t : Bool) (a b : ℕ) → level s a t b ≡ true → level t b s a ≡ true
level_swap s t a b h =
    let e : a ≡ b = eqb-true a b (and_1 (eqb a b) (beq s t || eqb a 0) h) in
    let k : (beq s t || eqb a 0) ≡ true = and_2 (eqb a b) (beq s t || eqb a 0) h in
    rw (← e, eq-eqb a a refl, beq_swap t s) k

pub eq_sym : (x y : Float) → eq x y ≡ true → eq y x ≡ true
unfolding eq
eq_sym nan y h = no h
eq_sym (inf s) nan h = no h
eq_sym (inf s) (inf t) h = beq_swap t s ∙ h
eq_sym (inf s) (fin t n d) h = no h
eq_sym (fin s m e) nan h = no h
eq_sym (fin s m e) (inf t) h = no h
eq_sym (fin s m e) (fin t n d) h = level_swap s t (m * up e * down d) (n * up d * down e) h

pub eq_trans : (x y z : Float) → eq x y ≡ true → eq y z ≡ true → eq x z ≡ true
eq_trans x y z h k = le_antisym x z (leq_trans x y z (eq→le x y h) (eq→le y z k)) (leq_trans z y x (eq→le z y (eq_sym y z k)) (eq→le y x (eq_sym x y h)))

-- ---- lt and le
pub lt-le_trans : (x y z : Float) → lt x y ≡ true → le y z ≡ true → lt x z ≡ true
lt-le_trans x y z h k = go (lt x z) refl
  where
    go : (b : Bool) → lt x z ≡ b → lt x z ≡ true
    go true e = e
    go false e = no (sym (le_not_lt y x (leq_trans y z x k (not-lt x z (lt_left x y h) (le_right y z k) e))) ∙ h)

pub le_lt_trans : (x y z : Float) → le x y ≡ true → lt y z ≡ true → lt x z ≡ true
le_lt_trans x y z h k = go (lt x z) refl
  where
    go : (b : Bool) → lt x z ≡ b → lt x z ≡ true
    go true e = e
    go false e = no (sym (le_not_lt z y (leq_trans z x y (not-lt x z (le_left x y h) (lt_right y z k) e) h)) ∙ k)

pub eq_lt_trans : (x y z : Float) → eq x y ≡ true → lt y z ≡ true → lt x z ≡ true
eq_lt_trans x y z h k = le_lt_trans x y z (eq→le x y h) k

pub lt_eq_trans : (x y z : Float) → lt x y ≡ true → eq y z ≡ true → lt x z ≡ true
lt_eq_trans x y z h k = lt-le_trans x y z h (eq→le y z k)

pub eq_le_trans : (x y z : Float) → eq x y ≡ true → le y z ≡ true → le x z ≡ true
eq_le_trans x y z h k = leq_trans x y z (eq→le x y h) k

pub le_eq_trans : (x y z : Float) → le x y ≡ true → eq y z ≡ true → le x z ≡ true
le_eq_trans x y z h k = leq_trans x y z h (eq→le y z k)

pub lt_not_le : (x y : Float) → lt x y ≡ true → le y x ≡ false
lt_not_le x y h = go (le y x) refl
  where
    go : (b : Bool) → le y x ≡ b → le y x ≡ false
    go true e = no (sym (le_not_lt y x e) ∙ h)
    go false e = e

pub lt-not_eq : (x y : Float) → lt x y ≡ true → eq x y ≡ false
lt-not_eq x y h = go (eq x y) refl
  where
    go : (b : Bool) → eq x y ≡ b → eq x y ≡ false
    go true e = no (sym (le_not_lt y x (eq→le y x (eq_sym x y e))) ∙ h)
    go false e = e

-- ---- on numbers
pub le_same : (x : Float) → is_nan x ≡ false → le x x ≡ true
le_same x n = not-lt x x n n (lt_irr x)

pub eq_itself : (x : Float) → is_nan x ≡ false → eq x x ≡ true
eq_itself x n = le_antisym x x (le_same x n) (le_same x n)

pub not-le : (x y : Float) → is_nan x ≡ false → is_nan y ≡ false → le x y ≡ false → lt y x ≡ true
not-le x y p q h = go (lt y x) refl
  where
    go : (b : Bool) → lt y x ≡ b → lt y x ≡ true
    go true e = e
    go false e = no (sym h ∙ not-lt y x q p e)

pub le_total : (x y : Float) → is_nan x ≡ false → is_nan y ≡ false → (le x y ≡ true) ⊎ (le y x ≡ true)
le_total x y p q = go (lt y x) refl
  where
    go : (b : Bool) → lt y x ≡ b → (le x y ≡ true) ⊎ (le y x ≡ true)
    go true e = inr (lt-le y x e)
    go false e = inl (not-lt y x q p e)

-- exactly one of the three
pub trichotomy : (x y : Float) → is_nan x ≡ false → is_nan y ≡ false → (lt x y ≡ true) ⊎ ((eq x y ≡ true) ⊎ (lt y x ≡ true))
trichotomy x y p q = go (lt x y) (lt y x) refl refl
  where
    go : (a b : Bool) → lt x y ≡ a → lt y x ≡ b → (lt x y ≡ true) ⊎ ((eq x y ≡ true) ⊎ (lt y x ≡ true))
    go true b h k = inl h
    go false true h k = inr (inr k)
    go false false h k = inr (inl (le_antisym x y (not-lt y x q p k) (not-lt x y p q h)))

-- ---- what is clamped lies inside, whatever it was, a NaN too
pub clamp_inside : (low high x : Float) → le low high ≡ true → Inside low high (clamp low high x)
clamp_inside low high x h = go (le x high) (le low x) refl refl
  where
    L : is_nan low ≡ false
    L = le_left low high h

    H : is_nan high ≡ false
    H = le_right low high h

    go : (a b : Bool) → le x high ≡ a → le low x ≡ b → Inside low high (cond a (cond b x low) high)
    go true true p q = record { number = le_left x high p; least = q; most = p }
    go true false p q = record { number = L; least = le_same low L; most = h }
    go false b p q = record { number = H; least = h; most = le_same high H }

-- what lies inside already is left as it is, bit for bit
pub clamp-same : (low high x : Float) → le low x ≡ true → le x high ≡ true → clamp low high x ≡ x
clamp-same low high x h k = rw (k, h)
