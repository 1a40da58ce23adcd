-- Every root that is given lies from -1 to 1: the cell ends do, and a midpoint lies between its ends. Assumes nothing.
use Prim.Native.Nat.{ℕ, zero, suc, ◌+◌, ◌-◌, ◌^◌, ◌<◌, ◌≤◌}
use mathlib.Core.Path.{◌≡◌, refl, sym, ap, ◌∙◌}
use mathlib.Core.Logic.{inr}
use mathlib.Core.Bool.{Bool, true, false, cond, ◌&&◌}
use mathlib.Core.List.{List, [], ◌∷◌, ◌++◌, map}
use native.Mathlib.Omega.{arith}
use native.Mathlib.Decide.{dec_lt}
use native.Mathlib.Nat.{not-suc-le-zero, le_of_suc-le-suc}
use borrow.Author.Tests.{lt-ltb, le-ltb}
use lib.Dec.{ltb, leb, eqb}
use lib.ListN.{get_or, length}
use lib.Pow.{pow_pos}
use lib.Ieee.{Float, nan, binary64, lt, le, eq, neg, of_bits, round, add, mul, div, of_int}
use lib.Ieee.Scale.{finite}
use Rattle.numbers.specs.Floats.{zero64, one64, all_finite, Inside}
use Rattle.numbers.specs.Loops.{tab, until, every}
use Rattle.numbers.specs.Outcome.{Outcome, gave, bind, unless}
use Rattle.numbers.proofs.LoopLaws.{every-at}
use Rattle.numbers.proofs.Lanes.{tab-get}
use Rattle.numbers.proofs.Given.{gave_same, unless_given, bind_given}
use Rattle.numbers.proofs.FiniteLaws.{inside_finite}
use Rattle.numbers.proofs.Order.{and_1, and_2, leq_trans, lt-le, le_left}
use Rattle.colleague.specs.declared.Colleague.{Colleague}
use Rattle.colleague.specs.Matrix.{Matrix, entries_finite}
use Rattle.roots.specs.declared.brackets.Bracket.{Bracket}
use Rattle.roots.specs.Residual.{residual}
use Rattle.roots.specs.Brackets.{cell_end, opposite, bracket, middle, halved, grid, cell, found, low_of, low_ends}
use Rattle.roots.specs.Answer.{rows_of, brackets_of, roots_for}
use Rattle.roots.proofs.Middle.{Fine, fine_order, lower, upper, frac_exact, grid-cell}

-- ---- the cell ends
ends_inside : every (λ j. le (neg one64) (cell_end j) && le (cell_end j) one64) 65 ≡ true
unfolding until le lt eq neg of_bits round add mul div of_int
ends_inside = refl

pub end_inside : (j : ℕ) → j < 65 → Inside (neg one64) one64 (cell_end j)
end_inside j h =
    let e = every-at (λ j. le (neg one64) (cell_end j) && le (cell_end j) one64) 65 j ends_inside h in
    let a = and_1 (le (neg one64) (cell_end j)) (le (cell_end j) one64) e in
    let b = and_2 (le (neg one64) (cell_end j)) (le (cell_end j) one64) e in
    record { number = le_left (cell_end j) one64 b; least = a; most = b }

-- ---- halving a fine cell stays inside
inside_between : (l m h : Float) → Inside (neg one64) one64 l → Inside (neg one64) one64 h → lt l m ≡ true → lt m h ≡ true → Inside (neg one64) one64 m
inside_between l m h a b p q =
    let w = leq_trans m h one64 (lt-le m h q) b.most in
    record { number = le_left m one64 w; least = leq_trans (neg one64) l m a.least (lt-le l m p); most = w }

module _ (a : Matrix) (s k i : ℕ) (l h : Float) (b : Bracket) (f : Fine i l h) (x : Inside (neg one64) one64 l) (y : Inside (neg one64) one64 h) (room : i + suc k ≤ 53)
    (half : (l h p : Float) → Fine (suc i) l h → Inside (neg one64) one64 l → Inside (neg one64) one64 h → halved a s k p l h ≡ gave b → Inside (neg one64) one64 b.low) where
  more : i < 53
  more = omega arith

  mid : Inside (neg one64) one64 (middle l h)
  mid = inside_between l (middle l h) h x y (fine_order (suc i) l (middle l h) (lower i l h f more)) (fine_order (suc i) (middle l h) h (upper i l h f more))

  side : (p r : Float) (t : Bool) → cond t (halved a s k p l (middle l h)) (halved a s k r (middle l h) h) ≡ gave b → Inside (neg one64) one64 b.low
  side p r true e = half l (middle l h) p (lower i l h f more) x mid e
  side p r false e = half (middle l h) h r (upper i l h f more) mid y e

  at_middle : (p r : Float) (z t : Bool) → cond z (gave (bracket (middle l h) (middle l h))) (cond t (halved a s k p l (middle l h)) (halved a s k r (middle l h) h)) ≡ gave b → Inside (neg one64) one64 b.low
  at_middle p r true t e = rw (← gave_same e) mid
  at_middle p r false t e = side p r t e

pub halved_inside : (a : Matrix) (s k i : ℕ) (p l h : Float) (b : Bracket) → Fine i l h → Inside (neg one64) one64 l → Inside (neg one64) one64 h → i + k ≤ 53 → halved a s k p l h ≡ gave b → Inside (neg one64) one64 b.low
unfolding halved
halved_inside a s zero i p l h b f x y room e = rw (← gave_same e) x
halved_inside a s (suc k) i p l h b f x y room e =
    let m = middle l h in
    let r = residual a s m in
    let g = unless_given (finite r) 12 (cond (eq r zero64) (gave (bracket m m)) (cond (opposite p r) (halved a s k p l m) (halved a s k r m h))) e in
    let q : suc i + k ≤ 53 = omega arith in
    at_middle a s k i l h b f x y room (λ l h p f x y. halved_inside a s k (suc i) p l h b f x y q) p r (eq r zero64) (opposite p r) g.rest

-- ---- the cells are fine: their ends are neighbours among the whole multiples of 1/32
abbrev grid_end : ℕ → Float
grid_end j = cond (ltb j 32) (round binary64 true (32 - j) (2 ^ 5)) (round binary64 false (j - 32) (2 ^ 5))

all_ends : tab cell_end 65 0 ≡ tab grid_end 65 0
unfolding tab neg of_bits round add mul div of_int
all_ends = refl

is_end : (j : ℕ) → j < 65 → cell_end j ≡ grid_end j
is_end j h = sym (tab-get cell_end 65 j nan h) ∙ ap (λ z. get_or z j nan) all_ends ∙ tab-get grid_end 65 j nan h

left_end : (j m : ℕ) → j < 32 → 32 - j ≡ m → cell_end j ≡ round binary64 true m (2 ^ 5)
left_end j m h e = let k : j < 65 = omega arith in is_end j k ∙ rw (lt-ltb j 32 h, e)

right_end : (j m : ℕ) → 32 ≤ j → j < 65 → j - 32 ≡ m → cell_end j ≡ round binary64 false m (2 ^ 5)
right_end j m h k e = is_end j k ∙ rw (le-ltb j 32 h, e)

small : 5 < 53
small = omega arith

power : 2 ^ 5 ≡ 32
power = refl

pub cell_fine : (j : ℕ) → j < 64 → Fine 5 (cell_end j) (cell_end (j + 1))
cell_fine j h = left (dec_lt j 32)
  where
    within : (m : ℕ) → m < 32 → m < 2 ^ 5
    within m k = rw power k

    inner : Dec (j < 31) → j < 32 → Fine 5 (cell_end j) (cell_end (j + 1))
    inner (yes k) d =
        let n : j + 1 < 32 = omega arith in
        let p : 32 - j ≡ suc (31 - j) = omega arith in
        let q : 32 - (j + 1) ≡ 31 - j = omega arith in
        let m : 31 - j < 32 = omega arith in
        rw (left_end j (suc (31 - j)) d p, left_end (j + 1) (31 - j) n q)
        (record { side = true; place = 31 - j; span = grid-cell true (31 - j) 5 (within (31 - j) m) small })
    inner (no k) d =
        let p : 32 - j ≡ 1 = omega (arith, k) in
        let a : 32 ≤ j + 1 = omega (arith, k) in
        let b : j + 1 < 65 = omega arith in
        let q : j + 1 - 32 ≡ 0 = omega arith in
        let z : 0 < 32 = omega arith in
        let y : 0 < 2 ^ 53 = pow_pos 53 in
        let x : 5 ≤ 1074 = omega arith in
        rw (left_end j 1 d p, right_end (j + 1) 0 a b q)
        (record { side = true; place = 0; span = record { near_is = inr (refl, frac_exact false 0 5 y x); far_is = (grid-cell true 0 5 (within 0 z) small).far_is; inside = within 0 z } })

    left : Dec (j < 32) → Fine 5 (cell_end j) (cell_end (j + 1))
    left (yes k) = inner (dec_lt j 31) k
    left (no k) =
        let a : 32 ≤ j = omega (arith, k) in
        let b : 32 ≤ j + 1 = omega (arith, k) in
        let d : j < 65 = omega arith in
        let e : j + 1 < 65 = omega arith in
        let q : j + 1 - 32 ≡ suc (j - 32) = omega (arith, k) in
        let m : j - 32 < 32 = omega arith in
        rw (right_end j (j - 32) a d refl, right_end (j + 1) (suc (j - 32)) b e q)
        (record { side = false; place = j - 32; span = grid-cell false (j - 32) 5 (within (j - 32) m) small })

-- ---- every lower end of a list
data Lows : List Bracket → Type 0 where
  none : Lows []
  also : {b : Bracket} {l : List Bracket} → Inside (neg one64) one64 b.low → Lows l → Lows (b ∷ l)

lows_both : (c l : List Bracket) → Lows c → Lows l → Lows (c ++ l)
lows_both [] l none w = w
lows_both (b ∷ c) l (also x v) w = also x (lows_both c l v w)

cell_inside : (a : Matrix) (s : ℕ) (p q : Float) (j : ℕ) (c : List Bracket) → j < 64 → cell a s p q j ≡ gave c → Lows c
cell_inside a s p q j c h e = zeroth (eq p zero64) e
  where
    here : Inside (neg one64) one64 (cell_end j)
    here = end_inside j (omega arith)

    halves : bind (halved a s 40 p (cell_end j) (cell_end (j + 1))) (λ b. gave (b ∷ [])) ≡ gave c → Lows c
    halves e =
        let g = bind_given (halved a s 40 p (cell_end j) (cell_end (j + 1))) (λ b. gave (b ∷ [])) e in
        let room : 5 + 40 ≤ 53 = omega arith in
        let n : j + 1 < 65 = omega arith in
        rw (← gave_same g.rest) (also (halved_inside a s 40 5 p (cell_end j) (cell_end (j + 1)) g.value (cell_fine j h) here (end_inside (j + 1) n) room g.given) none)

    signs : (t : Bool) → cond t (bind (halved a s 40 p (cell_end j) (cell_end (j + 1))) (λ b. gave (b ∷ []))) (gave []) ≡ gave c → Lows c
    signs true e = halves e
    signs false e = rw (← gave_same e) none

    zeroth : (t : Bool) → cond t (gave (bracket (cell_end j) (cell_end j) ∷ [])) (cond (opposite p q) (bind (halved a s 40 p (cell_end j) (cell_end (j + 1))) (λ b. gave (b ∷ []))) (gave [])) ≡ gave c → Lows c
    zeroth true e = rw (← gave_same e) (also here none)
    zeroth false e = signs (opposite p q) e

found_inside : (a : Matrix) (s : ℕ) (g : List Float) (n j : ℕ) (l : List Bracket) → j + n ≡ 64 → found a s g n j ≡ gave l → Lows l
unfolding found
found_inside a s g zero j l h e = rw (← gave_same e) (last (eq (get_or g j nan) zero64))
  where
    last : (t : Bool) → Lows (cond t (bracket (cell_end j) (cell_end j) ∷ []) [])
    last true = also (end_inside j (omega arith)) none
    last false = none
found_inside a s g (suc n) j l h e =
    let rest : List Bracket → Outcome (List Bracket) = λ c. bind (found a s g n (j + 1)) (λ l. gave (c ++ l)) in
    let c = bind_given (cell a s (get_or g j nan) (get_or g (j + 1) nan) j) rest e in
    let r = bind_given (found a s g n (j + 1)) (λ l. gave (c.value ++ l)) c.rest in
    let k : j < 64 = omega arith in
    let i : j + 1 + n ≡ 64 = omega arith in
    rw (← gave_same r.rest) (lows_both c.value r.value (cell_inside a s (get_or g j nan) (get_or g (j + 1) nan) j c.value k c.given) (found_inside a s g n (j + 1) r.value i r.given))

lows_at : (l : List Bracket) (k : ℕ) → Lows l → k < length (map low_of l) → Inside (neg one64) one64 (get_or (map low_of l) k nan)
lows_at [] k none h = absurd (not-suc-le-zero h)
lows_at (b ∷ l) zero (also x w) h = x
lows_at (b ∷ l) (suc k) (also x w) h = lows_at l k w (le_of_suc-le-suc h)

brackets_inside : (a : Matrix) (s : ℕ) (l : List Bracket) → brackets_of a s ≡ gave l → Lows l
brackets_inside a s l e =
    let most : List Bracket → Outcome (List Bracket) = λ l. unless (leb (length l) s) 12 (gave l) in
    let f = unless_given (all_finite (grid a s)) 12 (bind (found a s (grid a s) 64 0) most) e in
    let b = bind_given (found a s (grid a s) 64 0) most f.rest in
    let k = unless_given (leb (length b.value) s) 12 (gave b.value) b.rest in
    rw (← gave_same k.rest) (found_inside a s (grid a s) 64 0 b.value refl b.given)

-- ---- every root
pub roots_inside : (m : Colleague) (room : ℕ) (l : List Float) (k : ℕ) → roots_for m room ≡ gave l → k < length l → Inside (neg one64) one64 (get_or l k nan)
unfolding roots_for
roots_inside m room l k e h =
    let last = cond (eqb m.size 0) (gave []) (low_ends (brackets_of (rows_of m) m.size)) in
    let d = unless_given (leb m.size 15 && leb m.size room) 15 (unless (entries_finite (rows_of m)) 9 last) e in
    pick (eqb m.size 0) (unless_given (entries_finite (rows_of m)) 9 last d.rest).rest
  where
    none_at : (z : List Float) → [] ≡ z → k < length z → Inside (neg one64) one64 (get_or z k nan)
    none_at z e h = let n : k < 0 = rw (← e) at h in absurd (not-suc-le-zero n)

    some_at : (b : List Bracket) (z : List Float) → Lows b → map low_of b ≡ z → k < length z → Inside (neg one64) one64 (get_or z k nan)
    some_at b z w e h = rw (← e) (lows_at b k w (rw (← e) at h))

    pick : (t : Bool) → cond t (gave []) (low_ends (brackets_of (rows_of m) m.size)) ≡ gave l → Inside (neg one64) one64 (get_or l k nan)
    pick true q = none_at l (gave_same q) h
    pick false q =
        let b = bind_given (brackets_of (rows_of m) m.size) (λ b. gave (map low_of b)) q in
        some_at b.value l (brackets_inside (rows_of m) m.size b.value b.given) (gave_same b.rest) h

finite_ends : (finite (neg one64) ≡ true) × (finite one64 ≡ true)
unfolding of_bits neg
finite_ends = (refl, refl)

pub roots_finite : (m : Colleague) (room : ℕ) (l : List Float) (k : ℕ) → roots_for m room ≡ gave l → k < length l → finite (get_or l k nan) ≡ true
roots_finite m room l k e h =
    inside_finite (neg one64) one64 (get_or l k nan) finite_ends.0 finite_ends.1 (roots_inside m room l k e h)
