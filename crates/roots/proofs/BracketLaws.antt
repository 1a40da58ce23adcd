-- The laws of the search: signs that differ, halving, and what the cells yield one after another. Assumes nothing.
use Prim.Native.Nat.{ℕ, suc, ◌+◌, ◌-◌, ◌<◌, ◌≤◌}
use mathlib.Core.Path.{◌≡◌, refl, sym, ◌∙◌, ap}
use mathlib.Core.Bool.{Bool, true, false, cond, ◌||◌}
use mathlib.Core.List.{List, [], ◌∷◌, ◌++◌, map, append_assoc, append-nil}
use native.Mathlib.Omega.{arith}
use native.Mathlib.Numerals.{add-one}
use lib.ListN.{length, get_or, set, take}
use lib.Seq.{take-suc-set}
use lib.Ieee.{Float, nan, lt, eq}
use lib.Ieee.Scale.{finite}
use Rattle.numbers.specs.Floats.{zero64}
use Rattle.numbers.specs.Outcome.{Outcome, refused, gave, bind, unless}
use Rattle.numbers.proofs.Order.{lt_asym}
use Rattle.colleague.specs.Matrix.{Matrix}
use Rattle.roots.specs.declared.brackets.Bracket.{Bracket}
use Rattle.roots.specs.Residual.{residual}
use Rattle.roots.specs.Brackets.{opposite, middle, bracket, halved, cell, cell_end, found, low_of, low_ends}

-- ---- the signs of p and q differ, by the tests in the order of the code
or_none : (b : Bool) → b ≡ (b || false)
or_none true = refl
or_none false = refl

module _ (p q : Float) where
  pub opposite_below : lt p zero64 ≡ true → lt zero64 q ≡ opposite p q
  opposite_below h = rw (h, lt_asym p zero64 h) (or_none (lt zero64 q))

  pub opposite_above : lt p zero64 ≡ false → lt zero64 p ≡ true → lt q zero64 ≡ opposite p q
  opposite_above h k = rw (h, k)

  pub opposite_neither : lt p zero64 ≡ false → lt zero64 p ≡ false → false ≡ opposite p q
  opposite_neither h k = rw (h, k)

-- ---- halving k of 40, by the tests in the order of the code
module _ (a : Matrix) (s k : ℕ) (p l h x r : Float) (o : Outcome Bracket) (some : k < 40) (g : halved a s (40 - k) p l h ≡ o) (ex : x ≡ middle l h) (er : r ≡ residual a s x) where
  halved_is : halved a s (40 - k) p l h ≡ (cond (finite r) (cond (eq r zero64) (gave (bracket x x)) (cond (opposite p r) (halved a s (40 - (k + 1)) p l x) (halved a s (40 - (k + 1)) r x h))) (refused 12))
  unfolding halved
  halved_is = let e : 40 - k ≡ suc (40 - (k + 1)) = omega arith in ap (λ i. halved a s i p l h) e ∙ rw (er, ex) (unless_cond (finite (residual a s (middle l h))) _)
    where
      unless_cond : (t : Bool) (z : Outcome Bracket) → unless t 12 z ≡ cond t z (refused 12)
      unless_cond true z = refl
      unless_cond false z = refl

  pub halve_stop : finite r ≡ false → refused 12 ≡ o
  halve_stop f = rw (halved_is, f) at g

  pub halve_zero : finite r ≡ true → eq r zero64 ≡ true → gave (bracket x x) ≡ o
  halve_zero f e = rw (halved_is, f, e) at g

  pub halve_low : finite r ≡ true → eq r zero64 ≡ false → opposite p r ≡ true → halved a s (40 - (k + 1)) p l x ≡ o
  halve_low f e t = rw (halved_is, f, e, t) at g

  pub halve_high : finite r ≡ true → eq r zero64 ≡ false → opposite p r ≡ false → halved a s (40 - (k + 1)) r x h ≡ o
  halve_high f e t = rw (halved_is, f, e, t) at g

pub halve_none : (a : Matrix) (s k : ℕ) (p l h : Float) (o : Outcome Bracket) → 40 ≤ k → halved a s (40 - k) p l h ≡ o → gave (bracket l h) ≡ o
unfolding halved
halve_none a s k p l h o n g = let e : 40 - k ≡ 0 = omega arith in rw e at g

-- ---- what the first n entries of `low` hold, and what the cells from j on yield, give r
pub record Finding (a : Matrix) (s : ℕ) (g : List Float) (j n : ℕ) (low : List Float) (r : Outcome (List Float)) : Type 0 where
  pub within : j ≤ 64
  pub behind : n ≤ j
  pub rest : bind (low_ends (found a s g (64 - j) j)) (λ l. gave (take n low ++ l)) ≡ r

bind_itself : {A : Type 0} (o : Outcome A) → bind o (λ l. gave l) ≡ o
bind_itself (refused n) = refl
bind_itself (gave a) = refl

pub find_start : {a : Matrix} {s : ℕ} {g low : List Float} → Finding a s g 0 0 low (low_ends (found a s g 64 0))
find_start {a} {s} {g} {low} = record { within = omega arith; behind = omega arith; rest = bind_itself (low_ends (found a s g 64 0)) }

map-append : (b l : List Bracket) → map low_of (b ++ l) ≡ map low_of b ++ map low_of l
map-append [] l = refl
map-append (x ∷ b) l = ap (λ z. low_of x ∷ z) (map-append b l)

-- a cell's yield goes before what comes
lows_both : (c o : Outcome (List Bracket)) → low_ends (bind c (λ b. bind o (λ l. gave (b ++ l)))) ≡ bind (low_ends c) (λ b. bind (low_ends o) (λ l. gave (b ++ l)))
lows_both (refused n) o = refl
lows_both (gave b) (refused n) = refl
lows_both (gave b) (gave l) = rw (map-append b l)

found_is : (a : Matrix) (s : ℕ) (g : List Float) (j : ℕ) → j < 64
    → low_ends (found a s g (64 - j) j) ≡ bind (low_ends (cell a s (get_or g j nan) (get_or g (j + 1) nan) j)) (λ b. bind (low_ends (found a s g (64 - (j + 1)) (j + 1))) (λ l. gave (b ++ l)))
unfolding found
found_is a s g j h =
    let e : 64 - j ≡ suc (64 - (j + 1)) = omega arith in
    ap (λ i. low_ends (found a s g i j)) e ∙ lows_both (cell a s (get_or g j nan) (get_or g (j + 1) nan) j) (found a s g (64 - (j + 1)) (j + 1))

-- an entry in front of what comes, or behind what is there
behind_there : (o : Outcome (List Float)) (t : List Float) (x : Float) → bind (bind o (λ l. gave (x ∷ l))) (λ l. gave (t ++ l)) ≡ bind o (λ l. gave ((t ++ (x ∷ [])) ++ l))
behind_there (refused n) t x = refl
behind_there (gave l) t x = rw append_assoc

module _ {a : Matrix} {s : ℕ} {g : List Float} {j n : ℕ} {low : List Float} {r : Outcome (List Float)} (f : Finding a s g j n low r) (h : j < 64) where
  pub find_nothing : gave [] ≡ low_ends (cell a s (get_or g j nan) (get_or g (j + 1) nan) j) → Finding a s g (j + 1) n low r
  find_nothing e =
      record {
        within = omega arith;
        behind = omega (arith, f.behind);
        rest = ap (λ o. bind o (λ l. gave (take n low ++ l))) (sym (bind_itself (low_ends (found a s g (64 - (j + 1)) (j + 1))))) ∙ (rw (found_is a s g j h, ← e) at f.rest);
      }

  pub find_root : {x : Float} → n < length low → gave (x ∷ []) ≡ low_ends (cell a s (get_or g j nan) (get_or g (j + 1) nan) j) → Finding a s g (j + 1) (n + 1) (set low n x) r
  find_root {x} k e =
      record {
        within = omega arith;
        behind = omega (arith, f.behind);
        rest =
            ap (λ t. bind (low_ends (found a s g (64 - (j + 1)) (j + 1))) (λ l. gave (t ++ l))) (ap (λ i. take i (set low n x)) (add-one n) ∙ take-suc-set low n x k)
            ∙ sym (behind_there (low_ends (found a s g (64 - (j + 1)) (j + 1))) (take n low) x)
            ∙ (rw (found_is a s g j h, ← e) at f.rest);
      }

  pub find_stop : {m : ℕ} → refused m ≡ low_ends (cell a s (get_or g j nan) (get_or g (j + 1) nan) j) → refused m ≡ r
  find_stop {m} e = rw (found_is a s g j h, ← e) at f.rest

module _ {a : Matrix} {s : ℕ} {g : List Float} {j n : ℕ} {low : List Float} {r : Outcome (List Float)} (f : Finding a s g j n low r) (h : 64 ≤ j) where
  last : j ≡ 64
  last = omega (arith, f.within)

  pub find_end : eq (get_or g 64 nan) zero64 ≡ false → gave (take n low) ≡ r
  unfolding found
  find_end e = rw (last, e, append-nil) at f.rest

  pub find_one : n < length low → eq (get_or g 64 nan) zero64 ≡ true → gave (take (n + 1) (set low n (cell_end 64))) ≡ r
  unfolding found
  find_one k e = rw (add-one n, take-suc-set low n (cell_end 64) k) (rw (last, e) at f.rest)
