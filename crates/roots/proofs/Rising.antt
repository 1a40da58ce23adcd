-- The lower ends of the brackets, which are the roots, rise strictly. Assumes nothing.
use Prim.Native.Nat.{ℕ, zero, suc, ◌+◌, ◌<◌, ◌≤◌}
use mathlib.Core.Path.{◌≡◌, refl}
use mathlib.Core.Bool.{Bool, true, false, cond}
use mathlib.Core.List.{List, [], ◌∷◌, ◌++◌}
use native.Mathlib.Omega.{arith}
use lib.Dec.{leb}
use lib.ListN.{length, get_or}
use lib.Ieee.{Float, nan, lt, le, eq}
use lib.Ieee.Scale.{finite}
use Rattle.numbers.specs.Floats.{zero64, all_finite}
use Rattle.numbers.specs.Outcome.{Outcome, gave, bind, unless}
use Rattle.numbers.proofs.Given.{gave_same, unless_given, bind_given}
use Rattle.numbers.proofs.Order.{leq_trans, lt-le, lt_left, lt_trans}
use Rattle.numbers.proofs.Chains.{le_same}
use Rattle.colleague.specs.Matrix.{Matrix}
use Rattle.roots.specs.declared.brackets.Bracket.{Bracket}
use Rattle.roots.specs.Residual.{residual}
use Rattle.roots.specs.Brackets.{cell_end, opposite, bracket, middle, halved, grid, cell, found}
use Rattle.roots.specs.Answer.{brackets_of}
use Rattle.roots.proofs.Middle.{Fine, fine_order, lower, upper}
use Rattle.roots.proofs.Inside.{end_inside, cell_fine}

-- the lower end lies in the cell from l to h, h left out
pub record From (l h : Float) (b : Bracket) : Type 0 where
  pub least : le l b.low ≡ true
  pub below : lt b.low h ≡ true

module _ (a : Matrix) (s k i : ℕ) (l h : Float) (b : Bracket) (f : Fine i l h) (room : i + suc k ≤ 53)
    (half : (l h p : Float) → Fine (suc i) l h → halved a s k p l h ≡ gave b → From l h b) where
  more : i < 53
  more = omega arith

  left : lt l (middle l h) ≡ true
  left = fine_order (suc i) l (middle l h) (lower i l h f more)

  right : lt (middle l h) h ≡ true
  right = fine_order (suc i) (middle l h) h (upper i l h f more)

  at_middle : (p r : Float) (z t : Bool) → cond z (gave (bracket (middle l h) (middle l h))) (cond t (halved a s k p l (middle l h)) (halved a s k r (middle l h) h)) ≡ gave b → From l h b
  at_middle p r true t e = rw (← gave_same e) (record { least = lt-le l (middle l h) left; below = right })
  at_middle p r false true e =
      let w = half l (middle l h) p (lower i l h f more) e in
      record { least = w.least; below = lt_trans b.low (middle l h) h w.below right }
  at_middle p r false false e =
      let w = half (middle l h) h r (upper i l h f more) e in
      record { least = leq_trans l (middle l h) b.low (lt-le l (middle l h) left) w.least; below = w.below }

halved_from : (a : Matrix) (s k i : ℕ) (p l h : Float) (b : Bracket) → Fine i l h → i + k ≤ 53 → halved a s k p l h ≡ gave b → From l h b
unfolding halved
halved_from a s zero i p l h b f room e =
    let o = fine_order i l h f in
    rw (← gave_same e) (record { least = le_same l (lt_left l h o); below = o })
halved_from a s (suc k) i p l h b f room e =
    let m = middle l h in
    let r = residual a s m in
    let g = unless_given (finite r) 12 (cond (eq r zero64) (gave (bracket m m)) (cond (opposite p r) (halved a s k p l m) (halved a s k r m h))) e in
    let q : suc i + k ≤ 53 = omega arith in
    at_middle a s k i l h b f room (λ l h p f. halved_from a s k (suc i) p l h b f q) p r (eq r zero64) (opposite p r) g.rest

-- the lower ends rise strictly, from x on: each lies below some y, from which the next ones rise
pub data Rising : Float → List Bracket → Type 0 where
  none : {x : Float} → Rising x []
  last : {x : Float} {b : Bracket} → le x b.low ≡ true → Rising x (b ∷ [])
  also : {x y : Float} {b : Bracket} {l : List Bracket} → From x y b → Rising y l → Rising x (b ∷ l)

later : (x y : Float) (l : List Bracket) → le x y ≡ true → Rising y l → Rising x l
later x y [] h none = none
later x y (b ∷ l) h (last e) = last (leq_trans x y b.low h e)
later x y (b ∷ l) h (also {y = z} f w) = also {y = z} (record { least = leq_trans x y b.low h f.least; below = f.below }) w

cell-rising : (a : Matrix) (s : ℕ) (p q : Float) (j : ℕ) (c l : List Bracket) → j < 64 → Rising (cell_end (j + 1)) l → cell a s p q j ≡ gave c → Rising (cell_end j) (c ++ l)
cell-rising a s p q j c l h w e = zeroth (eq p zero64) e
  where
    order : lt (cell_end j) (cell_end (j + 1)) ≡ true
    order = fine_order 5 (cell_end j) (cell_end (j + 1)) (cell_fine j h)

    halves : bind (halved a s 40 p (cell_end j) (cell_end (j + 1))) (λ b. gave (b ∷ [])) ≡ gave c → Rising (cell_end j) (c ++ l)
    halves e =
        let g = bind_given (halved a s 40 p (cell_end j) (cell_end (j + 1))) (λ b. gave (b ∷ [])) e in
        let room : 5 + 40 ≤ 53 = omega arith in
        rw (← gave_same g.rest) (also (halved_from a s 40 5 p (cell_end j) (cell_end (j + 1)) g.value (cell_fine j h) room g.given) w)

    signs : (t : Bool) → cond t (bind (halved a s 40 p (cell_end j) (cell_end (j + 1))) (λ b. gave (b ∷ []))) (gave []) ≡ gave c → Rising (cell_end j) (c ++ l)
    signs true e = halves e
    signs false e = rw (← gave_same e) (later (cell_end j) (cell_end (j + 1)) l (lt-le (cell_end j) (cell_end (j + 1)) order) w)

    zeroth : (t : Bool) → cond t (gave (bracket (cell_end j) (cell_end j) ∷ [])) (cond (opposite p q) (bind (halved a s 40 p (cell_end j) (cell_end (j + 1))) (λ b. gave (b ∷ []))) (gave [])) ≡ gave c → Rising (cell_end j) (c ++ l)
    zeroth true e = rw (← gave_same e) (also (record { least = le_same (cell_end j) (lt_left (cell_end j) (cell_end (j + 1)) order); below = order }) w)
    zeroth false e = signs (opposite p q) e

pub found-rising : (a : Matrix) (s : ℕ) (g : List Float) (n j : ℕ) (l : List Bracket) → j + n ≡ 64 → found a s g n j ≡ gave l → Rising (cell_end j) l
unfolding found
found-rising a s g zero j l h e = rw (← gave_same e) (ended (eq (get_or g j nan) zero64))
  where
    ended : (t : Bool) → Rising (cell_end j) (cond t (bracket (cell_end j) (cell_end j) ∷ []) [])
    ended true = last (le_same (cell_end j) (end_inside j (omega arith)).number)
    ended false = none
found-rising a s g (suc n) j l h e =
    let rest : List Bracket → Outcome (List Bracket) = λ c. bind (found a s g n (j + 1)) (λ l. gave (c ++ l)) in
    let c = bind_given (cell a s (get_or g j nan) (get_or g (j + 1) nan) j) rest e in
    let r = bind_given (found a s g n (j + 1)) (λ l. gave (c.value ++ l)) c.rest in
    let k : j < 64 = omega arith in
    let i : j + 1 + n ≡ 64 = omega arith in
    rw (← gave_same r.rest) (cell-rising a s (get_or g j nan) (get_or g (j + 1) nan) j c.value r.value k (found-rising a s g n (j + 1) r.value i r.given) c.given)

pub brackets_rising : (a : Matrix) (s : ℕ) (l : List Bracket) → brackets_of a s ≡ gave l → Rising (cell_end 0) l
brackets_rising a s l e =
    let most : List Bracket → Outcome (List Bracket) = λ l. unless (leb (length l) s) 12 (gave l) in
    let f = unless_given (all_finite (grid a s)) 12 (bind (found a s (grid a s) 64 0) most) e in
    let b = bind_given (found a s (grid a s) 64 0) most f.rest in
    let k = unless_given (leb (length b.value) s) 12 (gave b.value) b.rest in
    rw (← gave_same k.rest) (found-rising a s (grid a s) 64 0 b.value refl b.given)
