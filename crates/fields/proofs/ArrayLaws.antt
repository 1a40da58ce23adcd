-- An array of what a closure gives at each place, and of what it gives of each element of another: the closure gives what a function
-- gives, and stays as it was. Assumes nothing.
use Prim.Native.Nat.{ℕ, zero, suc, ◌+◌, ◌<◌, ◌≤◌}
use mathlib.Core.Path.{◌≡◌, sym, ap, ◌∙◌}
use mathlib.Core.List.{List, map}
use native.Mathlib.Omega.{arith}
use denote.Param.Members.{Mut}
use native.Mathlib.Decide.{dec_lt}
use lib.ListN.{length, get_or}
use Rattle.std.specs.Fn.{Called}
use Rattle.std.specs.Array.{IsFromFnResultFrom, IsFromFnResult, MapsFrom, IsMapOf}
use Rattle.numbers.specs.Loops.{tab}
use Rattle.numbers.proofs.Lanes.{tab-own, tab-same}
use Rattle.numbers.proofs.InPlace.{map-tab}

module _ {F B : Type 0} (g : Mut F (ℕ × Unit {0}) B) (f : F) (h : ℕ → B) where
  made_at :
      (ys : List B) (d : B) (n i : ℕ) → ((k : ℕ) (y : B) (q : F) → k < i + n → Called g f (k, tt) y q → (y ≡ h k) × (q ≡ f))
      → IsFromFnResultFrom g f ys i n → (k : ℕ) → i ≤ k → k < i + n → get_or ys k d ≡ h k
  made_at ys d zero i own r k a b = absurd (omega arith)
  made_at ys d (suc n) i own r k a b =
      let o = own i r.1 r.0 (omega arith) r.3 in
      let rest : IsFromFnResultFrom g f ys (i + 1) n = rw o.1 at r.4 in
      pick (dec_lt i k) (r.2.1 d ∙ o.0) (λ c. made_at ys d n (i + 1) (λ k y q p. own k y q (omega arith)) rest k (omega arith) (omega arith))
    where
      pick : Dec (i < k) → get_or ys i d ≡ h i → (i < k → get_or ys k d ≡ h k) → get_or ys k d ≡ h k
      pick (yes c) e t = t c
      pick (no c) e t = let z : i ≡ k = omega arith in rw (← z) e

-- what `array::from_fn` makes
pub made_is :
    {F B : Type 0} {g : Mut F (ℕ × Unit {0}) B} {f : F} {ys : List B} {n : ℕ} (h : ℕ → B) → IsFromFnResult g f ys n
    → ((k : ℕ) (y : B) (q : F) → k < n → Called g f (k, tt) y q → (y ≡ h k) × (q ≡ f)) → ys ≡ tab h n 0
made_is {F} {B} {g} {f} {ys} {n} h r own =
    let d = h 0 in
    tab-own ys d n r.long
    ∙ tab-same (λ k. get_or ys k d) h n 0 (λ k a b. made_at g f h ys d n 0 (λ k y q p. own k y q (omega arith)) r.each k a b)

module _ {F A B : Type 0} (g : Mut F (A × Unit {0}) B) (f : F) (h : A → B) (own : (x : A) (y : B) (q : F) → Called g f (x, tt) y q → (y ≡ h x) × (q ≡ f)) where
  mapped_at : (xs : List A) (ys : List B) (d : A) (n i : ℕ) → MapsFrom g f xs ys i n → (k : ℕ) → i ≤ k → k < i + n → get_or ys k (h d) ≡ h (get_or xs k d)
  mapped_at xs ys d zero i r k a b = absurd (omega arith)
  mapped_at xs ys d (suc n) i r k a b =
      let o = own r.1 r.2 r.0 r.5 in
      let rest : MapsFrom g f xs ys (i + 1) n = rw o.1 at r.6 in
      pick (dec_lt i k) (r.4.1 (h d) ∙ o.0 ∙ ap h (sym (r.3.1 d))) (λ c. mapped_at xs ys d n (i + 1) rest k (omega arith) (omega arith))
    where
      pick : Dec (i < k) → get_or ys i (h d) ≡ h (get_or xs i d) → (i < k → get_or ys k (h d) ≡ h (get_or xs k d)) → get_or ys k (h d) ≡ h (get_or xs k d)
      pick (yes c) e t = t c
      pick (no c) e t = let z : i ≡ k = omega arith in rw (← z) e

-- what an array's `map` makes
pub mapped_is :
    {F A B : Type 0} {g : Mut F (A × Unit {0}) B} {f : F} {xs : List A} {ys : List B} {n : ℕ} (h : A → B) (d : A) → IsMapOf g f xs ys n → length xs ≡ n
    → ((x : A) (y : B) (q : F) → Called g f (x, tt) y q → (y ≡ h x) × (q ≡ f)) → ys ≡ map h xs
mapped_is {F} {A} {B} {g} {f} {xs} {ys} {n} h d r e own =
    tab-own ys (h d) n r.long
    ∙ tab-same (λ k. get_or ys k (h d)) (λ k. h (get_or xs k d)) n 0 (λ k a b. mapped_at g f h own xs ys d n 0 r.each k a b)
    ∙ rw (← e) (sym (map-tab h xs d))
