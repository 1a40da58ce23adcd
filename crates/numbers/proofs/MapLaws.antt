-- A list that is mapped: an entry set, and the first n. Assumes nothing.
use Prim.Native.Nat.{ℕ, zero, suc}
use mathlib.Core.Path.{◌≡◌, refl, ap}
use mathlib.Core.List.{List, [], ◌∷◌, map}
use lib.ListN.{set, take}

module _ {A B : Type 0} (f : A → B) where
  pub map_set : (l : List A) (i : ℕ) (a : A) → map f (set l i a) ≡ set (map f l) i (f a)
  map_set [] i a = refl
  map_set (x ∷ l) zero a = refl
  map_set (x ∷ l) (suc i) a = ap (λ (q : List B). f x ∷ q) (map_set l i a)

  pub map_take : (n : ℕ) (l : List A) → map f (take n l) ≡ take n (map f l)
  map_take zero l = refl
  map_take (suc n) [] = refl
  map_take (suc n) (x ∷ l) = ap (λ (q : List B). f x ∷ q) (map_take n l)
