-- Words that are all zero, and words that are the same, as a slice's own tests find them. Assumes nothing.
use Prim.Native.Nat.{ℕ}
use mathlib.Core.Path.{◌≡◌, refl, ap, ◌∙◌}
use mathlib.Core.Bool.{Bool, ◌&&◌}
use mathlib.Core.List.{List, [], ◌∷◌}
use lib.Dec.{eqb}
use lib.Pointwise.{pointwise}
use Rattle.std.specs.List.{list_all}
use Rattle.bank.specs.Sizes.{all_zero, same}

pub zeros : (l : List ℕ) → list_all (λ x. eqb x 0) l ≡ all_zero l
unfolding all_zero
zeros [] = refl
zeros (x ∷ l) = ap (λ (t : Bool). eqb x 0 && t) (zeros l)

pub slices_same : (a b : List ℕ) → pointwise eqb a b ≡ same a b
unfolding same
slices_same [] [] = refl
slices_same [] (y ∷ b) = refl
slices_same (x ∷ a) [] = refl
slices_same (x ∷ a) (y ∷ b) = ap (λ (t : Bool). eqb x y && t) (slices_same a b)
