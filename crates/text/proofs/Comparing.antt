-- Two texts compare as the same exactly where they are the same list. Assumes nothing.
use Rattle.std.proofs.Common.{ℕ, ◌≡◌, refl, Bool, true, false, cond, ◌&&◌, List, [], ◌∷◌, eqb, eq-eqb, eqb-true, arith}
use lib.Pointwise.{pointwise}
use Rattle.text.specs.Parts.{same}

pub same_refl : (a : List ℕ) → same a a ≡ true
unfolding same
same_refl [] = refl
same_refl (x ∷ a) = rw (eq-eqb x x refl) (same_refl a)

no : {A : Type 0} → false ≡ true → A
no e = let z : ◌≡◌ {A = ℕ} 0 1 = cc in absurd (omega arith)

pub same_true : (a b : List ℕ) → same a b ≡ true → a ≡ b
unfolding same
same_true [] [] e = refl
same_true [] (y ∷ b) e = no e
same_true (x ∷ a) [] e = no e
same_true (x ∷ a) (y ∷ b) e = go (eqb x y) refl (same_true a b) e
  where
    go : (t : Bool) → eqb x y ≡ t → (same a b ≡ true → a ≡ b) → cond t (same a b) false ≡ true → x ∷ a ≡ y ∷ b
    go true p k q = rw (eqb-true x y p, k q)
    go false p k q = no q

-- what `==` answers
pub same_pointwise : (a b : List ℕ) → pointwise eqb a b ≡ same a b
unfolding same
same_pointwise [] [] = refl
same_pointwise [] (y ∷ b) = refl
same_pointwise (x ∷ a) [] = refl
same_pointwise (x ∷ a) (y ∷ b) = rw (same_pointwise a b) (go (eqb x y) (same a b))
  where
    go : (s t : Bool) → (s && t) ≡ cond s t false
    go true t = refl
    go false t = refl
