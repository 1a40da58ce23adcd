-- What is said of pruning: some of the entries in their order, and signs that alternate.
use Rattle.std.specs.Prelude.{ℕ, suc, ◌≤◌, ◌<◌, List, [], ◌∷◌, ◌≡◌, Bool, true, length}
use Rattle.std.specs.Float.Ieee.{unlike}

-- u is l with some entries left out
pub data Sub {A : Type 0} : List A → List A → Type 0 where
  done : Sub [] []
  skip : {x : A} {u l : List A} → Sub u l → Sub u (x ∷ l)
  keep : {x : A} {u l : List A} → Sub u l → Sub (x ∷ u) (x ∷ l)

module _ {A : Type 0} (negative : A → Bool) where
  -- the signs alternate, and the first is not z
  unfoldable pub AlternateFrom : Bool → List A → Type 0
  AlternateFrom z [] = Unit {0}
  AlternateFrom z (x ∷ l) = (unlike z (negative x) ≡ true) × AlternateFrom (negative x) l

  unfoldable pub Alternate : List A → Type 0
  Alternate [] = Unit {0}
  Alternate (x ∷ l) = AlternateFrom (negative x) l

-- u is n of the entries of l, in their order, and their signs alternate
pub record Alternating {A : Type 0} (negative : A → Bool) (n : ℕ) (u l : List A) : Type 0 where
  pub count : length u ≡ n
  pub sub : Sub u l
  pub alternate : Alternate negative u

-- places that strictly rise, none below k, each below n
unfoldable pub RisingFrom : ℕ → ℕ → List ℕ → Type 0
RisingFrom k n [] = Unit {0}
RisingFrom k n (i ∷ l) = (k ≤ i) × (i < n) × RisingFrom (suc i) n l
