-- A part of a text, as a list of bytes.
use Rattle.std.specs.Prelude.{ℕ, ◌-◌, Bool, true, false, cond, List, [], ◌∷◌, leb, eqb, length, take, drop}

-- the bytes from one place to before another; none where the text has no such part
unfoldable pub part_of : List ℕ → ℕ → ℕ → List ℕ
part_of s from to = cond (leb from to) (cond (leb to (length s)) (take (to - from) (drop from s)) []) []

-- the same bytes
unfoldable pub same : List ℕ → List ℕ → Bool
same [] [] = true
same [] (y ∷ t) = false
same (x ∷ s) [] = false
same (x ∷ s) (y ∷ t) = cond (eqb x y) (same s t) false
