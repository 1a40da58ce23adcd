-- An entry put behind those of a list that has room is one more entry. Assumes nothing.
use Prim.Native.Nat.{ℕ, ◌+◌, ◌<◌}
use mathlib.Core.Path.{◌≡◌, sym}
use mathlib.Core.List.{List, [], ◌∷◌, ◌++◌}
use lib.ListN.{length, set}
use borrow.Author.Tests.{lt-ltb}
use Rattle.numbers.proofs.Fronts.{padded_more, length_more}
use Rattle.listed.specs.declared.Listed.{Listed}
use Rattle.listed.specs.Listed.{listed, push}

pub listed_more : {T : Type 0} (filler : T) (n : ℕ) (l : List T) (x : T) → length l < n
    → ◌≡◌ {A = Listed T n} (record { list = set (listed filler n l).list (length l) x; count = length l + 1 }) (listed filler n (l ++ (x ∷ [])))
listed_more filler n l x h = (λ i. record { list = padded_more n filler l x h i; count = sym (length_more l x) i })

pub push-listed : {T : Type 0} (filler : T) (n : ℕ) (l : List T) (x : T) → length l < n → push x (listed filler n l) ≡ listed filler n (l ++ (x ∷ []))
push-listed filler n l x h = rw (lt-ltb _ _ h) (listed_more filler n l x h)
