-- Two lists of cases that hold are one that holds. Assumes nothing.
use mathlib.Core.List.{List, [], ◌∷◌, ◌++◌}
use Rattle.numbers.specs.Cases.{Case, Agree, none, also}

pub together : (a b : List Case) → Agree a → Agree b → Agree (a ++ b)
together [] b none q = q
together (c ∷ a) b (also e p) q = also e (together a b p q)
