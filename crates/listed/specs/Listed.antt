-- Lists in fixed memory.
use Rattle.std.specs.Prelude.{ℕ, ◌+◌, ◌-◌, cond, List, ◌++◌, ltb, length, set, replicate}
use Rattle.listed.specs.declared.Listed.{Listed}

-- the entries at the front of n places, and the filler beyond them
abbrev pub listed : {T : Type 0} → T → (n : ℕ) → List T → Listed T n
listed filler n l = record { list = l ++ replicate (n - length l) filler; count = length l }

-- an entry behind those that are there, if there is a place
abbrev pub push : {T : Type 0} {n : ℕ} → T → Listed T n → Listed T n
push {T} {n} x s = cond (ltb s.count n) (record { list = set s.list s.count x; count = s.count + 1 }) s
