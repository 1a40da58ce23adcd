-- Loops as functions. Each recurses as the loop turns, so that a definition reads in execution order.
use Rattle.std.specs.Prelude.{ℕ, zero, suc, ◌+◌, Bool, true, false, not, cond, List, [], ◌∷◌, ltb}

-- f at i, i + 1, .., n turns
unfoldable pub run : {A : Type 0} → (ℕ → A → A) → ℕ → ℕ → A → A
run f zero i s = s
run f (suc n) i s = run f n (i + 1) (f i s)

-- the same, ended at the first i where `stop` holds, by `out i`; after the last turn by `fin` of the state
unfoldable pub until : {S R : Type 0} → (ℕ → Bool) → (ℕ → R) → (ℕ → S → S) → (S → R) → ℕ → ℕ → S → R
until stop out f fin zero i s = fin s
until stop out f fin (suc n) i s = let r = until stop out f fin n (i + 1) (f i s) in cond (stop i) (out i) r

-- f at i, i + d, i + 2d, .., as long as that is below n. The fourth argument bounds the turns: n is enough where d is not 0
unfoldable pub strided : {A : Type 0} → (ℕ → A → A) → ℕ → ℕ → ℕ → ℕ → A → A
strided f d n zero i s = s
strided f d n (suc m) i s = let r = strided f d n m (i + d) (f i s) in cond (ltb i n) r s

-- the list g i, g (i + 1), .., n entries
unfoldable pub tab : {A : Type 0} → (ℕ → A) → ℕ → ℕ → List A
tab g zero i = []
tab g (suc n) i = g i ∷ tab g n (i + 1)

-- the test holds at 0, 1, .., n - 1: a loop that stops at the first place where it does not
abbrev pub every : (ℕ → Bool) → ℕ → Bool
every test n = until (λ i. not (test i)) (λ i. false) (λ i s. s) (λ s. true) n 0 (tt {0})
