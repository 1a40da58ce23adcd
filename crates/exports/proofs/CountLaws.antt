-- Counts and numbers written to two outputs. Assumes nothing.
use Prim.Native.Nat.{ℕ, ◌≤◌}
use mathlib.Core.Path.{◌≡◌, refl}
use mathlib.Core.List.{List, [], ◌∷◌, ◌++◌}
use native.Mathlib.Omega.{arith}
use lib.ListN.{length, set, drop}
use lib.Ieee.{Float}
use Rattle.numbers.specs.Loops.{tab}
use Rattle.numbers.specs.Outcome.{Outcome, gave}
use Rattle.numbers.proofs.LoopLaws.{length-tab}
use Rattle.exports.specs.Answers.{Told, told, Counted}

-- one count and the numbers
pub counted_one : {o : Outcome Told} (n : ℕ) (l : List Float) (c : List ℕ) {w w' : List Float} → 1 ≤ length c → gave (told (n ∷ []) l) ≡ o → w' ≡ l ++ drop (length l) w → Counted o 0 c (set c 0 n) w w'
counted_one n l [] h e k = absurd (omega arith)
counted_one n l (x ∷ c) h e k = rw (← e) (record { is = refl; counts = refl; out = k })

-- numbers that a loop has written to the front
pub tab-front : (f : ℕ → Float) (n : ℕ) (w : List Float) {w' : List Float} → w' ≡ tab f n 0 ++ drop n w → w' ≡ tab f n 0 ++ drop (length (tab f n 0)) w
tab-front f n w e = rw (length-tab f n 0) e
