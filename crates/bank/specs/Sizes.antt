-- The sizes of a bank, and the words of its slots.
use Rattle.std.specs.Prelude.{ℕ, ◌*◌, Bool, true, false, ◌&&◌, List, [], ◌∷◌, ◌++◌, eqb, take, drop, replicate}

-- the words of a slot, the slots, the words of the scratch; the room that the outputs must have
pub record Sizes : Type 0 where
  pub slot : ℕ
  pub slots : ℕ
  pub scratch : ℕ
  pub taps : ℕ
  pub freqs : ℕ
  pub bytes : ℕ

abbrev pub full : Sizes
full = record { slot = 256; slots = 16; scratch = 8192; taps = 128; freqs = 65; bytes = 948 }

-- the first n words zero, the rest as they are
unfoldable pub wiped : ℕ → List ℕ → List ℕ
wiped n l = replicate n 0 ++ drop n l

-- the words of slot i: one slot after another
unfoldable pub slot_of : Sizes → List ℕ → ℕ → List ℕ
slot_of σ bank i = take σ.slot (drop (i * σ.slot) bank)

-- the bank with the words ws in slot i
unfoldable pub put_slot : Sizes → List ℕ → ℕ → List ℕ → List ℕ
put_slot σ bank i ws = take (i * σ.slot) bank ++ (ws ++ drop σ.slot (drop (i * σ.slot) bank))

unfoldable pub all_zero : List ℕ → Bool
all_zero [] = true
all_zero (x ∷ xs) = eqb x 0 && all_zero xs

-- the same words
unfoldable pub same : List ℕ → List ℕ → Bool
same [] [] = true
same [] (y ∷ ys) = false
same (x ∷ xs) [] = false
same (x ∷ xs) (y ∷ ys) = eqb x y && same xs ys
