-- The search for roots (document 01, "Roots"): 64 cells between -1 + j/32, j = 0 to 64, in rising order. A cell whose left residual is
-- zero yields its left end; one whose end residuals have strictly opposite signs is halved. Point 1 is yielded if its residual
-- is zero. A root touched without a sign change is missed.
use Rattle.std.specs.Prelude.{ℕ, zero, suc, ◌+◌, Bool, ◌&&◌, ◌||◌, cond, List, [], ◌∷◌, ◌++◌, map, pos, get_or, Float, Option, Some, None, Result, Ok, Err}
use Rattle.std.specs.Float.{nan, binary64}
use Rattle.std.specs.Float.Ieee.{of_bits, of_int, lt, eq, neg}
use Rattle.std.specs.Float.Ieee.Scale.{finite}
use Rattle.numbers.specs.Floats.{zero64, one64}
use Rattle.numbers.specs.Loops.{tab}
use Rattle.numbers.specs.Operations.{◌⊕◌, ◌⊗◌, ◌⊘◌}
use Rattle.numbers.specs.Outcome.{Outcome, refused, gave, bind, unless}
use Rattle.numbers.specs.Refusals.{refusal_number}
use Rattle.colleague.specs.Matrix.{Matrix}
use Rattle.roots.specs.declared.brackets.Bracket.{Bracket}
use Rattle.numbers.specs.declared.Refusal.{Refusal}
use Rattle.roots.specs.Residual.{residual}

-- -1 + j/32
abbrev pub cell_end : ℕ → Float
cell_end j = neg one64 ⊕ of_int binary64 (pos j) ⊘ of_bits binary64 0x4040_0000_0000_0000

-- the residuals at the 65 cell ends
abbrev pub grid : Matrix → ℕ → List Float
grid a s = tab (λ j. residual a s (cell_end j)) 65 0

-- strictly opposite signs
abbrev pub opposite : Float → Float → Bool
opposite p q = (lt p zero64 && lt zero64 q) || (lt zero64 p && lt q zero64)

abbrev pub bracket : Float → Float → Bracket
bracket l h = record { low = l; high = h }

abbrev pub middle : Float → Float → Float
middle l h = (l ⊕ h) ⊗ of_bits binary64 0x3fe0_0000_0000_0000

-- k halvings at most: the midpoint where its residual is zero, else the half whose ends still differ in sign; p is the residual at
-- the low end. Refusal 12 where a residual is not finite
unfoldable pub halved : Matrix → ℕ → ℕ → Float → Float → Float → Outcome Bracket
halved a s zero p l h = gave (bracket l h)
halved a s (suc k) p l h =
    let m = middle l h in
    let r = residual a s m in
    unless (finite r) 12 (cond (eq r zero64) (gave (bracket m m)) (cond (opposite p r) (halved a s k p l m) (halved a s k r m h)))

-- what the cell from j on yields, of the residuals p and q at its ends
abbrev pub cell : Matrix → ℕ → Float → Float → ℕ → Outcome (List Bracket)
cell a s p q j =
    cond (eq p zero64) (gave (bracket (cell_end j) (cell_end j) ∷ []))
    (cond (opposite p q) (bind (halved a s 40 p (cell_end j) (cell_end (j + 1))) (λ b. gave (b ∷ []))) (gave []))

-- what the cells from j on, n of them, yield, and then point 1; g is the grid
unfoldable pub found : Matrix → ℕ → List Float → ℕ → ℕ → Outcome (List Bracket)
found a s g zero j = gave (cond (eq (get_or g j nan) zero64) (bracket (cell_end j) (cell_end j) ∷ []) [])
found a s g (suc n) j =
    bind (cell a s (get_or g j nan) (get_or g (j + 1) nan) j) (λ c. bind (found a s g n (j + 1)) (λ l. gave (c ++ l)))

-- the lower ends, which are the roots
abbrev pub low_of : Bracket → Float
low_of b = b.low

abbrev pub low_end : Outcome Bracket → Outcome Float
low_end o = bind o (λ b. gave (low_of b))

abbrev pub low_ends : Outcome (List Bracket) → Outcome (List Float)
low_ends o = bind o (λ l. gave (map low_of l))

-- what a cell's answer stands for
abbrev pub cell_of : Result (Option Float) Refusal → Outcome (List Float)
cell_of (Ok None) = gave []
cell_of (Ok (Some x)) = gave (x ∷ [])
cell_of (Err why) = refused (refusal_number why)
