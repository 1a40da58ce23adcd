-- The spread of candidates, walked from the second on. Assumes nothing.
use Prim.Native.Nat.{ℕ, zero, suc, ◌+◌, ◌<◌, ◌≤◌}
use mathlib.Core.Path.{◌≡◌, refl, ap, ◌∙◌}
use mathlib.Core.Bool.{cond}
use mathlib.Core.List.{List, [], ◌∷◌}
use native.Mathlib.Nat.{not-suc-le-zero, le_of_suc-le-suc}
use lib.ListN.{length, get_or}
use lib.Ieee.{Float, lt}
use Rattle.numbers.specs.Floats.{magnitude_of, lesser}
use Rattle.numbers.proofs.LoopLaws.{Going, next}
use Rattle.pruning.specs.declared.candidates.Candidate.{Candidate}
use Rattle.pruning.specs.Candidates.{none}
use Rattle.exchange.specs.declared.flatness.Spread.{Spread}
use Rattle.exchange.specs.Flatness.{size_at, spread, widen, spread_of}

-- what stands past the end does not matter before it
pub get_d_before : {A : Type 0} (l : List A) (i : ℕ) (d e : A) → i < length l → get_or l i d ≡ get_or l i e
get_d_before [] i d e h = absurd (not-suc-le-zero h)
get_d_before (x ∷ l) zero d e h = refl
get_d_before (x ∷ l) (suc i) d e h = get_d_before l i d e (le_of_suc-le-suc h)

-- ---- walked from the second on
module _ (list : List Candidate) where
  size_taken : (i : ℕ) (d : Candidate) → i < length list → magnitude_of (get_or list i d).error ≡ size_at list i
  size_taken i d h = ap (λ (c : Candidate). magnitude_of c.error) (get_d_before list i d none h)

  pub spread_start : (d : Candidate) (m : Float) → 1 ≤ length list → m ≡ magnitude_of (get_or list 0 d).error → Going (widen list) (length list) 1 (spread m m) (spread_of list)
  unfolding spread_of
  spread_start d m h e = let s : m ≡ size_at list 0 = e ∙ size_taken 0 d h in record { within = h; rest = rw s }

  pub spread_next :
      {i : ℕ} {most least more less : Float} {r : Spread} (d : Candidate) (a : Float) → Going (widen list) (length list) i (spread most least) r → i < length list
      → a ≡ magnitude_of (get_or list i d).error → more ≡ cond (lt most a) a most → less ≡ lesser least a
      → Going (widen list) (length list) (i + 1) (spread more less) r
  spread_next {i} {most} {least} {more} {less} d a g h e p q =
      let s : a ≡ size_at list i = e ∙ size_taken i d h in
      next g h (rw (p, q, s))
