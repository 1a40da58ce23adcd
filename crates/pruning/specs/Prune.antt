-- Pruning to n (document 01, "Rules taken from the Rust", Runs), over anything that has a sign and a magnitude: the largest of each
-- run of one sign, the earlier of equal ones; one end where the surplus is odd; then the weakest neighbouring pairs.
use Rattle.std.specs.Prelude.{ℕ, zero, suc, ◌+◌, ◌-◌, ◌/◌, ◌%◌, List, [], ◌∷◌, ◌++◌, Bool, true, false, cond, ◌||◌, length, take, drop, leb, eqb, Float}
use Rattle.std.specs.Float.Ieee.{lt, le, unlike}
use Rattle.numbers.specs.Outcome.{Outcome, gave, unless}

abbrev pub emit : {A : Type 0} → Bool → A → List A → List A
emit true b r = b ∷ r
emit false b r = r

-- the list without the entries at i and i + 1
unfoldable pub drop_pair : {A : Type 0} → ℕ → List A → List A
drop_pair i [] = []
drop_pair i (x ∷ []) = x ∷ []
drop_pair zero (x ∷ y ∷ l) = l
drop_pair (suc i) (x ∷ y ∷ l) = x ∷ drop_pair i (y ∷ l)

-- the list without the gap entries from i on
abbrev pub without : {A : Type 0} → ℕ → ℕ → List A → List A
without i gap l = take i l ++ drop (i + gap) l

-- negative: the sign; size: the magnitude
module _ {A : Type 0} (negative : A → Bool) (size : A → Float) where
  -- a has the other sign than b
  abbrev pub turned : A → A → Bool
  turned b a = unlike (negative b) (negative a)

  -- the best of the run so far, after a
  abbrev pub better : A → A → A
  better b a = cond (turned b a || lt (size b) (size a)) a b

  unfoldable pub runs_from : A → List A → List A
  runs_from b [] = b ∷ []
  runs_from b (a ∷ l) = emit (turned b a) b (runs_from (better b a) l)

  -- the largest of each run
  unfoldable pub runs : List A → List A
  runs [] = []
  runs (b ∷ l) = runs_from b l

  -- the smaller magnitude of a pair
  abbrev pub weaker : A → A → Float
  weaker x y = cond (lt (size y) (size x)) (size y) (size x)

  -- of the pairs from x on, the first of which stands at k: where the weakest is, when of those before k it is v, at `best`
  unfoldable pub weakest_from : ℕ → ℕ → Float → A → List A → ℕ
  weakest_from k best v x [] = best
  weakest_from k best v x (y ∷ l) =
      weakest_from (suc k) (cond (lt (weaker x y) v) k best) (cond (lt (weaker x y) v) (weaker x y) v) y l

  -- the earliest of the weakest pairs
  unfoldable pub weakest : List A → ℕ
  weakest [] = 0
  weakest (x ∷ []) = 0
  weakest (x ∷ y ∷ l) = weakest_from 1 0 (weaker x y) y l

  -- k pairs go
  unfoldable pub without_pairs : ℕ → List A → List A
  without_pairs zero l = l
  without_pairs (suc k) l = without_pairs k (drop_pair (weakest l) l)

  unfoldable pub last_from : A → List A → A
  last_from x [] = x
  last_from x (y ∷ l) = last_from y l

  -- the last goes if |first| >= |last|, else the first
  unfoldable pub without_end : List A → List A
  without_end [] = []
  without_end (x ∷ l) = cond (le (size (last_from x l)) (size x)) (take (length l) (x ∷ l)) l

  -- a surplus of d that is odd
  abbrev pub evened : ℕ → List A → List A
  evened d r = cond (eqb (d % 2) 1) (without_end r) r

  abbrev pub cut : ℕ → List A → List A
  cut n r = without_pairs ((length r - n) / 2) (evened (length r - n) r)

  -- refusal 13 where there are fewer runs than n
  unfoldable pub prune : ℕ → List A → Outcome (List A)
  prune n l = let r = runs l in unless (leb n (length r)) 13 (gave (cut n r))
