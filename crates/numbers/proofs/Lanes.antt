-- Lanes: a loop whose every turn changes each entry of a list by itself is, entry by entry, a loop of its own. So places worked
-- out side by side keep each its own order of operations, and every bit. Assumes nothing.
use Prim.Native.Nat.{ℕ, zero, suc, ◌+◌, ◌<◌, ◌≤◌}
use mathlib.Core.Path.{◌≡◌, refl, sym, ap, ◌∙◌}
use mathlib.Core.Bool.{Bool, true, false, cond}
use mathlib.Core.List.{List, ◌∷◌}
use native.Mathlib.Omega.{arith}
use native.Mathlib.Nat.{zero-add, not-suc-le-zero, le_of_suc-le-suc}
use lib.Dec.{ltb}
use lib.ListN.{length, get_or}
use Rattle.numbers.specs.Loops.{run, strided, tab}
use Rattle.numbers.proofs.LoopLaws.{tab_get_d, length-tab}

-- ---- lists by their entries
pub tab-same : {A : Type 0} (g h : ℕ → A) (n i : ℕ) → ((k : ℕ) → i ≤ k → k < i + n → g k ≡ h k) → tab g n i ≡ tab h n i
unfolding tab
tab-same g h zero i e = refl
tab-same g h (suc n) i e =
    let a : i ≤ i = omega arith in
    let b : i < i + suc n = omega arith in
    (λ j. e i a b j ∷ tab-same g h n (i + 1) (λ k p q. e k (after k p) (before k q)) j)
  where
    after : (k : ℕ) → i + 1 ≤ k → i ≤ k
    after k p = omega arith

    before : (k : ℕ) → k < i + 1 + n → k < i + suc n
    before k q = omega arith

pub tab-at : {A : Type 0} (g : ℕ → A) (n i k : ℕ) (d : A) → k < n → get_or (tab g n i) k d ≡ g (i + k)
unfolding tab
tab-at g zero i k d h = absurd (not-suc-le-zero h)
tab-at g (suc n) i zero d h = let z : i ≡ i + 0 = omega arith in ap g z
tab-at g (suc n) i (suc k) d h = let z : i + 1 + k ≡ i + suc k = omega arith in tab-at g n (i + 1) k d (le_of_suc-le-suc h) ∙ ap g z

-- the entry k of a list from 0 on
pub tab-get : {A : Type 0} (g : ℕ → A) (n k : ℕ) (d : A) → k < n → get_or (tab g n 0) k d ≡ g k
tab-get g n k d h = tab-at g n 0 k d h ∙ ap g (zero-add k)

pub tab-own : {A : Type 0} (p : List A) (d : A) (m : ℕ) → length p ≡ m → p ≡ tab (λ k. get_or p k d) m 0
tab-own p d m h = let z : 0 + m ≡ length p = omega arith in sym (tab_get_d p d m 0 z)

-- ---- turn i of every lane: f of the lane, the turn and the entry
abbrev pub row : {A : Type 0} → (ℕ → ℕ → A → A) → ℕ → A → ℕ → List A → List A
row f m d i p = tab (λ k. f k i (get_or p k d)) m 0

pub row_length : {A : Type 0} (f : ℕ → ℕ → A → A) (m : ℕ) (d : A) (i : ℕ) (p : List A) → length (row f m d i p) ≡ m
row_length f m d i p = length-tab (λ k. f k i (get_or p k d)) m 0

pub lanes : {A : Type 0} (f : ℕ → ℕ → A → A) (m : ℕ) (d : A) (n i : ℕ) (p : List A) → length p ≡ m → run (row f m d) n i p ≡ tab (λ k. run (f k) n i (get_or p k d)) m 0
unfolding run
lanes f m d zero i p h = tab-own p d m h
lanes f m d (suc n) i p h =
    lanes f m d n (i + 1) (row f m d i p) (row_length f m d i p)
    ∙ tab-same (λ k. run (f k) n (i + 1) (get_or (row f m d i p) k d)) (λ k. run (f k) n (i + 1) (f k i (get_or p k d))) m 0
    (λ k a b. ap (run (f k) n (i + 1)) (tab-get (λ k. f k i (get_or p k d)) m k d (rw zero-add at b)))

cond-tab : {A : Type 0} (t : Bool) (g h : ℕ → A) (m i : ℕ) → cond t (tab g m i) (tab h m i) ≡ tab (λ k. cond t (g k) (h k)) m i
cond-tab true g h m i = refl
cond-tab false g h m i = refl

-- the same by a stride
pub strided_lanes : {A : Type 0} (f : ℕ → ℕ → A → A) (m : ℕ) (d : A) (s n t i : ℕ) (p : List A) → length p ≡ m → strided (row f m d) s n t i p ≡ tab (λ k. strided (f k) s n t i (get_or p k d)) m 0
unfolding strided
strided_lanes f m d s n zero i p h = tab-own p d m h
strided_lanes f m d s n (suc t) i p h =
    ap (λ z. cond (ltb i n) z p)
    (strided_lanes f m d s n t (i + s) (row f m d i p) (row_length f m d i p)
    ∙ tab-same (λ k. strided (f k) s n t (i + s) (get_or (row f m d i p) k d)) (λ k. strided (f k) s n t (i + s) (f k i (get_or p k d))) m 0
    (λ k a b. ap (strided (f k) s n t (i + s)) (tab-get (λ k. f k i (get_or p k d)) m k d (rw zero-add at b))))
    ∙ ap (λ z. cond (ltb i n) (tab (λ k. strided (f k) s n t (i + s) (f k i (get_or p k d))) m 0) z) (tab-own p d m h)
    ∙ cond-tab (ltb i n) (λ k. strided (f k) s n t (i + s) (f k i (get_or p k d))) (λ k. get_or p k d) m 0
