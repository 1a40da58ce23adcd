-- Loops that change the entries of a list where they stand: one is a row of lanes, and two lists that are changed side by side
-- are one list of both. Assumes nothing.
use Prim.Native.Nat.{ℕ, zero, suc, ◌+◌, ◌<◌, ◌≤◌}
use mathlib.Core.Path.{◌≡◌, refl, sym, ap, ◌∙◌}
use mathlib.Core.List.{List, [], ◌∷◌, ◌++◌, map, zip_with, append_assoc, append-nil}
use native.Mathlib.Omega.{arith}
use native.Mathlib.Numerals.{add-one}
use native.Mathlib.Nat.{not-suc-le-zero, le_of_suc-le-suc, suc_inj}
use lib.ListN.{length, get_or, set, take, length-set, length-map, get_or-map}
use lib.Seq.{take_all, take-suc-set, get_or-set_other}
use Rattle.numbers.specs.Loops.{run, tab}
use Rattle.numbers.proofs.LoopLaws.{Going, start}
use Rattle.numbers.proofs.Lanes.{tab-same, tab-own}

-- turn k: the entry k is changed, the others stay
abbrev pub change : {A : Type 0} → (ℕ → A → A) → A → ℕ → List A → List A
change f d k p = set p k (f k (get_or p k d))

change_from : {A : Type 0} (f : ℕ → A → A) (d : A) (m i : ℕ) (p : List A) → i + m ≡ length p → run (change f d) m i p ≡ take i p ++ tab (λ k. f k (get_or p k d)) m i
unfolding run tab
change_from f d zero i p h = let l : length p ≤ i = omega arith in rw (take_all i p l, append-nil)
change_from f d (suc m) i p h =
    let v = f i (get_or p i d) in
    let q : i < length p = omega arith in
    let l : i + 1 + m ≡ length (set p i v) = simp length-set (omega arith) in
    change_from f d m (i + 1) (set p i v) l
    ∙ ap (λ z. take (i + 1) (set p i v) ++ z)
    (tab-same (λ k. f k (get_or (set p i v) k d)) (λ k. f k (get_or p k d)) m (i + 1)
    (λ k a b. ap (f k) (get_or-set_other p i k v d (other k a))))
    ∙ rw (add-one, take-suc-set, append_assoc)
  where
    other : (k : ℕ) → i + 1 ≤ k → k ≡ i → ⊥
    other k a e = omega arith

-- every entry in turn
pub change_start : {A : Type 0} (f : ℕ → A → A) (d : A) (m : ℕ) (p : List A) → m ≡ length p → Going (change f d) m 0 p (tab (λ k. f k (get_or p k d)) m 0)
change_start f d m p h = let l : 0 + m ≡ length p = omega arith in rw (← change_from f d m 0 p l) start

pub map-tab : {A B : Type 0} (h : A → B) (l : List A) (d : A) → map h l ≡ tab (λ k. h (get_or l k d)) (length l) 0
map-tab h l d =
    tab-own (map h l) (h d) (length l) (length-map l h)
    ∙ tab-same (λ k. get_or (map h l) k (h d)) (λ k. h (get_or l k d)) (length l) 0 (λ k a b. get_or-map h l k d)

-- every entry by h alone
pub map_here : {A : Type 0} (h : A → A) (d : A) (n : ℕ) (l : List A) → length l ≡ n → Going (change (λ k. h) d) n 0 l (map h l)
map_here h d n l e = rw (map-tab h l d, e) (change_start (λ k. h) d n l (sym e))

-- ---- two lists as one of both
module _ {A B C : Type 0} (g : A → B → C) where
  pub zip_length : (b : List A) (c : List B) → length b ≡ length c → length (zip_with g b c) ≡ length b
  unfolding zip_with
  zip_length [] c h = refl
  zip_length (x ∷ b) [] h = absurd (let z : suc (length b) ≡ 0 = h in omega arith)
  zip_length (x ∷ b) (y ∷ c) h = ap suc (zip_length b c (suc_inj h))

  pub zip_get : (b : List A) (c : List B) (k : ℕ) (x : A) (y : B) (d : C) → k < length b → k < length c → get_or (zip_with g b c) k d ≡ g (get_or b k x) (get_or c k y)
  unfolding zip_with
  zip_get [] c k x y d p q = absurd (not-suc-le-zero p)
  zip_get (u ∷ b) [] k x y d p q = absurd (not-suc-le-zero q)
  zip_get (u ∷ b) (v ∷ c) zero x y d p q = refl
  zip_get (u ∷ b) (v ∷ c) (suc k) x y d p q = zip_get b c k x y d (le_of_suc-le-suc p) (le_of_suc-le-suc q)

  pub zip_set : (b : List A) (c : List B) (k : ℕ) (u : A) (v : B) → zip_with g (set b k u) (set c k v) ≡ set (zip_with g b c) k (g u v)
  unfolding zip_with
  zip_set [] c k u v = refl
  zip_set (x ∷ b) [] zero u v = refl
  zip_set (x ∷ b) [] (suc k) u v = refl
  zip_set (x ∷ b) (y ∷ c) zero u v = refl
  zip_set (x ∷ b) (y ∷ c) (suc k) u v = ap (λ z. g x y ∷ z) (zip_set b c k u v)
