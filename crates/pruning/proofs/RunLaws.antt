-- One turn of the loop that keeps the largest of each run, and one of the search for the weakest pair. Assumes nothing.
use Prim.Native.Nat.{ℕ, suc, ◌+◌, ◌-◌, ◌≤◌, ◌<◌}
use mathlib.Core.Path.{◌≡◌, ap, sym, ◌∙◌, subst}
use mathlib.Core.List.{List, ◌∷◌, ◌++◌, append_assoc}
use mathlib.Core.Bool.{Bool, true, false, cond}
use native.Mathlib.Numerals.{add-one}
use native.Mathlib.Omega.{arith}
use lib.ListN.{length, set, get_or, take, drop, drop_of_length-le}
use lib.Seq.{drop-cons, take-suc-set, get_or-take, length-take-le}
use lib.Ieee.{Float, lt}
use Rattle.numbers.specs.Loops.{tab}
use Rattle.pruning.specs.Prune.{emit, turned, better, runs, runs_from, weaker, weakest_from, weakest}

module _ {A : Type 0} (negative : A → Bool) (size : A → Float) where
  -- ---- the runs of g 0, g 1, ..: m are kept in front of k, b is the best of the run that is open, and from i on all is to come
  abbrev to_come : (ℕ → A) → ℕ → ℕ → A → List A
  to_come g n i b = runs_from negative size b (tab g (n - i) i)

  pub record Running (g : ℕ → A) (n i m : ℕ) (b : A) (k : List A) (r : List A) : Type 0 where
    pub below : m < i
    pub within : i ≤ n
    pub rest : take m k ++ to_come g n i b ≡ r

  module _ {g : ℕ → A} {n : ℕ} where
    pub runs_start : {k : List A} → 1 ≤ n → Running g n 1 0 (g 0) k (runs negative size (tab g n 0))
    unfolding tab runs
    runs_start {k} h =
        let e : n ≡ suc (n - 1) = omega arith in
        record {
          below = omega arith;
          within = h;
          rest = ap (λ z. runs negative size (tab g z 0)) (sym e);
        }

    module _ {i m : ℕ} {b : A} {k r : List A} (a : Running g n i m b k r) (h : i < n) where
      after_turn : (t : Bool) → turned negative size b (g i) ≡ t
          → take m k ++ emit t b (to_come g n (i + 1) (better negative size b (g i))) ≡ r
      unfolding tab runs_from
      after_turn t q =
          let e : n - i ≡ suc (n - (i + 1)) = omega arith in
          subst (λ (z : Bool). take m k ++ emit z b (to_come g n (i + 1) (better negative size b (g i))) ≡ r) q (rw e at a.rest)

      -- the sign turns: b is kept
      pub runs_turn : m < length k → turned negative size b (g i) ≡ true → Running g n (i + 1) (m + 1) (g i) (set k m b) r
      runs_turn l t =
          record {
            below = let q : m < i = a.below in omega arith;
            within = omega arith;
            rest = rw (add-one m, take-suc-set k m b l, append_assoc) (rw t at (after_turn true t));
          }

      module _ (t : turned negative size b (g i) ≡ false) where
        -- a larger one of the same run
        pub runs_larger : lt (size b) (size (g i)) ≡ true → Running g n (i + 1) m (g i) k r
        runs_larger s =
            record { below = let q : m < i = a.below in omega arith; within = omega arith; rest = rw (t, s) at (after_turn false t) }

        pub runs_same : lt (size b) (size (g i)) ≡ false → Running g n (i + 1) m b k r
        runs_same s =
            record { below = let q : m < i = a.below in omega arith; within = omega arith; rest = rw (t, s) at (after_turn false t) }

    pub runs_end : {i m : ℕ} {b : A} {k r : List A} → Running g n i m b k r → n ≤ i → m < length k → take (m + 1) (set k m b) ≡ r
    unfolding tab runs_from
    runs_end {i} {m} {b} {k} {r} a h l =
        let e : n - i ≡ 0 = omega arith in
        rw (add-one m, take-suc-set k m b l) (rw e at a.rest)

  -- ---- the weakest pair of the first n of l: of those before k it is v, at `best`
  module _ (l : List A) (d : A) (n : ℕ) where
    abbrev found : ℕ → ℕ → Float → ℕ
    found k best v = weakest_from negative size k best v (get_or l k d) (drop (k + 1) (take n l))

    pub record Seeking (k best : ℕ) (v : Float) : Type 0 where
      pub within : k + 1 ≤ n
      pub rest : found k best v ≡ weakest negative size (take n l)

    module _ (fits : n ≤ length l) where
      after : (k : ℕ) → k < n → drop k (take n l) ≡ get_or l k d ∷ drop (k + 1) (take n l)
      after k h = rw (drop-cons (take n l) k d (omega (arith, length-take-le n l fits)), get_or-take n l k d h, add-one k)

      pub seek_start : 2 ≤ n → Seeking 1 0 (weaker negative size (get_or l 0 d) (get_or l 1 d))
      unfolding weakest
      seek_start h =
          let e0 : take n l ≡ get_or l 0 d ∷ drop 1 (take n l) = after 0 (omega arith) in
          let e1 : drop 1 (take n l) ≡ get_or l 1 d ∷ drop 2 (take n l) = after 1 (omega arith) in
          record { within = h; rest = sym (ap (weakest negative size) (e0 ∙ ap (λ (r : List A). get_or l 0 d ∷ r) e1)) }

      module _ {k best : ℕ} {v p : Float} (a : Seeking k best v) (h : k + 1 < n) (e : p ≡ weaker negative size (get_or l k d) (get_or l (k + 1) d)) where
        after_pair : (t : Bool) → lt p v ≡ t → found (k + 1) (cond t k best) (cond t p v) ≡ weakest negative size (take n l)
        unfolding weakest_from
        after_pair t q =
            subst (λ (z : Bool). found (k + 1) (cond z k best) (cond z p v) ≡ weakest negative size (take n l)) q
            (rw (e, add-one k) (rw (add-one k) at (rw (after (k + 1) h) at a.rest)))

        pub seek_lower : lt p v ≡ true → Seeking (k + 1) k p
        seek_lower t = record { within = omega arith; rest = after_pair true t }

        pub seek_keep : lt p v ≡ false → Seeking (k + 1) best v
        seek_keep t = record { within = omega arith; rest = after_pair false t }

      pub seek_end : {k best : ℕ} {v : Float} → Seeking k best v → n ≤ k + 1 → best ≡ weakest negative size (take n l)
      unfolding weakest_from
      seek_end {k} {best} {v} a h =
          rw (drop_of_length-le (take n l) {i = k + 1} (omega (arith, length-take-le n l fits))) at a.rest
