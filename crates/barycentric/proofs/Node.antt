-- At a node the response is that node's y exactly, the first of equal nodes (document 01, item 2). Assumes nothing.
use Prim.Native.Nat.{ℕ, zero, suc, ◌+◌, ◌<◌}
use mathlib.Core.Path.{◌≡◌, ap, ◌∙◌}
use mathlib.Core.Bool.{Bool, true, false}
use mathlib.Core.List.{List}
use native.Mathlib.Nat.{not-suc-le-zero, le_of_suc-le-suc}
use native.Mathlib.Omega.{arith}
use lib.ListN.{length, get_or}
use lib.Ieee.{Float, nan, eq}
use Rattle.numbers.specs.Loops.{until}
use Rattle.barycentric.specs.Delta.{no_sums, quotient}
use Rattle.barycentric.specs.Response.{is_node, response_step, response_of}

-- a search that first stops d turns from i
module _ {S R : Type 0} (stop : ℕ → Bool) (out : ℕ → R) (f : ℕ → S → S) (fin : S → R) where
  stops_at : (n i d : ℕ) (s : S) → d < n → stop (i + d) ≡ true → ((k : ℕ) → k < d → stop (i + k) ≡ false)
      → until stop out f fin n i s ≡ out (i + d)
  unfolding until
  stops_at zero i d s h e l = absurd (not-suc-le-zero h)
  stops_at (suc n) i zero s h e l = let z : i + 0 ≡ i = omega arith in let t : stop i ≡ true = rw z at e in rw (t, z)
  stops_at (suc n) i (suc d) s h e l =
      let z : i + 1 + d ≡ i + suc d = omega arith in
      let o : i + 0 ≡ i = omega arith in
      let t : stop i ≡ false = rw o at (l zero (omega arith)) in
      rw (t, ← z)
      (stops_at n (i + 1) d (f i s) (le_of_suc-le-suc h) (rw z e)
      (λ k m. let q : i + 1 + k ≡ i + suc k = omega arith in rw q (l (suc k) (omega arith))))

pub at_node : (x0 : Float) (x w y : List Float) (i : ℕ) → eq x0 (get_or x i nan) ≡ true
    → ((j : ℕ) → j < i → eq x0 (get_or x j nan) ≡ false) → i < length x → response_of x0 x w y ≡ get_or y i nan
unfolding response_of
at_node x0 x w y i e l h =
    let z : 0 + i ≡ i = omega arith in
    stops_at (is_node x0 x) (λ i. get_or y i nan) (response_step x0 x w y) quotient (length x) 0 i no_sums h (rw z e)
    (λ k m. let q : 0 + k ≡ k = omega arith in rw q (l k m))
    ∙ ap (λ j. get_or y j nan) z
