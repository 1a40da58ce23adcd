-- Kinds looked at one by one, and intervals as numbers. Assumes nothing.
use Prim.Native.Nat.{ℕ, suc, ◌+◌, ◌*◌, ◌/◌, ◌<◌, ◌≤◌}
use mathlib.Core.Path.{◌≡◌, refl}
use mathlib.Core.Bool.{Bool, true, false, not, cond, ◌&&◌}
use mathlib.Core.List.{List, [], ◌∷◌}
use native.Mathlib.Omega.{arith}
use native.Mathlib.Nat.{zero-add}
use lib.Dec.{leb}
use lib.ListN.{length, get_or, take}
use lib.Seq.{length-take-le, get_or-take}
use lib.Ieee.{nan}
use Rattle.std.specs.List.{list_all}
use Rattle.numbers.specs.Loops.{every, until, tab}
use Rattle.numbers.proofs.Lanes.{tab-same}
use Rattle.fir_types.specs.declared.edges.Interval.{Interval}
use Rattle.fir_types.specs.Edges.{interval}
use Rattle.exports.specs.Plans.{edge_at, flat}

here : (a b r : Bool) → b ≡ a → a && r ≡ cond (not b) false r
here true b r e = rw e
here false b r e = rw e

every_from : (f : ℕ → Bool) (l : List ℕ) (i : ℕ) → ((k : ℕ) → f (i + k) ≡ leb (get_or l k 0) 1)
    → list_all (λ k. leb k 1) l ≡ until (λ i. not (f i)) (λ i. false) (λ i s. s) (λ s. true) (length l) i (tt {0})
unfolding until
every_from f [] i e = refl
every_from f (x ∷ l) i e =
    let z : i + 0 ≡ i = omega arith in
    let h : f i ≡ leb x 1 = rw z at (e 0) in
    rw (every_from f l (i + 1) (λ k. let n : i + 1 + k ≡ i + suc k = omega arith in rw n (e (suc k)))) (here (leb x 1) (f i) _ h)

pub every_kind : (l : List ℕ) → list_all (λ k. leb k 1) l ≡ every (λ i. leb (get_or l i 0) 1) (length l)
every_kind l = every_from (λ i. leb (get_or l i 0) 1) l 0 (λ k. rw zero-add)

-- the intervals at the front of an array
pub flat-take : (l : List Interval) (n : ℕ) → n ≤ length l → flat (take n l) ≡ tab (edge_at l) (2 * n) 0
flat-take l n h = rw (length-take-le n l h) (tab-same (edge_at (take n l)) (edge_at l) (2 * n) 0 same)
  where
    same : (k : ℕ) → 0 ≤ k → k < 0 + 2 * n → edge_at (take n l) k ≡ edge_at l k
    same k a b = let z : k / 2 < n = omega arith in rw (get_or-take n l (k / 2) (interval nan nan) z)
