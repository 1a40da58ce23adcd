-- The walk along the bands as a loop, and the points as a list written from the front. Assumes nothing.
use Prim.Native.Nat.{ℕ, zero, suc, ◌+◌, ◌-◌, ◌<◌, ◌≤◌}
use mathlib.Core.Path.{◌≡◌, refl, ap, ◌∙◌}
use mathlib.Core.Bool.{Bool, true, false, ◌||◌, cond}
use mathlib.Core.List.{List, []}
use native.Mathlib.Omega.{arith}
use borrow.Author.Tests.{eqb-false, eq-eqb, ne_eqb}
use lib.Dec.{eqb}
use lib.IntN.{pos}
use lib.ListN.{length, set}
use lib.Ieee.{Float, binary64, of_int, le}
use Rattle.numbers.specs.Operations.{◌⊕◌, ◌⊖◌, ◌⊗◌}
use Rattle.numbers.proofs.Fronts.{Writing, write_next}
use Rattle.fir_types.specs.Edges.{Edges}
use Rattle.subdivision.specs.declared.first.Walk.{Walk}
use Rattle.subdivision.specs.First.{band_of, length_of, walked, point_at, points_from}

-- the walk to the next band
abbrev passed : Edges → Walk → Walk
passed e w = record { band = w.band + 1; consumed = w.consumed ⊕ length_of (band_of e w.band) }

abbrev fitting : Edges → Float → Walk → Bool
fitting e s w = le (s ⊖ w.consumed) (length_of (band_of e w.band))

-- the bound on the turns does not matter where it is high enough
enough : (e : Edges) (s : Float) (m k : ℕ) (w : Walk) → w.band < e.count → e.count ≤ w.band + m → e.count ≤ w.band + k → walked e s m w ≡ walked e s k w
unfolding walked
enough e s zero k w h a b = absurd (omega arith)
enough e s (suc m) zero w h a b = absurd (omega arith)
enough e s (suc m) (suc k) w h a b =
    go (fitting e s w) (eqb w.band (e.count - 1)) refl (λ l. enough e s m k (passed e w) l (omega arith) (omega arith))
  where
    go : (t u : Bool) → eqb w.band (e.count - 1) ≡ u → (w.band + 1 < e.count → walked e s m (passed e w) ≡ walked e s k (passed e w))
        → cond (t || u) w (walked e s m (passed e w)) ≡ cond (t || u) w (walked e s k (passed e w))
    go true u p q = refl
    go false true p q = refl
    go false false p q = let z : w.band ≡ e.count - 1 → ⊥ = eqb-false w.band (e.count - 1) p in q (omega arith)

-- a walk ends in a band
pub walked_within : (e : Edges) (s : Float) (k : ℕ) (w : Walk) → w.band < e.count → (walked e s k w).band < e.count
unfolding walked
walked_within e s zero w h = h
walked_within e s (suc k) w h = go (fitting e s w) (eqb w.band (e.count - 1)) refl (walked_within e s k (passed e w))
  where
    go : (t u : Bool) → eqb w.band (e.count - 1) ≡ u → (w.band + 1 < e.count → (walked e s k (passed e w)).band < e.count)
        → (cond (t || u) w (walked e s k (passed e w))).band < e.count
    go true u p q = h
    go false true p q = h
    go false false p q = let z : w.band ≡ e.count - 1 → ⊥ = eqb-false w.band (e.count - 1) p in q (omega arith)

-- ---- the walk as a loop: from this band on, with this length consumed, it ends at r
pub record Walking (e : Edges) (s : Float) (w r : Walk) : Type 0 where
  pub within : w.band < e.count
  pub rest : walked e s e.count w ≡ r

module _ {e : Edges} {s : Float} {w r : Walk} (g : Walking e s w r) where
  -- there is a turn left
  turn : walked e s (suc (e.count - 1)) w ≡ r
  turn = let z : suc (e.count - 1) ≡ e.count = omega arith in ap (λ k. walked e s k w) z ∙ g.rest

  pub walk_stop : fitting e s w ≡ true → w ≡ r
  unfolding walked
  walk_stop h = rw h at turn

  pub walk_last : e.count - 1 ≤ w.band → w ≡ r
  unfolding walked
  walk_last h = go (fitting e s w) (rw (eq-eqb w.band (e.count - 1) (omega arith)) at turn)
    where
      go : (t : Bool) → cond (t || true) w (walked e s (e.count - 1) (passed e w)) ≡ r → w ≡ r
      go true q = q
      go false q = q

  pub walk_next : w.band < e.count - 1 → fitting e s w ≡ false → Walking e s (passed e w) r
  unfolding walked
  walk_next h f =
      let z : eqb w.band (e.count - 1) ≡ false = ne_eqb w.band (e.count - 1) (omega arith) in
      record {
        within = omega arith;
        rest = enough e s e.count (e.count - 1) (passed e w) (omega arith) (omega arith) (omega arith) ∙ (rw (f, z) at turn);
      }

-- ---- the next point written, and the walk from there
pub points_write : (e : Edges) (spacing : Float) (n j : ℕ) (w v : Walk) (s p : Float) (o r : List Float)
    → Writing n j o (points_from e spacing (n - j) j w) r → j < n → j < length o
    → s ≡ of_int binary64 (pos j) ⊗ spacing → v ≡ walked e s e.count w → p ≡ point_at e s v
    → Writing n (j + 1) (set o j p) (points_from e spacing (n - (j + 1)) (j + 1) v) r
unfolding points_from
points_write e spacing n j w v s p o r g h l a b c =
    let k : n - j ≡ suc (n - (j + 1)) = omega arith in
    rw (c, b, a) (write_next (rw k at g) h l)

pub points_end : (e : Edges) (spacing : Float) (n j : ℕ) (w : Walk) → n ≤ j → points_from e spacing (n - j) j w ≡ []
unfolding points_from
points_end e spacing n j w h = let k : n - j ≡ 0 = omega arith in rw k

pub length-points : (e : Edges) (spacing : Float) (n j : ℕ) (w : Walk) → length (points_from e spacing n j w) ≡ n
unfolding points_from
length-points e spacing zero j w = refl
length-points e spacing (suc n) j w =
    let s = of_int binary64 (pos j) ⊗ spacing in
    ap suc (length-points e spacing n (j + 1) (walked e s e.count w))
