-- Subintervals are at most points + bands (document 01): a band makes at most one more than the points it consumes. Assumes nothing.
use Prim.Native.Nat.{ℕ, suc, ◌+◌, ◌<◌, ◌≤◌}
use mathlib.Core.Path.{◌≡◌, sym}
use mathlib.Core.Bool.{Bool, true, false, ◌&&◌, cond}
use mathlib.Core.List.{List, [], ◌∷◌}
use native.Mathlib.Omega.{arith}
use borrow.Author.Tests.{leb-true}
use lib.Dec.{leb}
use lib.ListN.{length, take, length-append, length-take}
use lib.Ieee.{Float, lt, eq}
use Rattle.numbers.specs.Floats.{all_finite}
use Rattle.numbers.specs.Outcome.{unless, gave}
use Rattle.numbers.proofs.Given.{gave_same, unless_given}
use Rattle.numbers.proofs.LoopLaws.{length-tab}
use Rattle.numbers.proofs.Order.{and_1, and_2}
use Rattle.fir_types.specs.declared.edges.Interval.{Interval}
use Rattle.fir_types.specs.Edges.{Edges}
use Rattle.fir_types.specs.Edges.{interval}
use Rattle.subdivision.specs.Subdivide.{Intervals}
use Rattle.subdivision.specs.First.{edges_finite}
use Rattle.subdivision.specs.Subdivide.{Cut, with, cut_band, cut_bands, from_back, rising, subdivided, packed, subdivide_sized, subdivide_for}

-- ---- what holds of a band's cut, by the four cases of its next point
pub cut_step : (Q : Cut → Type 0) (begin end a : Float) (l : List Float) → Q (record { made = interval begin end ∷ []; left = a ∷ l })
    → Q (record { made = interval begin end ∷ []; left = l }) → Q (cut_band begin end l) → Q (with (interval begin a) (cut_band a end l))
    → Q (cut_band begin end (a ∷ l))
unfolding cut_band
cut_step Q begin end a l stays ends same inside = go (lt end a) (eq a end) (eq begin a)
  where
    go : (t u v : Bool)
        → Q
        (cond t (record { made = interval begin end ∷ []; left = a ∷ l })
        (cond u (record { made = interval begin end ∷ []; left = l }) (cond v (cut_band begin end l) (with (interval begin a) (cut_band a end l)))))
    go true u v = stays
    go false true v = ends
    go false false true = same
    go false false false = inside

pub cut_count : (begin end : Float) (l : List Float) → length (cut_band begin end l).made + length (cut_band begin end l).left ≤ length l + 1
unfolding cut_band
cut_count begin end [] = omega arith
cut_count begin end (a ∷ l) =
    let p = cut_count begin end l in
    let q = cut_count a end l in
    cut_step (λ c. length c.made + length c.left ≤ suc (length l) + 1) begin end a l (omega arith) (omega arith) (omega arith) (omega arith)

pub cut_some : (begin end : Float) (l : List Float) → 0 < length (cut_band begin end l).made
unfolding cut_band
cut_some begin end [] = omega arith
cut_some begin end (a ∷ l) = cut_step (λ c. 0 < length c.made) begin end a l (omega arith) (omega arith) (cut_some begin end l) (omega arith)

cuts_count : (bs : List Interval) (l : List Float) → length (cut_bands bs l) ≤ length l + length bs
unfolding cut_bands
cuts_count [] l = omega arith
cuts_count (b ∷ bs) l =
    let c = cut_band b.begin b.end l in
    omega (arith, length-append c.made (cut_bands bs c.left), cut_count b.begin b.end l, cuts_count bs c.left)

pub most_intervals_lem : (x : List Float) (e : Edges) → length (subdivided x e) ≤ length x + e.count
unfolding subdivided
most_intervals_lem x e =
    omega (
      arith,
      cuts_count (take e.count e.list) (rising x),
      length-tab (from_back x) (length x) 0,
      length-take e.count e.list,
    )

-- ---- what the sizes that are taken guarantee
pub subdivide_sized_lem : (n : ℕ) (e : Edges) → subdivide_sized n e ≡ true → (n ≤ 65) × (e.count ≤ 8)
subdivide_sized_lem n e h =
    let p = and_1 (leb 1 n && leb n 65) (leb 1 e.count) (and_1 (leb 1 n && leb n 65 && leb 1 e.count) (leb e.count 8) h) in
    (leb-true n 65 (and_2 (leb 1 n) (leb n 65) p), leb-true e.count 8 (and_2 (leb 1 n && leb n 65 && leb 1 e.count) (leb e.count 8) h))

-- the same of what is answered, for callers: it has no more, and so it fits its array
pub few_intervals : (x : List Float) (e : Edges) (s : Intervals) → gave s ≡ subdivide_for x e → (s.count ≤ length x + e.count) × (s.count ≤ 73)
unfolding subdivide_for
few_intervals x e s h =
    let p = unless_given (subdivide_sized (length x) e) 15 (unless (all_finite x && edges_finite e) 9 (gave (packed (subdivided x e)))) (sym h) in
    let q = unless_given (all_finite x && edges_finite e) 9 (gave (packed (subdivided x e))) p.rest in
    let z : packed (subdivided x e) ≡ s = gave_same q.rest in
    let k = subdivide_sized_lem (length x) e p.test in
    let m = most_intervals_lem x e in
    rw (← z) (m, omega arith)
