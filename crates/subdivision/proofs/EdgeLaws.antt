-- A test of every band, as one answer. Assumes nothing.
use Prim.Native.Nat.{ℕ, ◌<◌, ◌≤◌}
use mathlib.Core.Path.{◌≡◌, sym, ap, ◌∙◌}
use mathlib.Core.Bool.{Bool, true, false, ◌&&◌}
use native.Mathlib.Omega.{arith}
use lib.ListN.{length, get_or, take}
use lib.Seq.{get_or-take, length-take-le}
use lib.Ieee.{nan}
use lib.Ieee.Scale.{finite}
use Rattle.fir_types.specs.declared.edges.Interval.{Interval}
use Rattle.fir_types.specs.Edges.{Edges}
use Rattle.fir_types.specs.Edges.{interval}
use Rattle.subdivision.specs.First.{band_of, edges_finite}
use Rattle.numbers.proofs.LoopLaws.{every_is}

abbrev finite_band : Interval → Bool
finite_band b = finite b.begin && finite b.end

-- the same of the bands that there are
pub edges_are : (e : Edges) (r : Bool) → e.count ≤ length e.list
    → (r ≡ true → (k : ℕ) → k < length (take e.count e.list) → (finite (get_or (take e.count e.list) k (interval nan nan)).begin && finite (get_or (take e.count e.list) k (interval nan nan)).end) ≡ true)
    → (r ≡ false → (k : ℕ) × k < length (take e.count e.list) × (finite (get_or (take e.count e.list) k (interval nan nan)).begin && finite (get_or (take e.count e.list) k (interval nan nan)).end) ≡ false)
    → r ≡ edges_finite e
edges_are e r m every_one some_not =
    let z : length (take e.count e.list) ≡ e.count = length-take-le e.count e.list m in
    every_is (λ i. finite (band_of e i).begin && finite (band_of e i).end) e.count r
    (λ t k h. ap finite_band (sym (get_or-take e.count e.list k (interval nan nan) h)) ∙ every_one t k (omega (arith, z)))
    (λ t.
    let w = some_not t in
    let h : w.0 < e.count = omega (arith, z, w.1) in
    (w.0, h, ap finite_band (sym (get_or-take e.count e.list w.0 (interval nan nan) h)) ∙ w.2))
