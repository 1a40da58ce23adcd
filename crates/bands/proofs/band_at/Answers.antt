-- `bands::band_at` meets its contract. Assumes nothing.
use Rattle.std.specs.Prelude.{Option, Some, None}
use Rattle.std.specs.List.{find}
use Rattle.std.proofs.lemmas.Iterator.{YieldsList-from_slice}
use Rattle.std.proofs.lemmas.Iterator.Search.{find_from_yields_List}
use Prim.Native.Nat.{ℕ, zero, suc, ◌+◌, ◌-◌, ◌<◌, ◌≤◌}
use mathlib.Core.Path.{◌≡◌, refl}
use mathlib.Core.Bool.{Bool, true, false, not, cond}
use native.Mathlib.Omega.{arith}
use borrow.Author.Rules.{rules}
use lib.ListN.{length, take, drop}
use lib.Seq.{drop-cons}
use lib.Ieee.{Float, lt}
use Rattle.numbers.specs.Loops.{until}
use Rattle.bands.specs.declared.Band.{Band}
use Rattle.bands.specs.declared.Plan.{Plan}
use Rattle.bands.specs.Lookup.{many, band_of, no_band, lookup}
use Rattle.bands.proofs.band_at.Goals as goal

abbrev or_else : Band → Option Band → Band
or_else d None = d
or_else d (Some b) = b

-- what is found among m bands from i on, or the last, is where the lookup stops
found_from : (p : Plan) (f : Float) (last : Band) (m i : ℕ) → i + m ≤ length p.bands
    → or_else last (find (λ b. not (lt b.end f)) (take m (drop i p.bands))) ≡ until (λ i. not (lt (band_of p i).end f)) (band_of p) (λ i s. s) (λ s. last) m i (tt {0})
unfolding until
found_from p f last zero i h = refl
found_from p f last (suc m) i h =
    let q : i < length p.bands = omega arith in
    let z : suc i ≡ i + 1 = omega arith in
    rw (drop-cons p.bands i no_band q, z) (go _ _ (not (lt (band_of p i).end f)) (found_from p f last m (i + 1) (omega arith)))
  where
    go : (a : Option Band) (b : Band) (t : Bool) → or_else last a ≡ b → or_else last (cond t (Some (band_of p i)) a) ≡ cond t (band_of p i) b
    go a b true e = refl
    go a b false e = e

found : (p : Plan) (f : Float) (n : ℕ) (r : Option Band) → n ≡ many p → length p.bands ≡ 8 → r ≡ find (λ b. not (lt b.end f)) (take n p.bands) → or_else (band_of p (n - 1)) r ≡ lookup p f
unfolding lookup
found p f n r e l h =
    let k : 0 + many p ≤ length p.bands = omega (arith, l) in
    rw (h, e) (found_from p f (band_of p (many p - 1)) (many p) 0 k)

pub returns-in-Some : goal.returns-in-Some
returns-in-Some c =
    let l : length c.args.plan.bands ≡ 8 = search rules in
    let h = find_from_yields_List (λ b. not (lt b.end c.args.f)) _ _ c.find.result c.find.ensures.ran (YieldsList-from_slice (take c.how_many-n.result c.args.plan.bands) (search rules)) (λ x b q k. search rules) in
    found c.args.plan c.args.f _ _ c.how_many-n.ensures l (rw c.in-Some.is at h)

pub returns-in-None : goal.returns-in-None
returns-in-None c =
    let l : length c.args.plan.bands ≡ 8 = search rules in
    let h = find_from_yields_List (λ b. not (lt b.end c.args.f)) _ _ c.find.result c.find.ensures.ran (YieldsList-from_slice (take c.how_many-n.result c.args.plan.bands) (search rules)) (λ x b q k. search rules) in
    rw c.saturating_sub.ensures (found c.args.plan c.args.f _ _ c.how_many-n.ensures l (rw c.in-None.is at h))
