-- Intervals kept one behind the other are the list of those of positive length, and how many there can be. Assumes nothing.
use Prim.Native.Nat.{ℕ, zero, suc, ◌+◌, ◌<◌, ◌≤◌}
use mathlib.Core.Path.{◌≡◌, ap, ◌∙◌}
use mathlib.Core.Bool.{Bool, true, false, cond}
use mathlib.Core.List.{List, [], ◌∷◌, ◌++◌, append_assoc, append-nil}
use native.Mathlib.Omega.{arith}
use lib.ListN.{length, set, length-append}
use borrow.Author.Tests.{ltb-true}
use lib.Dec.{ltb}
use lib.Ieee.{lt}
use Rattle.numbers.specs.Outcome.{gave, unless}
use Rattle.numbers.specs.Floats.{zero64}
use Rattle.numbers.specs.Loops.{run}
use Rattle.listed.proofs.Laws.{listed_more}
use Rattle.numbers.proofs.Given.{gave_same, unless_given}
use Rattle.bands.specs.declared.Plan.{Plan}
use Rattle.bands.specs.declared.Symmetry.{Symmetry}
use Rattle.bands.specs.Lookup.{band_of}
use Rattle.bands.specs.Rules.{plan_holds}
use Rattle.bands.proofs.Laws.{holds_most}
use Rattle.fir_types.specs.declared.edges.Interval.{Interval}
use Rattle.fir_types.specs.Edges.{Edges}
use Rattle.fir_types.specs.Edges.{interval, moved, packed, keep, kept, adjusted, adjusted_for}

-- n more intervals from i on
pub keeping : (g : ℕ → Interval) (n i : ℕ) (l : List Interval) → length l + n ≤ 8 → run (λ i. keep (g i)) n i (packed l) ≡ packed (l ++ kept g n i)
unfolding run kept
keeping g zero i l h = rw append-nil
keeping g (suc n) i l h =
    go (lt (g i).begin (g i).end) (keeping g n (i + 1) (l ++ (g i ∷ [])) (omega (arith, length-append l (g i ∷ [])))) (keeping g n (i + 1) l (omega arith))
  where
    room : length l < 8
    room = omega arith

    rest : List Interval
    rest = kept g n (i + 1)

    again : Edges → Edges
    again = run (λ i. keep (g i)) n (i + 1)

    go : (t : Bool) → again (packed (l ++ (g i ∷ []))) ≡ packed ((l ++ (g i ∷ [])) ++ rest) → again (packed l) ≡ packed (l ++ rest)
        → again (cond t (record { list = set (packed l).list (length l) (g i); count = length l + 1 }) (packed l)) ≡ packed (l ++ cond t (g i ∷ rest) rest)
    go true y n = ap again (listed_more (interval zero64 zero64) 8 l (g i) room) ∙ y ∙ ap packed (append_assoc l (g i ∷ []) rest)
    go false y n = n

-- at most one more
pub keep_count : (m : Interval) (e : Edges) → (keep m e).count ≤ e.count + 1
keep_count m e = go (lt m.begin m.end)
  where
    go : (t : Bool) → (cond t (record { list = set e.list e.count m; count = e.count + 1 }) e).count ≤ e.count + 1
    go true = omega arith
    go false = omega arith

-- no more bands are kept than there are
kept_most : (g : ℕ → Interval) (n i : ℕ) → length (kept g n i) ≤ n
unfolding kept
kept_most g zero i = omega arith
kept_most g (suc n) i = go (lt (g i).begin (g i).end) (kept_most g n (i + 1))
  where
    go : (t : Bool) → length (kept g n (i + 1)) ≤ n → length (cond t (g i ∷ kept g n (i + 1)) (kept g n (i + 1))) ≤ suc n
    go true h = omega arith
    go false h = omega arith

-- how many intervals are left of a plan, which then holds
pub record Few (p : Plan) (n : ℕ) : Type 0 where
  pub plan : plan_holds p ≡ true
  pub least : 1 ≤ n
  pub bands : n ≤ p.count
  pub most : n ≤ 8

pub few : (p : Plan) (s : Symmetry) (odd : Bool) (l : List Interval) → adjusted_for p s odd ≡ gave l → Few p (length l)
unfolding adjusted_for adjusted
few p s odd l e =
    let all = adjusted p s odd in
    let a = unless_given (plan_holds p) 6 (unless (ltb 0 (length all)) 8 (gave all)) e in
    let b = unless_given (ltb 0 (length all)) 8 (gave all) a.rest in
    let z : 0 < length all = ltb-true 0 (length all) b.test in
    let k : length all ≤ p.count = kept_most (λ i. moved s odd (band_of p i)) p.count 0 in
    let h : p.count ≤ 8 = holds_most p a.test in
    rw (← gave_same b.rest) (record { plan = a.test; least = omega (arith, z); bands = k; most = omega (arith, k, h) })
