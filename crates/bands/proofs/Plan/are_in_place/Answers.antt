-- `bands::Plan::are_in_place` meets its contract. Assumes nothing.
use Rattle.std.proofs.Common.{ℕ, zero, suc, ◌+◌, ◌≡◌, Bool, true, false, not, ◌&&◌, cond, refl, ◌∙◌, rules}
use Rattle.std.specs.List.{list_all, range_with_len}
use Rattle.std.proofs.lemmas.Iterator.{YieldsList-from_range}
use Rattle.std.proofs.lemmas.Iterator.Search.{all_from_yields_List}
use Rattle.numbers.specs.Loops.{until}
use Rattle.bands.specs.Lookup.{band_of}
use Rattle.bands.specs.Rules.{band_holds, apart}
use Rattle.bands.proofs.Plan.are_in_place.Goals as goal

-- a test of every number of a range, as a loop that stops at the first that fails it
every_of_range : (test : ℕ → Bool) (n i : ℕ) → list_all test (range_with_len i n) ≡ until (λ i. not (test i)) (λ i. false) (λ i s. s) (λ s. true) n i (tt {0})
unfolding until
every_of_range test zero i = refl
every_of_range test (suc n) i = go (test i) (every_of_range test n (i + 1))
  where
    go : {a b : Bool} (t : Bool) → a ≡ b → (t && a) ≡ cond (not t) false b
    go true e = e
    go false e = refl

pub returns : goal.returns
returns c =
    let p = c.args.self in
    let test : ℕ → Bool = λ i. band_holds (band_of p i) && apart p i in
    let e : c.all.result ≡ list_all test (range_with_len 0 p.count) =
    all_from_yields_List test _ _ c.all.result c.all.ensures.ran (YieldsList-from_range 0 p.count p.count refl (search rules)) (λ x b q k. search rules) in
    e ∙ every_of_range test p.count 0
