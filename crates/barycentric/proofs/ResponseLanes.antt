-- The responses in lanes: sums that begin with 0, over all points, each quotient then settled, are the responses.
-- Assumes nothing.
use Prim.Native.Nat.{◌≤◌}
use mathlib.Core.Path.{◌≡◌, ap, ◌∙◌}
use mathlib.Core.List.{List}
use native.Mathlib.Omega.{arith}
use lib.ListN.{length, get_or, take, replicate}
use lib.Seq.{length-take-le}
use lib.Ieee.{Float, nan}
use Rattle.numbers.specs.Floats.{zero64}
use Rattle.numbers.specs.Operations.{◌⊘◌}
use Rattle.barycentric.specs.Limits.{most_points}
use Rattle.barycentric.specs.Delta.{quotient}
use Rattle.barycentric.specs.Response.{response_of, responses_of}
use Rattle.barycentric.specs.Lanes.{Each, Places, Summed, settle}
use Rattle.barycentric.proofs.LaneLaws.{all_alike, tab_is}
use Rattle.barycentric.proofs.Settle.{response_settles}

pub places_begin : (places x w y : List Float) → length places ≤ most_points → length w ≡ length x → length y ≡ length x
    → Places places x w y (take (length places) (replicate most_points zero64)) (take (length places) (replicate most_points zero64))
places_begin places x w y m e f =
    record {
      weights = e;
      values = f;
      numers = length-take-le (length places) (replicate most_points zero64) m;
      denoms = length-take-le (length places) (replicate most_points zero64) m;
      zeros = λ k h. rw (all_alike (length places) most_points zero64 k h m);
    }

pub responses_are : {places x w y n d out : List Float} → Summed places x w y n d
    → Each (λ k s. settle (get_or places k nan) x y (s ⊘ get_or d k nan)) n out → out ≡ responses_of places x w y
unfolding responses_of
responses_are {places} {x} {w} {y} {n} {d} {out} a b =
    tab_is (λ k. response_of (get_or places k nan) x w y) (length places) out (b.same ∙ a.numers)
    (λ k h.
    b.at k (omega (arith, a.numers))
    ∙ ap (λ s. settle (get_or places k nan) x y (quotient s)) (a.at k h)
    ∙ response_settles (get_or places k nan) x w y)
