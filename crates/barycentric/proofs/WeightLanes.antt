-- The weights in lanes: products that begin with 1, each then taken to its reciprocal, are the weights. Assumes nothing.
use Prim.Native.Nat.{◌≤◌}
use mathlib.Core.Path.{◌≡◌, ◌∙◌}
use mathlib.Core.List.{List}
use native.Mathlib.Omega.{arith}
use lib.ListN.{length, take, replicate}
use lib.Seq.{length-take-le}
use lib.Ieee.{Float}
use Rattle.numbers.specs.Floats.{one64}
use Rattle.numbers.specs.Operations.{◌⊘◌}
use Rattle.barycentric.specs.Limits.{most_points}
use Rattle.barycentric.specs.Weights.{product, weight, weights_of}
use Rattle.barycentric.specs.Lanes.{Each, Products}
use Rattle.barycentric.proofs.LaneLaws.{all_alike, each_then, tab_is}

pub products_begin : (x : List Float) → 2 ≤ length x → length x ≤ most_points → Products x (take (length x) (replicate most_points one64))
products_begin x l m =
    record {
      least = l;
      most = m;
      room = length-take-le (length x) (replicate most_points one64) m;
      ones = λ k h. all_alike (length x) most_points one64 k h m;
    }

pub weights_are : (x : List Float) {p q r : List Float} → length p ≡ length x → Each (λ k s. product x k) p q → Each (λ k s. one64 ⊘ s) q r
    → r ≡ weights_of x
unfolding weights_of
weights_are x {p} {q} {r} e a b =
    let c : Each (λ k s. weight x k) p r = each_then a b in
    tab_is (weight x) (length x) r (c.same ∙ e) (λ k h. c.at k (omega arith))
