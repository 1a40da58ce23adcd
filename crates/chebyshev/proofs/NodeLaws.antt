-- The nodes, from the cosines of their angles to the finished list. Assumes nothing.
use Rattle.std.specs.Prelude.{Result}
use Rattle.numbers.specs.declared.Refusal.{Refusal}
use Prim.Native.Nat.{ℕ, ◌+◌, ◌<◌, ◌≤◌}
use mathlib.Core.Path.{◌≡◌, sym}
use mathlib.Core.Bool.{true}
use mathlib.Core.List.{List, ◌++◌}
use native.Mathlib.Omega.{arith}
use borrow.Author.Tests.{lt-ltb, le-leb}
use lib.ListN.{length, take}
use lib.Seq.{take_at}
use lib.Ieee.{Float}
use Rattle.numbers.specs.Floats.{all_finite}
use Rattle.numbers.specs.Outcome.{Outcome, refused, gave, gather, needed_list_of}
use Rattle.numbers.specs.Refusals.{Filled}
use Rattle.numbers.proofs.Given.{gather-length, gather_finite}
use Rattle.angles.specs.Turns.{cosine_of}
use Rattle.angles.proofs.Range.{cosine_finite}
use Rattle.chebyshev.specs.Angles.{node_angle}
use Rattle.chebyshev.specs.Nodes.{nodes_for}

-- the cosines of the nodes' angles
abbrev pub cosines : ℕ → Outcome (List Float)
cosines n = gather (λ j. cosine_of (node_angle n j)) (n + 1) 0

pub cosines_length : (n : ℕ) (l : List Float) → cosines n ≡ gave l → length l ≡ n + 1
cosines_length n l e = gather-length (λ j. cosine_of (node_angle n j)) (n + 1) 0 l e

pub cosines_finite : (n : ℕ) (l : List Float) → cosines n ≡ gave l → all_finite l ≡ true
cosines_finite n l e = gather_finite (λ j. cosine_of (node_angle n j)) (λ j y. cosine_finite (node_angle n j) y) (n + 1) 0 l e

nodes_same : (n room : ℕ) (l : List Float) → n < room → 2 ≤ n → n ≤ 16 → gave l ≡ cosines n → nodes_for n room ≡ needed_list_of l room
unfolding nodes_for
nodes_same n room l h p q e =
    let k : length l ≤ room = omega (arith, cosines_length n l (sym e)) in
    rw (lt-ltb n room h, le-leb 2 n p, le-leb n 16 q, le-leb (length l) room k, cosines_finite n l (sym e)) (sym e)

-- the cosines at the front of a longer list, written as a finished list, are the nodes
pub nodes_filled :
    (n : ℕ) (l rest w w' : List Float) (r : Result Unit Refusal) → Filled (needed_list_of (take (n + 1) (l ++ rest)) (length w)) (length (take (n + 1) (l ++ rest))) r w w'
    → n < length w → 2 ≤ n → n ≤ 16 → gave l ≡ cosines n → Filled (nodes_for n (length w)) (n + 1) r w w'
nodes_filled n l rest w w' r f h p q e =
    let k = cosines_length n l (sym e) in
    rw (← k, nodes_same n (length w) l h p q e) (rw (take_at l rest (n + 1) k) at f)

pub nodes_refused : (n room k : ℕ) → n < room → 2 ≤ n → n ≤ 16 → refused k ≡ cosines n → refused k ≡ nodes_for n room
unfolding nodes_for
nodes_refused n room k h p q e = rw (lt-ltb n room h, le-leb 2 n p, le-leb n 16 q) e
