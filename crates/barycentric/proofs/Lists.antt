-- The list form is the single form at each place. Assumes nothing.
use Prim.Native.Nat.{ℕ, ◌<◌}
use mathlib.Core.Path.{◌≡◌, ap, sym, ◌∙◌}
use mathlib.Core.Bool.{true, ◌&&◌}
use mathlib.Core.List.{List}
use native.Mathlib.Omega.{arith}
use lib.Dec.{leb}
use lib.ListN.{length, get_or}
use lib.Ieee.{Float, nan}
use lib.Ieee.Scale.{finite}
use Rattle.numbers.specs.Floats.{all_finite}
use Rattle.numbers.specs.Outcome.{gave}
use Rattle.numbers.proofs.Order.{and_1, and_2}
use Rattle.numbers.proofs.FiniteLaws.{finite_at}
use Rattle.numbers.proofs.Lanes.{tab-get}
use Rattle.barycentric.specs.Limits.{sized, three_alike, three_finite}
use Rattle.barycentric.specs.Response.{response_of, response_for, responses_of, responses_for}
use Rattle.barycentric.proofs.Lengths.{responses_length}
use Rattle.barycentric.proofs.Given.{responses_given}

pub response_at : (places x w y : List Float) (i : ℕ) → i < length places → get_or (responses_of places x w y) i nan ≡ response_of (get_or places i nan) x w y
unfolding responses_of
response_at places x w y i h = tab-get (λ i. response_of (get_or places i nan) x w y) (length places) i nan h

pub single_form : (places x w y : List Float) (room : ℕ) (l : List Float) (i : ℕ) → responses_for places x w y room ≡ gave l → i < length places
    → response_for (get_or places i nan) x w y ≡ gave (get_or l i nan)
unfolding response_for
single_form places x w y room l i e h =
    let g = responses_given places x w y room l e in
    let a : three_alike (length x) (length w) (length y) ≡ true =
    and_2 (sized (length places)) (three_alike (length x) (length w) (length y))
    (and_1 (sized (length places) && three_alike (length x) (length w) (length y)) (leb (length places) room) g.sizes) in
    let p : finite (get_or places i nan) ≡ true = finite_at places i (and_1 (all_finite places) (three_finite x w y) g.inputs) h in
    let q : three_finite x w y ≡ true = and_2 (all_finite places) (three_finite x w y) g.inputs in
    let k : get_or l i nan ≡ response_of (get_or places i nan) x w y = ap (λ m. get_or m i nan) g.answer.are ∙ response_at places x w y i h in
    let m : length l ≡ length places = ap length g.answer.are ∙ responses_length places x w y in
    let r : finite (response_of (get_or places i nan) x w y) ≡ true = sym (ap finite k) ∙ finite_at l i g.answer.all_finite_fact (omega arith) in
    rw (a, p, q, r, k)
