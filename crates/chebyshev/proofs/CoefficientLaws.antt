-- The coefficients, from the cosines of the places to the finished list. Assumes nothing.
use Rattle.std.specs.Prelude.{Result}
use Rattle.numbers.specs.declared.Refusal.{Refusal}
use Prim.Native.Nat.{ℕ, ◌-◌}
use mathlib.Core.Path.{◌≡◌, sym, ap, ◌∙◌}
use mathlib.Core.List.{List, map}
use lib.ListN.{length}
use lib.Ieee.{Float, nan}
use Rattle.numbers.specs.Outcome.{refused, gave, bind, gather, needed_list_of}
use Rattle.numbers.specs.Refusals.{Filled}
use Rattle.numbers.proofs.LoopLaws.{length-tab}
use Rattle.numbers.proofs.InPlace.{map-tab}
use Rattle.numbers.proofs.OutcomeLaws.{bind_next, bind_stop}
use Rattle.numbers.proofs.Given.{gather-length, gather-map, filled_next}
use Rattle.angles.specs.Turns.{cosine_of}
use Rattle.chebyshev.specs.Angles.{coefficient_angle}
use Rattle.chebyshev.specs.Coefficients.{halve_ends, coefficient_at}
use Rattle.chebyshev.specs.Places.{places_for, scaled, summed, coefficients_of}

gathered : (d : List Float) (n : ℕ) → length d ≡ n → bind (places_for n) (λ x. gave (map (scaled d) x)) ≡ gather (coefficient_at d) n 0
gathered d n h = rw (← h) (sym (gather-map (λ j. cosine_of (coefficient_angle (length d - 1) j)) (scaled d) (length d) 0))

pub halves_length : (l : List Float) → length (halve_ends l) ≡ length l
halves_length l = length-tab _ (length l) 0

pub coefficients_refused : (p : List Float) (room n k : ℕ) → n ≡ length p → refused k ≡ places_for n → refused k ≡ coefficients_of p room
coefficients_refused p room n k h e =
    bind_stop (λ b. needed_list_of (halve_ends b) room)
    (bind_stop (λ x. gave (map (scaled (halve_ends p)) x)) (rw h at e) ∙ gathered (halve_ends p) (length p) (halves_length p))

-- p the values, d these halved, x the places, y the scaled sums, z these halved
pub coefficients_filled :
    (p d x y z w w' : List Float) (n : ℕ) (r : Result Unit Refusal) → n ≡ length p → d ≡ halve_ends p → gave x ≡ places_for n → y ≡ summed d x → z ≡ halve_ends y
    → Filled (needed_list_of z (length w)) (length z) r w w' → Filled (coefficients_of p (length w)) (length p) r w w'
coefficients_filled p d x y z w w' n r h hd hx hy hz f =
    let k : length x ≡ n = gather-length (λ j. cosine_of (coefficient_angle (n - 1) j)) n 0 x (sym hx) in
    let l : length z ≡ length p = ap length hz ∙ halves_length y ∙ ap length hy ∙ length-tab _ (length x) 0 ∙ k ∙ h in
    let s : y ≡ map (scaled (halve_ends p)) x = hy ∙ ap (λ d. summed d x) hd ∙ sym (map-tab (scaled (halve_ends p)) x nan) in
    let g : gave y ≡ gather (coefficient_at (halve_ends p)) (length p) 0 =
    bind_next (λ x. gave (map (scaled (halve_ends p)) x)) (rw h at hx) (ap (λ y. gave y) s) ∙ gathered (halve_ends p) (length p) (halves_length p) in
    filled_next (λ b. needed_list_of (halve_ends b) (length w)) g (rw (← hz, ← l) f)
