-- Document 01's cases of pruning hold, all of the list; each is computed. Assumes nothing.
use Prim.Native.Nat.{ℕ}
use mathlib.Core.Path.{refl}
use mathlib.Core.List.{List, [], ◌∷◌}
use lib.IntN.{pos}
use lib.Ieee.{Float, binary64, of_int, neg, lt, le, eq, of_bits}
use Rattle.numbers.specs.Cases.{Case, Agree, none, also}
use Rattle.numbers.specs.Floats.{all_finite}
use Rattle.numbers.specs.Loops.{tab}
use Rattle.numbers.specs.Outcome.{Outcome, refused, gave}
use Rattle.pruning.specs.Prune.{prune, runs, runs_from, drop_pair, weakest, weakest_from, without_pairs, last_from, without_end}
use Rattle.pruning.specs.Errors.{most_candidates, kept_places, prune_for}

-- the number n, and -n
abbrev p : ℕ → Float
p n = of_int binary64 (pos n)

abbrev m : ℕ → Float
m n = neg (p n)

-- errors and n, to the outcome for an output with room enough
abbrev case : List Float → ℕ → Outcome (List ℕ) → Case
case e n o = record { Answer = Outcome (List ℕ); gives = prune_for e n most_candidates; says = o }

abbrev pub cases : List Case
cases =
    case (p 1 ∷ []) 0 (gave [])
    ∷ case (p 0 ∷ m 0 ∷ p 3 ∷ []) 1 (gave (2 ∷ []))
    ∷ case (p 2 ∷ p 2 ∷ m 1 ∷ []) 2 (gave (0 ∷ 2 ∷ []))
    ∷ case (p 3 ∷ m 1 ∷ p 3 ∷ []) 2 (gave (0 ∷ 1 ∷ []))
    ∷ case (p 1 ∷ m 1 ∷ p 2 ∷ []) 2 (gave (1 ∷ 2 ∷ []))
    ∷ case (p 10 ∷ m 1 ∷ p 5 ∷ m 6 ∷ []) 2 (gave (2 ∷ 3 ∷ []))
    ∷ case (p 4 ∷ p 5 ∷ p 6 ∷ []) 2 (refused 13)
    ∷ case [] 0 (refused 15)
    ∷ []

pub starred : Agree cases
unfolding prune_for kept_places prune runs runs_from drop_pair weakest weakest_from without_pairs last_from without_end all_finite tab lt le eq of_bits of_int neg
starred = also refl (also refl (also refl (also refl (also refl (also refl (also refl (also refl none)))))))
