-- The extrema of an exchange, in computing order: the ends of all subintervals as subdivided; then each subinterval's proxy, matrix, roots
-- and candidates; then these sorted by x and pruned to n, or 13.
use Rattle.std.specs.Prelude.{Result, ℕ, ◌+◌, ◌-◌, ◌≡◌, ◌&&◌, cond, List, [], ◌++◌, map, leb, ltb, length, get_or, take, drop, replicate, Float}
use Rattle.numbers.specs.Loops.{tab}
use Rattle.numbers.specs.Outcome.{Outcome, gave, bind, unless, sweep}
use Rattle.numbers.specs.Refusals.{outcome_of}
use Rattle.numbers.specs.declared.Refusal.{Refusal}
use Rattle.chebyshev.specs.Nodes.{least_degree, most_degree, nodes_for}
use Rattle.fir_types.specs.declared.edges.Interval.{Interval}
use Rattle.subdivision.specs.Subdivide.{Intervals}
use Rattle.subdivision.specs.Subdivide.{most_intervals}
use Rattle.pruning.specs.declared.candidates.Candidate.{Candidate}
use Rattle.pruning.specs.Candidates.{none}
use Rattle.pruning.specs.Errors.{prune_for}
use Rattle.pruning.specs.Sort.{sorted, by_x}
use Rattle.listed.specs.declared.Listed.{Listed}
use Rattle.listed.specs.Listed.{listed}
use Rattle.extrema.specs.Errors.{Curve}
use Rattle.extrema.specs.Proxy.{ends_of, inside_of}

abbrev pub error_of : Candidate → Float
error_of c = c.error

-- those of l that stand at the places
abbrev pub chosen : List Candidate → List ℕ → List Candidate
chosen l places = tab (λ i. get_or l (get_or places i 0) none) (length places) 0

-- the n that are kept of candidates in order
unfoldable pub kept_of : ℕ → List Candidate → Outcome (List Candidate)
kept_of n l = bind (prune_for (map error_of l) n n) (λ places. gave (chosen l places))

-- sorted stably by x, and pruned
unfoldable pub pruned_to : ℕ → List Candidate → Outcome (List Candidate)
pruned_to n l = kept_of n (sorted by_x l)

-- the ends of all subintervals; then what lies inside each
unfoldable pub collected : Curve → List Float → List Interval → Outcome (List Candidate)
collected c nodes vs = bind (sweep (ends_of c) vs []) (sweep (inside_of c nodes) vs)

unfoldable pub extrema_of : Curve → List Interval → ℕ → ℕ → Outcome (List Candidate)
extrema_of c vs degree n = bind (nodes_for degree (degree + 1)) (λ nodes. bind (collected c nodes vs) (pruned_to n))

-- ---- as a leaf
abbrev pub most_kept : ℕ
most_kept = 65

-- two words for each of the 1,241 candidates that there may be
abbrev pub words_needed : ℕ
words_needed = 2482

abbrev pub intervals_of : Intervals → List Interval
intervals_of v = take v.count v.list

-- 15 for more subintervals than there may be or more points than are kept; 5 for a degree out of range
unfoldable pub extrema_in : Curve → Intervals → ℕ → ℕ → Outcome (List Candidate)
extrema_in c v degree n =
    unless (leb v.count most_intervals && leb n most_kept) 15
    (unless (leb least_degree degree && leb degree most_degree) 5 (extrema_of c (intervals_of v) degree n))

-- 1 for fewer words than the candidates need
unfoldable pub extrema_for : Curve → Intervals → ℕ → ℕ → ℕ → Outcome (List Candidate)
extrema_for c v degree n words = unless (leb words_needed words) 1 (extrema_in c v degree n)

-- up to so many, zeros beyond them
abbrev pub Kept : Type 0
Kept = Listed Candidate most_kept

abbrev pub packed : List Candidate → Kept
packed = listed none most_kept

-- those words are zero afterwards, the others as they were; all as they were for 1
abbrev pub wiped : List ℕ → List ℕ
wiped w = cond (ltb (length w) words_needed) w (replicate words_needed 0 ++ drop words_needed w)

-- The contract: the candidates that are kept, or why there are none; and the words.
pub record Found (c : Curve) (v : Intervals) (degree n : ℕ) (r : Result Kept Refusal) (w w' : List ℕ) : Type 0 where
  pub kept : outcome_of r ≡ bind (extrema_for c v degree n (length w)) (λ l. gave (packed l))
  pub words : w' ≡ wiped w
