use Prim.Native.Nat.{◌+◌, ◌*◌, ◌≤◌}
use mathlib.Core.Path.{◌≡◌}
use mathlib.Core.List.{List}
use lib.ListN.{length}
use lib.Ieee.{Float}
use Rattle.numbers.specs.Outcome.{Outcome, bind, sweep}
use Rattle.numbers.proofs.OutcomeLaws.{Sweeping}
use Rattle.fir_types.specs.declared.edges.Interval.{Interval}
use Rattle.pruning.specs.declared.candidates.Candidate.{Candidate}
use Rattle.pruning.specs.Candidates.{view}
use Rattle.extrema.specs.Batches.{FindsAt, PutsAt}
use Rattle.extrema.proofs.put_each.Given as goal

abbrev pub invariant-loop-v : goal.invariant-loop-v
invariant-loop-v g l = record {
  within : l.v-index ≤ length l.list;
  least : l.start ≤ l.n;
  most : l.n ≤ l.start + g.row.MOST * l.v-index;
  room : length l.places ≡ g.row.MOST;
  long : length l.words ≡ length l.initial.words;
  swept : (place : Interval → Outcome (List Float)) (f : List Float → List Candidate → Outcome (List Candidate))
      → FindsAt g.row.MOST (goal.F-post g l.find) place → PutsAt g.row.MOST (goal.P-post g l.put) f
      → (view l.words l.start ≡ view l.initial.words l.start)
      × Sweeping (λ v s. bind (place v) (λ p. f p s)) l.list l.v-index (view l.words l.n) (sweep (λ v s. bind (place v) (λ p. f p s)) l.list (view l.initial.words l.start));
}
