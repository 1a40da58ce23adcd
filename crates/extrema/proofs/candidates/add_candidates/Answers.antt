-- `extrema::candidates::add_candidates` meets its contract. Assumes nothing.
use mathlib.Core.Path.{refl, sym}
use native.Mathlib.Omega.{arith}
use Rattle.extrema.proofs.ErrorLaws.{errors_given}
use Rattle.extrema.proofs.CandidateLaws.{candidates_none, candidates_next}
use Rattle.extrema.proofs.BatchLaws.{view-front}
use Rattle.extrema.proofs.BatchStages.{behind_of}
use Rattle.std.proofs.lemmas.Grind.{common_steps}
use Rattle.extrema.proofs.candidates.add_candidates.Goals as goal

pub returns-then-is_empty : goal.returns-then-is_empty
returns-then-is_empty c = behind_of (candidates_none _ _ (grind (arith, common_steps))) (omega arith) (omega arith) refl refl

pub put_all-requires : goal.put_all-requires
put_all-requires c =
    let g = errors_given _ _ _ (sym c.in_ok-errors.ensures) in
    (omega arith, g.long, g.places_are, g.errors_are)

pub returns : goal.returns
returns c =
    behind_of (candidates_next _ _ _ (grind (arith, common_steps)) c.in_ok-errors.ensures c.put_all.ensures.0) (omega arith) (omega arith) (view-front _ _ _ _ _ (omega arith) (omega arith) c.put_all.ensures.0) c.put_all.ensures.1.long
