-- `extrema::candidates::put_all` meets its contract. Assumes nothing.
use native.Mathlib.Omega.{arith}
use Rattle.numbers.proofs.FiniteLaws.{finite_at}
use Rattle.extrema.proofs.CandidateLaws.{finite_written, put_next, put_end}
use Rattle.extrema.proofs.candidates.put_all.Goals as goal

pub loop-i-preserved : goal.loop-i-preserved
loop-i-preserved c =
    let l = c.loop-i in
    let a = c.args in
    let q = c.requires in
    rw c.put_candidate.ensures
    (put_next l.invariant (omega arith) (omega arith)
    (finite_written _ _ (c.shared_slice_known-in-loop-i-1.given l.i) (finite_at a.places.now l.i q.2 (omega arith)) (c.shared_slice_known-in-loop-i-2-1.given l.i) (finite_at a.e.now l.i q.3 (omega arith))))

pub returns : goal.returns
returns c = (put_end c.loop-i.invariant (omega arith), c.loop-i.invariant.framed)
