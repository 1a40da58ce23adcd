-- As many bytes as were read are at the front of the room; each turn reads a byte or more.
use Rattle.std.proofs.Common.{length, ◌-◌, ◌≤◌}
use Rattle.text.proofs.input.read_full.Given as goal

abbrev pub invariant-loop-n : goal.invariant-loop-n
invariant-loop-n g l = l.n ≤ length l.room

abbrev pub decreases-loop-n : goal.decreases-loop-n
decreases-loop-n g l = length l.room - l.n
