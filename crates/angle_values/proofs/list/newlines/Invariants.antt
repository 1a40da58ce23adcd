use Rattle.std.proofs.Common.{◌≡◌, ◌+◌, ◌==◌, count_by, ◌≤◌, drop}
use Rattle.angle_values.proofs.list.newlines.Given as goal

abbrev pub invariant-loop-b : goal.invariant-loop-b
invariant-loop-b l = (l.n ≤ l.b-index) × (l.n + count_by (λ b. b == 10) (drop l.b-index l.s) ≡ count_by (λ b. b == 10) l.s)
