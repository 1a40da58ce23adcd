use Prim.Native.Nat.{◌+◌, ◌-◌, ◌^◌, ◌<◌, ◌≤◌}
use mathlib.Core.Path.{◌≡◌}
use Rattle.image.specs.Bytes.{number_at}
use Rattle.image.proofs.bytes.number_at.Given as goal

abbrev pub invariant-loop-j : goal.invariant-loop-j
invariant-loop-j l = (l.i ≤ l.j) × (l.j ≤ l.i + l.k) × (l.n ≡ number_at l.s l.j (l.i + l.k - l.j)) × (l.n < 256 ^ (l.i + l.k - l.j))
