-- The room has as many bytes as `ROOM` says, by a lemma: counted one by one they are too many.
use Rattle.std.proofs.Common.{ℕ, sym}
use Rattle.std.proofs.lemmas.List.{length-replicate}
use Rattle.angle_values.proofs.main.Goals as goal

pub slice_bounds-read_full-end : goal.slice_bounds-read_full-end
slice_bounds-read_full-end c = sym (length-replicate {A = ℕ} 262144 0)
