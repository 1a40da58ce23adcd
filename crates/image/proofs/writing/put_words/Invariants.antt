use mathlib.Core.Path.{◌≡◌}
use lib.ListN.{length}
use lib.Seq.{sets}
use Rattle.image.specs.Image.{word_part, parts}
use Rattle.image.proofs.Laying.{Parting}
use Rattle.image.proofs.writing.put_words.Given as goal

abbrev pub invariant-loop-i : goal.invariant-loop-i
invariant-loop-i l = (length l.out ≡ length l.initial.out) × Parting (word_part l.words 0 l.k) l.k l.a (length l.words) l.i l.out (sets l.initial.out l.a (parts (word_part l.words 0 l.k) (length l.words) 0))
