-- `packing::reading::of_bits` meets its contract. Assumes nothing.
use Rattle.std.proofs.Common.{arith, sym, ◌∙◌}
use Rattle.numbers.proofs.WordLaws.{no_nan_word}
use Rattle.packing.proofs.Laws.{nan_bits}
use Rattle.packing.proofs.reading.of_bits.Goals as goal

pub returns-then-w-gt9218868437227405312 : goal.returns-then-w-gt9218868437227405312
returns-then-w-gt9218868437227405312 c = sym (nan_bits 0x7ff8_0000_0000_0000 (omega arith)) ∙ nan_bits _ c.if-w-gt9218868437227405312.true

pub float_from_bits-result : goal.float_from_bits-result
float_from_bits-result c = no_nan_word _ c.if-w-gt9218868437227405312.false
