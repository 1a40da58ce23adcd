-- How an answer compares with the host's value.
use Rattle.std.specs.Prelude.{cond, ◌==◌, from_bits, Float}
use Rattle.std.specs.Float.{binary64}
use Rattle.std.specs.Float.Ieee.{le}
use Rattle.numbers.specs.Floats.{magnitude_of}
use Rattle.numbers.specs.Operations.{◌⊖◌}
use Rattle.numbers.specs.Outcome.{Outcome, refused, gave}
use Rattle.numbers.specs.Words.{to_word}
use Rattle.angles.specs.Turns.{cosine_of, sine_of}
use Rattle.angles.specs.Arccosine.{arccosine_of}
use Rattle.angle_values.specs.declared.list.Function.{Function}
use Rattle.angle_values.specs.declared.list.Function.TheVariants as function
use Rattle.angle_values.specs.declared.list.Case.{Case}
use Rattle.angle_values.specs.declared.verdicts.Verdict.{Verdict}
use Rattle.angle_values.specs.declared.verdicts.Verdict.TheVariants as verdict

abbrev pub outcome_of : Function → Float → Outcome Float
outcome_of function.Cosine x = cosine_of x
outcome_of function.Sine x = sine_of x
outcome_of function.Arccosine x = arccosine_of x

-- 2 ^ -50, the goal; document 01 asks for 2 ^ -40
abbrev pub close : Float
close = from_bits binary64 0x3cd0_0000_0000_0000

abbrev pub verdict_on : Outcome Float → Float → Verdict
verdict_on (refused n) y = verdict.Refused
verdict_on (gave x) y =
    cond (to_word x == to_word y) verdict.Same (cond (le (magnitude_of (x ⊖ y)) close) verdict.Near verdict.Far)

unfoldable pub verdict_of : Case → Verdict
verdict_of c = verdict_on (outcome_of c.function c.place) c.value
