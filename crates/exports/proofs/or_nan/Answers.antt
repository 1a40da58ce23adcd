-- `exports::or_nan` meets its contract. Assumes nothing.
use mathlib.Core.Path.{◌≡◌, refl, ◌∙◌}
use lib.Ieee.{Float, nan, of_bits}
use Rattle.std.specs.Prelude.{Result, Ok, Err}
use Rattle.std.specs.Result.{result_unwrap_or}
use Rattle.numbers.specs.declared.Refusal.{Refusal}
use Rattle.numbers.specs.Refusals.{outcome_of}
use Rattle.exports.specs.Answers.{or_nan}
use Rattle.exports.proofs.or_nan.Goals as goal

number_or_nan : (r : Result Float Refusal) → result_unwrap_or r nan ≡ or_nan (outcome_of r)
number_or_nan (Ok x) = refl
number_or_nan (Err q) = refl

pub returns : goal.returns
unfolding of_bits
returns c = c.unwrap_or.ensures ∙ number_or_nan c.args.number
