-- No second answer fits the contract of the constructor. Assumes nothing.
use Rattle.std.specs.Prelude.{Result}
use mathlib.Core.Path.{◌≡◌, sym, ◌∙◌}
use Rattle.numbers.specs.declared.Refusal.{Refusal}
use Rattle.numbers.proofs.Unique.{outcome_unique}
use Rattle.fields.specs.declared.request.Request.{Request}
use Rattle.fields.specs.Request.{Constructed}

pub constructed_unique : (r : Request) {a b : Result Request Refusal} → Constructed r a → Constructed r b → a ≡ b
constructed_unique r {a} {b} s t = outcome_unique a b (s ∙ sym t)
