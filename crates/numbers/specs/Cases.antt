-- Document 01's starred cases, as pairs: what a definition gives, and what the document says.
use Rattle.std.specs.Prelude.{◌≡◌, List, [], ◌∷◌}

pub record Case : Type 1 where
  pub Answer : Type 0
  pub gives : Answer
  pub says : Answer

-- every pair of a list agrees
pub data Agree : List Case → Type 1 where
  none : Agree []
  also : {c : Case} {cs : List Case} → c.gives ≡ c.says → Agree cs → Agree (c ∷ cs)
