-- Document 01's starred cases, one statement over the list of all of them: what each leaf's definition gives is what the
-- document says. Assumes nothing.
use mathlib.Core.List.{List, ◌++◌}
use Rattle.numbers.specs.Cases.{Case, Agree}
use Rattle.numbers.proofs.CaseLaws.{together}
use Rattle.barycentric.specs.Cases as barycentric
use Rattle.barycentric.proofs.Starred as barycentric-holds
use Rattle.pruning.proofs.Cases as pruning
use Rattle.subdivision.proofs.Cases as subdivision
use Rattle.fir_types.specs.Cases as taps
use Rattle.fir_types.proofs.Starred as taps_hold

abbrev pub cases : List Case
cases = barycentric.cases ++ (pruning.cases ++ (subdivision.cases ++ taps.cases))

pub starred : Agree cases
starred =
    together barycentric.cases _ barycentric-holds.starred
    (together pruning.cases _ pruning.starred (together subdivision.cases taps.cases subdivision.starred taps_hold.starred))
