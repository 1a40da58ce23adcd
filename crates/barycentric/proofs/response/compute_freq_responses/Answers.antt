-- `barycentric::response::compute_freq_responses` meets its contract. Assumes nothing.
use borrow.Author.Rules.{rules}
use Rattle.barycentric.proofs.ResponseLanes.{places_begin}
use Rattle.barycentric.proofs.response.compute_freq_responses.Goals as goal

pub responses_into-requires : goal.responses_into-requires
responses_into-requires c = places_begin c.args.places.now c.args.x.now c.args.wk.now c.args.yk.now (search rules) (search rules) (search rules)
