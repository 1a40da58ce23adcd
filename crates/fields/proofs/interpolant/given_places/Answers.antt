-- `fields::interpolant::given_places` meets its contract. Assumes nothing.
use Rattle.std.proofs.Common.{rules}
use Rattle.std.proofs.lemmas.Result.{err_from_is_err_and}
use Rattle.fields.proofs.PlaceLaws.{given_taken, given_refused}
use Rattle.fields.proofs.interpolant.given_places.Goals as goal

pub returns-in_err-needed_list : goal.returns-in_err-needed_list
returns-in_err-needed_list c =
    let p = err_from_is_err_and c.from_residual.result c.from_residual.ensures.1 in
    rw (p.1, p.2) (given_refused c.args.points.now c.needed_list.ensures c.requires.1 c.in_err-needed_list.was)

pub returns : goal.returns
returns c =
    given_taken c.args.points.now c.needed_list.ensures c.requires.1 c.arccosines.result _ (search rules) c.in_ok-needed_list.was c.arccosines.ensures
