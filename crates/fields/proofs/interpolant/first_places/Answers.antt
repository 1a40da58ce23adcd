-- `fields::interpolant::first_places` meets its contract. Assumes nothing.
use Rattle.std.proofs.Common.{rules}
use Rattle.std.proofs.lemmas.Result.{err_from_is_err_and}
use Rattle.fields.proofs.PlaceLaws.{first_taken, first_refused}
use Rattle.fields.proofs.interpolant.first_places.Goals as goal

pub returns-in_err-initial_extremal_freqs : goal.returns-in_err-initial_extremal_freqs
returns-in_err-initial_extremal_freqs c =
    let p = err_from_is_err_and c.from_residual.result c.from_residual.ensures.1 in
    rw (p.1, p.2)
    (first_refused c.args.request c.args.bands _ _ c.initial_extremal_freqs.ensures c.radians_of.ensures c.functions.ensures c.requires.0 c.in_err-initial_extremal_freqs.was)

pub returns : goal.returns
returns c =
    first_taken c.args.request c.args.bands _ _ c.initial_extremal_freqs.ensures c.radians_of.ensures c.functions.ensures c.requires.0
    c.cosines.result _ (search rules) c.in_ok-initial_extremal_freqs.was c.cosines.ensures
