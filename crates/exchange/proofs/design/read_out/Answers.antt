-- `exchange::design::read_out` meets its contract. Assumes nothing.
use mathlib.Core.Path.{ap}
use Rattle.exchange.specs.Job.{standing_of}
use Rattle.exchange.proofs.DesignLaws.{readable, finished_is}
use Rattle.exchange.proofs.design.read_out.Goals as goal

pub design_from-requires : goal.design_from-requires
design_from-requires c =
    let points = c.loaded.ensures.points in
    readable _ _ _ c.requires.0 c.requires.1 _ c.in_ok-i.ensures.outcome points c.requires.1

pub returns-in-Finished : goal.returns-in-Finished
returns-in-Finished c =
    let points = c.loaded.ensures.points in
    rw (← finished_is _ _ _ c.requires.0 c.requires.1 _ c.in_ok-i.ensures.outcome points (ap standing_of c.in-Finished.is)) c.design_from.ensures
