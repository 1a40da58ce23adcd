-- `exchange::design::design_from` meets its contract. Assumes nothing.
use mathlib.Core.Path.{◌≡◌}
use native.Mathlib.Omega.{arith}
use lib.ListN.{length, take}
use lib.Seq.{length-take-le}
use Rattle.exchange.specs.Job.{interpolation_in}
use Rattle.exchange.proofs.DesignLaws.{cycles_never, designed}
use borrow.Author.Rules.{rules}
use Rattle.exchange.proofs.design.design_from.Goals as goal

pub returns-in_err-needed_list : goal.returns-in_err-needed_list
returns-in_err-needed_list c =
    let k : length (take c.args.i.count c.args.i.freqs) ≡ c.args.i.count = length-take-le _ _ (search rules) in
    absurd (cycles_never _ _ c.in_ok-in_cycles.ensures (omega (arith, k, c.requires.count, c.requires.room)) c.needed_list.ensures c.in_err-needed_list.was)

pub returns : goal.returns
returns c =
    let k : length (take c.args.i.count c.args.i.freqs) ≡ c.args.i.count = length-take-le _ _ (search rules) in
    designed c.args.fields (interpolation_in c.args.i) _ _ c.in_ok-in_cycles.ensures c.taps_of.ensures c.in_ok-taps_of.was
    (omega (arith, k, c.requires.count, c.requires.room)) c.needed_list.ensures c.magnitude.ensures
