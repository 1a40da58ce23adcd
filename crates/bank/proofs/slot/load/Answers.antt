-- `bank::slot::load` meets its contract. Assumes nothing.
use mathlib.Core.Path.{sym, ◌∙◌}
use Rattle.bank.proofs.SlotLaws.{near_is, load_empty, load_holds, load_broken}
use Rattle.bank.proofs.slot.load.Goals as goal

pub returns-then-are_zero : goal.returns-then-are_zero
returns-then-are_zero c = load_empty _ (sym c.are_zero.ensures ∙ c.if-are_zero.true)

pub returns-then-eq : goal.returns-then-eq
returns-then-eq c =
    let w = c.args.s.now in
    load_holds w _ (near_is w c.unpack.result c.state_in.result c.unpack.ensures c.state_in.ensures) c.requires (sym c.are_zero.ensures ∙ c.if-are_zero.false)
    (rw (c.as_slice.ensures, c.words_of.ensures) at (sym c.eq.ensures ∙ c.if-eq.true))

pub returns-else-eq : goal.returns-else-eq
returns-else-eq c =
    let w = c.args.s.now in
    load_broken w _ (near_is w c.unpack.result c.state_in.result c.unpack.ensures c.state_in.ensures) c.requires (sym c.are_zero.ensures ∙ c.if-are_zero.false)
    (rw (c.as_slice.ensures, c.words_of.ensures) at (sym c.eq.ensures ∙ c.if-eq.false))
