-- `fir_types::taps::side` meets its contract. Assumes nothing.
use mathlib.Core.Path.{◌∙◌}
use borrow.Author.Rules.{rules}
use Rattle.numbers.specs.Operations.{◌⊕◌, ◌⊖◌}
use Rattle.fir_types.proofs.TapLaws.{joined_even_taps, joined_odd_odd}
use Rattle.fir_types.proofs.taps.side.Goals as goal

pub returns-in-Even-false : goal.returns-in-Even-false
returns-in-Even-false c =
    rw (c.in-Even-false.is-0, c.in-Even-false.is-1)
    (c.joined.ensures (λ x y. x ⊕ y) (search rules) ∙ joined_even_taps (λ x y. x ⊕ y) c.args.a.now c.args.j c.requires.1)

pub returns-in-Odd-true : goal.returns-in-Odd-true
returns-in-Odd-true c =
    rw (c.in-Odd-true.is-0, c.in-Odd-true.is-1)
    (c.joined-in-Odd-true.ensures (λ x y. x ⊖ y) (search rules) ∙ joined_odd_odd c.args.a.now c.args.j c.requires.1)

pub returns-in-Odd-false : goal.returns-in-Odd-false
returns-in-Odd-false c =
    rw (c.in-Odd-false.is-0, c.in-Odd-false.is-1)
    (c.joined-in-Odd-false.ensures (λ x y. x ⊖ y) (search rules) ∙ joined_even_taps (λ x y. x ⊖ y) c.args.a.now c.args.j c.requires.1)
