-- `colleague::built::put_row` meets its contract. Assumes nothing.
use Prim.Native.Nat.{◌+◌, ◌-◌, ◌<◌}
use mathlib.Core.Path.{◌≡◌, ap, ◌∙◌}
use mathlib.Core.List.{List}
use native.Mathlib.Omega.{arith}
use borrow.Author.Tests.{lt-ltb, le-ltb, le-leb, lt-leb, eq-eqb, ne_eqb}
use lib.Dec.{ltb, leb}
use lib.ListN.{length, set, replicate}
use lib.Ieee.{Float}
use Rattle.numbers.specs.Floats.{zero64}
use Rattle.colleague.specs.Built.{half, set_if, first_of}
use Rattle.colleague.proofs.LentLaws.{row_put, row_own}
use Rattle.colleague.proofs.built.put_row.Goals as goal
use Rattle.colleague.proofs.built.put_row.Goals.{then-j-s, else-j-s, then-j-ge2, else-j-ge2, then-j-eq1, else-j-eq1}

abbrev blank : List Float
blank = replicate 15 zero64

pub returns : goal.returns
returns c =
    let g = c.args in
    let there : g.j < length g.a.now = omega (arith, c.requires.4.long) in
    let own : g.a.now ≡ set g.a.now g.j blank = row_own g.a.now g.j blank (c.requires.4.rest g.j (omega arith) (omega arith)) in
    -- right of the diagonal, and left of it
    let q = set_if (ltb (g.j + 1) g.s) (g.j + 1) half blank in
    let above : c.if-j-s.a ≡ set g.a.now g.j q =
    elim c.if-j-s.branch [
      | then-j-s w ↦ rw (lt-ltb _ _ w.if-j-s.true) (w.a-is ∙ row_put g.a.now g.j there g.a.now blank (g.j + 1) half own)
      | else-j-s w ↦ rw (le-ltb _ _ w.if-j-s.false) (w.a-is ∙ own)
    ] in
    let r = set_if (leb 2 g.j) (g.j - 1) half q in
    let below : c.if-j-ge2.a ≡ set g.a.now g.j r =
    elim c.if-j-ge2.branch [
      | then-j-ge2 w ↦ rw (le-leb _ _ w.if-j-ge2.true) (w.a-is ∙ row_put g.a.now g.j there c.if-j-s.a q (g.j - 1) half above)
      | else-j-ge2 w ↦ rw (lt-leb _ _ w.if-j-ge2.false) (w.a-is ∙ above)
    ] in
    let e = c.requires.3 in
    let first : c.if-j-eq1.a ≡ first_of g.ck.now g.s g.j =
    elim c.if-j-eq1.branch [
      | then-j-eq1 w ↦ rw (eq-eqb _ _ w.if-j-eq1.true, ← e) w.a-is
      | else-j-eq1 w ↦ rw (ne_eqb _ _ w.if-j-eq1.false, ← e) w.a-is
    ] in
    row_put g.a.now g.j there c.if-j-ge2.a r 0 c.if-j-eq1.a below ∙ ap (λ v. set g.a.now g.j (set r 0 v)) first
