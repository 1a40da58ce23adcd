-- `exports::matrices::side_of` meets its contract. Assumes nothing.
use mathlib.Core.Path.{refl}
use native.Mathlib.Omega.{arith}
use Rattle.numbers.proofs.LoopLaws.{seek_start, seek_stop, seek_next, seek_end}
use Rattle.exports.proofs.MatrixLaws.{product_most}
use borrow.Author.Tests.{eq-eqb, ne_eqb}
use borrow.Author.Rules.{rules}
use Rattle.exports.proofs.matrices.side_of.Goals as goal

pub loop-s-init : goal.loop-s-init
loop-s-init c = seek_start

pub overflow_mul-s : goal.overflow_mul-s
overflow_mul-s c = let m = product_most c.loop-s.s c.loop-s.s 15 15 (omega (arith, c.loop-s-test.true)) (omega (arith, c.loop-s-test.true)) in search (rules, m)

pub returns-then-n-s : goal.returns-then-n-s
returns-then-n-s c = record { side = seek_stop c.loop-s.invariant c.loop-s-test.true (eq-eqb _ _ c.if-n-s.true); most = omega arith }

pub loop-s-preserved : goal.loop-s-preserved
loop-s-preserved c = seek_next c.loop-s.invariant c.loop-s-test.true (ne_eqb _ _ c.if-n-s.false) refl

pub returns : goal.returns
returns c = record { side = seek_end c.loop-s.invariant c.loop-s-test.false; most = omega arith }
