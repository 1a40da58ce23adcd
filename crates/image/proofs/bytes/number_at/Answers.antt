-- `image::bytes::number_at` meets its contract. Assumes nothing.
use Rattle.std.proofs.Common.{refl, suc, ◌≡◌, ◌+◌, ◌-◌, arith}
use Rattle.image.proofs.BytesLaws.{read_none, read_more, small_more, small_fits}
use Rattle.image.proofs.bytes.number_at.Goals as goal

pub loop-j-init : goal.loop-j-init
loop-j-init c =
    let z : c.args.i + c.args.k - (c.args.i + c.args.k) ≡ 0 = omega arith in
    (omega arith, omega arith, read_none c.args.s.now (c.args.i + c.args.k) _ z, rw z (omega arith))

pub overflow_mul-n : goal.overflow_mul-n
overflow_mul-n c =
    let l = c.loop-j in
    let k = c.args.i + c.args.k - l.j in
    let e = small_fits (suc k) _ (omega arith) (small_more k (suc k) l.n 0 refl l.invariant.3 (omega arith)) in
    omega (arith, e)

pub overflow_add-n : goal.overflow_add-n
overflow_add-n c =
    let l = c.loop-j in
    let k = c.args.i + c.args.k - l.j in
    let e = small_fits (suc k) _ (omega arith) (small_more k (suc k) l.n c.byte_at.result refl l.invariant.3 c.byte_at.ensures.1) in
    omega (arith, e)

pub loop-j-preserved : goal.loop-j-preserved
loop-j-preserved c =
    let l = c.loop-j in
    let k = c.args.i + c.args.k - l.j in
    let m : c.args.i + c.args.k - (l.j - 1) ≡ suc k = omega arith in
    (omega arith, omega arith, read_more c.args.s.now (l.j - 1) l.j k _ l.n c.byte_at.result (omega arith) m l.invariant.2 c.byte_at.ensures.0, small_more k _ l.n c.byte_at.result m l.invariant.3 c.byte_at.ensures.1)
