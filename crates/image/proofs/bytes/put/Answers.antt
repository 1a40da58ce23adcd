-- `image::bytes::put` meets its contract. Assumes nothing.
use Rattle.std.proofs.Common.{rules, ◌≡◌, ◌+◌, ◌-◌, arith}
use Rattle.image.specs.Bytes.{bytes_of}
use Rattle.image.proofs.BytesLaws.{low_bytes, bytes_length, put_at}
use Rattle.image.proofs.bytes.put.Goals as goal

pub returns : goal.returns
returns c =
    let e : c.copy_from_slice.new.self ≡ bytes_of c.args.k c.args.n = search (rules, low_bytes) in
    let z : c.args.i + c.args.k - c.args.i ≡ c.args.k = omega arith in
    rw e (put_at c.args.out.now (bytes_of c.args.k c.args.n) c.args.i c.args.k _ (bytes_length _ _) z c.requires.0)
