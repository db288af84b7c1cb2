use Rattle.std.proofs.Common.{sym, ◌∙◌, pos, length, arith}
use lib.ListN.{get_or-map, length-map}
use lib.Seq.{ext_get_or}
use Rattle.bucket.specs.Digits.{unpacked}
use Rattle.bucket.proofs.PackedLaws.{unpacked-length}
use Rattle.bucket.proofs.packing.unpack_all.Goals as goal

pub returns : goal.returns
returns c = let a = c.args in
    let n = length a.column.now in
    let xs = unpacked a.w n a.bytes.now in
    ext_get_or (pos 0) _ _ (omega (arith, length-map xs pos, unpacked-length a.w n a.bytes.now))
    (λ k h. c.loop-i.invariant k (omega arith) ∙ sym (get_or-map pos xs k 0))
