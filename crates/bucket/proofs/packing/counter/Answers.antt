use mathlib.Core.Path.{◌≡◌}
use Prim.Native.Nat.{◌+◌}
use native.Mathlib.Nat.{mod-lt}
use native.Mathlib.Omega.{arith}
use lib.Pow.{pow-add, pow_mono}
use Rattle.bucket.proofs.BitLaws.{read_next}
use Rattle.bucket.proofs.PackedLaws.{read-unpacked}
use Rattle.bucket.proofs.packing.counter.Goals as goal

-- a number of k + 1 bits fits
pub overflow_mul-c : goal.overflow_mul-c
overflow_mul-c c = let k = c.loop-k.k in omega (arith, c.loop-k.invariant.below, pow-add 2 k 1, pow_mono {i = k + 1} {j = 32} (omega arith))

pub loop-k-preserved : goal.loop-k-preserved
loop-k-preserved c = read_next c.loop-k.invariant c.bit_at.result (rw c.bit_at.ensures (mod-lt _ (omega arith))) c.bit_at.ensures

pub returns : goal.returns
returns c = let a = c.args in
    let end : c.loop-k.k ≡ a.w = omega arith in
    read-unpacked a.w a.n a.bytes.now (omega arith) a.i c.loop-k.c (omega arith) (rw end at c.loop-k.invariant)
