use mathlib.Core.Path.{◌≡◌}
use Prim.Native.Nat.{suc, ◌+◌, ◌-◌}
use native.Mathlib.Omega.{arith}
use Rattle.bucket.specs.Crc.{steps}
use Rattle.bucket.proofs.crc.octet.Goals as goal

pub loop-k-preserved : goal.loop-k-preserved
unfolding steps
loop-k-preserved c = let more : 8 - c.loop-k.k ≡ suc (8 - (c.loop-k.k + 1)) = omega arith in
    let left = rw more at c.loop-k.invariant in
    rw c.bit-v.ensures left

pub returns : goal.returns
unfolding steps
returns c = let none : 8 - c.loop-k.k ≡ 0 = omega arith in
    rw none at c.loop-k.invariant
