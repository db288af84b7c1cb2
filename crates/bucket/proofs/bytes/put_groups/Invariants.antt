-- `bucket::bytes::put_groups` meets its contract. The invariant: the j highest of the k bytes of x lie over the bytes from the position on.
-- Assumes nothing.
use Prim.Native.Nat.{◌-◌, ◌*◌, ◌/◌, ◌^◌}
use Rattle.bucket.specs.Digits.{groups}
use Rattle.bucket.proofs.OverLaws.{Laid}
use Rattle.bucket.proofs.bytes.put_groups.Given as goal

abbrev pub invariant-loop-j : goal.invariant-loop-j
invariant-loop-j l = Laid l.at (groups 8 l.j (l.x / 2 ^ (8 * (l.k - l.j)))) l.initial.s l.s
