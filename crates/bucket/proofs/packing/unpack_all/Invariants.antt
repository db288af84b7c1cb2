-- `bucket::packing::unpack_all` meets its contract. The invariant: the first i of the column are the counters. Assumes nothing.
use mathlib.Core.Path.{◌≡◌}
use Prim.Native.Nat.{ℕ, ◌<◌}
use lib.IntN.{pos}
use lib.ListN.{get_or}
use Rattle.bucket.specs.Digits.{unpacked}
use Rattle.bucket.proofs.packing.unpack_all.Given as goal

abbrev pub invariant-loop-i : goal.invariant-loop-i
invariant-loop-i l = (k : ℕ) → k < l.i → get_or l.column k (pos 0) ≡ pos (get_or (unpacked l.w l.n l.bytes) k 0)
