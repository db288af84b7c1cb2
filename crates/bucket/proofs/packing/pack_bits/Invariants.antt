-- `bucket::packing::pack_bits` meets its contract. The invariant: packed bit k is bit k mod w of counter k / w for every k below j, and zero from j on.
-- Assumes nothing.
use mathlib.Core.Path.{◌≡◌}
use Prim.Native.Nat.{◌*◌}
use lib.ListN.{length}
use Rattle.bucket.specs.Digits.{bytes_for, bit_at}
use Rattle.bucket.specs.Packing.{numbers}
use Rattle.bucket.proofs.BitLaws.{Written}
use Rattle.bucket.proofs.packing.pack_bits.Given as goal

abbrev pub invariant-loop-j : goal.invariant-loop-j
invariant-loop-j l = (length l.out ≡ bytes_for (l.w * length l.counts)) × Written (bit_at l.w (numbers l.counts)) l.j l.out
