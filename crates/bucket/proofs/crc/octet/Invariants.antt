-- `bucket::crc::octet` meets its contract: what is left to do of the eight steps, done from `v`, gives the eight steps from `c`.
-- Assumes nothing.
use mathlib.Core.Path.{◌≡◌}
use Prim.Native.Nat.{◌-◌}
use Rattle.bucket.specs.Crc.{steps}
use Rattle.bucket.proofs.crc.octet.Given as goal

abbrev pub invariant-loop-k : goal.invariant-loop-k
invariant-loop-k l = steps (8 - l.k) l.v ≡ steps 8 l.c
