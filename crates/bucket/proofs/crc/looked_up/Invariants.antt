-- `bucket::crc::looked_up` meets its contract: the bytes that are left, looked up from c, give what all n give from the start.
-- Assumes nothing.
use mathlib.Core.Path.{◌≡◌}
use Rattle.bucket.specs.Crc.{looked_up}
use Rattle.bucket.proofs.crc.looked_up.Given as goal

abbrev pub invariant-loop-k : goal.invariant-loop-k
invariant-loop-k l = looked_up l.tab l.row l.x l.k l.c ≡ looked_up l.tab l.row l.x l.n l.start
