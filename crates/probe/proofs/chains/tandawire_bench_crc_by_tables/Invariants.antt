-- `probe::chains::tandawire_bench_crc_by_tables` meets its contract: after i turns d is draw i, since the tables are the CRC's. Assumes nothing.
use Rattle.std.proofs.Common.{◌≡◌, ◌-◌, ◌^◌, ◌<◌, ◌≤◌}
use Rattle.bucket.specs.Places.{draw, crc_next}
use Rattle.probe.proofs.chains.tandawire_bench_crc_by_tables.Given as goal

abbrev pub invariant-loop-i : goal.invariant-loop-i
invariant-loop-i l = (l.i ≤ l.n) × (l.d < 2 ^ 32) × (l.d ≡ draw crc_next 1 l.i)

abbrev pub decreases-loop-i : goal.decreases-loop-i
decreases-loop-i l = l.n - l.i
