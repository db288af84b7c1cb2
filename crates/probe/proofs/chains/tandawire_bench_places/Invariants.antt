-- `probe::chains::tandawire_bench_places` meets its contract: after i turns d is link i, since the tables are the CRC's. Assumes nothing.
use Rattle.std.proofs.Common.{◌≡◌, ◌-◌, ◌^◌, ◌<◌, ◌≤◌}
use Rattle.bucket.specs.Places.{draw}
use Rattle.probe.specs.Chains.{strided}
use Rattle.probe.proofs.chains.tandawire_bench_places.Given as goal

abbrev pub invariant-loop-i : goal.invariant-loop-i
invariant-loop-i l = (l.i ≤ l.n) × (l.d < 2 ^ 32) × (l.d ≡ draw (strided l.size l.k) 1 l.i)

abbrev pub decreases-loop-i : goal.decreases-loop-i
decreases-loop-i l = l.n - l.i
