-- `offering::store_all` meets its contract. The invariant: the hashes are left that the iterator has, and there is room for them. Assumes nothing.
use mathlib.Core.Path.{◌≡◌}
use Prim.Native.Nat.{◌+◌, ◌*◌, ◌≤◌}
use lib.ListN.{length}
use Rattle.bucket.specs.Digits.{Below}
use Rattle.filter.specs.Table.{hashes_of}
use Rattle.session.proofs.GatheredLaws.{Putting}
use Rattle.session.proofs.offering.store_all.Given as goal

abbrev pub invariant-loop-hash : goal.invariant-loop-hash
invariant-loop-hash l = record {
  size : l.hash-iterator.size ≡ 64;
  bytes : Below 8 l.hash-iterator.rest.now;
  room : 64 * l.n + length l.hash-iterator.rest.now ≤ 262144;
  put : Putting l.initial.n (hashes_of l.hashes) l.initial.records l.initial.marks l.records l.marks l.n (hashes_of l.hash-iterator.rest.now);
}
