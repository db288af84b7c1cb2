-- `offering::count_extra` meets its contract. The invariant: n are counted, and the hashes are left that the iterator has. Assumes nothing.
use mathlib.Core.Path.{◌≡◌}
use Rattle.filter.specs.Table.{hashes_of}
use Rattle.session.proofs.GatheredLaws.{Counting}
use Rattle.session.proofs.offering.count_extra.Given as goal

abbrev pub invariant-loop-hash : goal.invariant-loop-hash
invariant-loop-hash l = record {
  size : l.hash-iterator.size ≡ 64;
  counted : Counting l.inquired (hashes_of l.hashes) l.n (hashes_of l.hash-iterator.rest.now);
}
