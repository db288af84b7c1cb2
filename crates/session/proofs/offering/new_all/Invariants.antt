-- `offering::new_all` meets its contract. The invariant: the walk has the hashes left that the iterator has. Assumes nothing.
use mathlib.Core.Path.{◌≡◌}
use Rattle.bucket.specs.Digits.{Below}
use Rattle.filter.specs.Table.{hashes_of}
use Rattle.session.proofs.OfferLaws.{Offering}
use Rattle.session.proofs.offering.new_all.Given as goal

abbrev pub invariant-loop-hash : goal.invariant-loop-hash
invariant-loop-hash l = record {
  size : l.hash-iterator.size ≡ 64;
  bytes : Below 8 l.hash-iterator.rest.now;
  walk : Offering l.tables.table.now l.tables.known.now l.inquired l.active (hashes_of l.offered) l.initial.fresh l.initial.hashes l.fresh l.hashes l.m (hashes_of l.hash-iterator.rest.now);
}
