-- `checking::xor_met` meets its contract: what is left to be added is the sum of those that are met, of what both iterators have left. Assumes nothing.
use mathlib.Core.Path.{◌≡◌}
use Rattle.filter.specs.Table.{hashes_of}
use Rattle.session.proofs.XorSumLaws.{Left, met_sum}
use Rattle.session.proofs.checking.xor_met.Given as goal

abbrev pub invariant-loop-hash : goal.invariant-loop-hash
invariant-loop-hash l = record {
  size : l.hash-iterator.a.size ≡ 64;
  sum : Left l.initial.acc (met_sum (hashes_of l.known) l.marks) l.acc (met_sum (hashes_of l.hash-iterator.a.rest.now) l.hash-iterator.b.rest.now);
}
