-- `checking::xor_all` meets its contract: what is left to be added is the sum of the hashes that the iterator has left. Assumes nothing.
use mathlib.Core.Path.{◌≡◌}
use mathlib.Core.List.{foldr}
use lib.Bits.{bit_xor}
use Rattle.filter.specs.Table.{hashes_of}
use Rattle.session.proofs.XorSumLaws.{Left}
use Rattle.session.proofs.checking.xor_all.Given as goal

abbrev pub invariant-loop-hash : goal.invariant-loop-hash
invariant-loop-hash l = record {
  size : l.hash-iterator.size ≡ 64;
  sum : Left l.initial.acc (foldr bit_xor 0 (hashes_of l.s)) l.acc (foldr bit_xor 0 (hashes_of l.hash-iterator.rest.now));
}
