-- `checking::xor_into` meets its contract: the bytes before k are XORed with those of the hash, the others kept. Assumes nothing.
use Rattle.session.proofs.XorSumLaws.{Mixing}
use Rattle.session.proofs.checking.xor_into.Given as goal

abbrev pub invariant-loop-k : goal.invariant-loop-k
invariant-loop-k l = Mixing l.initial.acc l.hash l.acc l.k
