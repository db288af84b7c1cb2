use mathlib.Core.Path.{refl, ap, ◌∙◌}
use mathlib.Core.List.{foldr}
use native.Mathlib.Omega.{arith}
use lib.Bits.{bit_xor}
use Rattle.bucket.specs.Digits.{joined}
use Rattle.filter.specs.Table.{hashes_of}
use Rattle.session.proofs.ChunkLaws.{hashes-cons, hashes_none}
use Rattle.session.proofs.XorSumLaws.{left_start, left_next, left_end}
use Rattle.session.proofs.checking.xor_all.Goals as goal

pub loop-hash-init : goal.loop-hash-init
loop-hash-init c =
    rw (c.into_iter-hash-iterator.ensures.into_iter_gives, c.chunks_exact-hash-items.ensures.rest, c.chunks_exact-hash-items.ensures.size) record {
      size = refl;
      sum = left_start c.args.acc.now (foldr bit_xor 0 (hashes_of c.args.s.now));
    }

pub xor_into-requires : goal.xor_into-requires
xor_into-requires c = c.in-Some.ensures.steps.1.1 ∙ c.loop-hash.invariant.size

pub loop-hash-preserved : goal.loop-hash-preserved
loop-hash-preserved c = let at = c.loop-hash.invariant in
    let step = c.in-Some.ensures.steps in
    let rest = c.next.new.self.rest.now in
    record {
      size = step.0 ∙ at.size;
      sum =
          left_next at.sum (joined 8 c.in-Some.hash.now) (foldr bit_xor 0 (hashes_of rest))
          (ap (foldr bit_xor 0) (hashes-cons c.in-Some.hash.now rest step.1.0 (step.1.1 ∙ at.size))) c.xor_into.ensures;
    }

pub returns : goal.returns
returns c = let at = c.loop-hash.invariant in
    left_end at.sum (ap (foldr bit_xor 0) (hashes_none c.loop-hash.hash-iterator.rest.now (omega (arith, c.in-None.ensures.steps.1.0, at.size))))
