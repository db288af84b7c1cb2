-- `bucket::packing::unpack` meets its contract: each early return is where one of the two tests of the contract is false. Assumes nothing.
use Rattle.std.proofs.Common.{ℕ, List, map, pos, ◌≡◌, ◌+◌, ◌∙◌, ap, ap₂, arith}
use borrow.Rule.Slice.PartMut.{mid_len}
use Rattle.std.proofs.lemmas.Bool.Decides.{nat_tests}
use Rattle.bucket.specs.Digits.{unpacked}
use Rattle.bucket.specs.Packing.{counters_at, unpack_into}
use Rattle.bucket.proofs.NumberLaws.{counts-length}
use Rattle.bucket.proofs.OverLaws.{over-part}
use Rattle.bucket.proofs.packing.unpack.Goals as goal

pub returns : goal.returns
unfolding unpack_into
returns c = let a = c.args in
    let there = c.in-Some.ensures in
    let xs = map pos (counters_at a.w a.n a.at a.s.now) in
    let laid : c.unpack_all.new.column ≡ xs =
    c.unpack_all.ensures
    ∙ ap₂ (λ (n : ℕ) (bs : List ℕ). map pos (unpacked a.w n bs)) (mid_len a.from (a.from + a.n) a.counts.now (omega arith) ∙ omega arith) there.1 in (
      grind (arith, nat_tests),
      rw (laid, over-part a.from (a.from + a.n) xs a.counts.now (ap (λ (n : ℕ). a.from + n) (counts-length a.w a.n _))) (grind (arith, nat_tests)),
    )
