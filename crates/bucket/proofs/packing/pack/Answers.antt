-- `bucket::packing::pack` meets its contract: the early return is where one of the two tests of the contract is false. Assumes nothing.
use Rattle.std.proofs.Common.{ℕ, length, ◌≡◌, ◌+◌, ◌*◌, ◌∙◌, ap, arith}
use lib.ListN.{length-map}
use Rattle.std.proofs.lemmas.Bool.Decides.{nat_tests}
use Rattle.bucket.specs.Digits.{bytes_for, packed}
use Rattle.bucket.specs.Packing.{number, numbers, pack_into, pack_end}
use Rattle.bucket.proofs.OverLaws.{over-part}
use Rattle.bucket.proofs.PackedLaws.{packed-length}
use Rattle.bucket.proofs.packing.pack.Goals as goal

pub returns : goal.returns
unfolding pack_into pack_end
returns c = let a = c.args in
    let xs = numbers a.counts.now in
    let bytes : length (packed a.w xs) ≡ bytes_for (a.w * length a.counts.now) = packed-length a.w xs ∙ ap (λ (n : ℕ). bytes_for (a.w * n)) (length-map a.counts.now number) in (
      grind (arith, nat_tests),
      rw (c.pack_bits.ensures, over-part a.at (a.at + c.bytes_for.result) (packed a.w xs) a.out.now (omega (arith, bytes))) (grind (arith, nat_tests)),
    )
