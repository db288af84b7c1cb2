-- `checking::checksum` meets its contract: 64 zero bytes are the sum of nothing; the two sums are added, and bytes are known by the number that they make.
-- Assumes nothing.
use mathlib.Core.Path.{ap, ◌∙◌}
use mathlib.Core.List.{List, [], ◌∷◌, foldr}
use Prim.Native.Nat.{ℕ}
use lib.Bits.{bit_xor}
use Rattle.bucket.specs.Digits.{packed}
use Rattle.filter.specs.Table.{hashes_of}
use Rattle.session.specs.Moves.{check_of}
use Rattle.session.proofs.XorSumLaws.{sum-start, sum-bytes, met_behind}
use Rattle.session.proofs.checking.checksum.Goals as goal

pub returns : goal.returns
unfolding check_of
returns c = let a = c.args in
    sum-bytes _ c.xor_met.new.acc (c.xor_met.ensures _ (c.xor_all.ensures 0 sum-start))
    ∙ ap (λ (l : List ℕ). packed 512 (bit_xor (foldr bit_xor 0 (hashes_of a.tables.table.now)) (foldr bit_xor 0 l) ∷ [])) (met_behind (hashes_of a.tables.known.now) a.marks.now)
