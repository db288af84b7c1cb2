-- `bucket::crc::crc_bytes` meets its contract: the fold takes the bytes in one after the other. Assumes nothing.
use Rattle.std.proofs.Common.{ℕ, ap, ◌∙◌, bit_xor, rules}
use borrow.Author.Tests.{tests}
use Rattle.std.proofs.lemmas.Iterator.{YieldsList-from_slice}
use Rattle.std.proofs.lemmas.Iterator.Consumers.{fold_from_yields_List}
use Rattle.bucket.specs.Crc.{crc32}
use Rattle.bucket.proofs.CrcLaws.{taken_in, fold-feed}
use Rattle.bucket.proofs.crc.crc_bytes.Goals as goal

pub returns : goal.returns
unfolding crc32
returns c = let bs = c.args.s.now in
    ap (λ (v : ℕ). bit_xor v 0xFFFFFFFF)
    (fold_from_yields_List _ taken_in 0xFFFFFFFF _ c.fold-c.ensures.ran (YieldsList-from_slice bs cc) (λ a x r q k. search (rules, tests))
    ∙ fold-feed 0xFFFFFFFF bs)
