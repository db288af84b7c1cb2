-- `bucket::crc::crc` meets its contract: the CRC-32 of a number is that of its eight bytes. Assumes nothing.
use Rattle.std.proofs.Common.{ap, ◌∙◌}
use Rattle.bucket.specs.Crc.{crc_of, crc32}
use Rattle.bucket.proofs.ByteLaws.{be-bytes}
use Rattle.bucket.proofs.crc.crc.Goals as goal

pub returns : goal.returns
unfolding crc_of
returns c = c.crc_bytes.ensures ∙ ap crc32 (c.to_be_bytes.ensures ∙ be-bytes c.args.x)
