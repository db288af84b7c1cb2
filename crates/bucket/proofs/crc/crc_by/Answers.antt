-- `bucket::crc::crc_by` meets its contract: all eight bytes are looked up from row 0. Assumes nothing.
use Rattle.bucket.specs.Crc.{crc_by}
use Rattle.bucket.proofs.crc.crc_by.Goals as goal

pub returns : goal.returns
unfolding crc_by
returns c = c.looked_up.ensures
