-- `bucket::crc::tables` meets its contract: the first i entries go by the rule, each row made from the one before it.
-- Assumes nothing.
use Rattle.bucket.specs.Crc.{entry}
use Rattle.bucket.proofs.TableLaws.{Filled}
use Rattle.bucket.proofs.crc.tables.Given as goal

abbrev pub invariant-loop-i : goal.invariant-loop-i
invariant-loop-i l = Filled entry 2048 l.i l.tab
