-- `probe::numbers::tandawire_crc_by_tables` meets its contract: the tables are the CRC's. Assumes nothing.
use Rattle.std.proofs.Common.{ℕ, List, ap, ◌∙◌}
use Rattle.bucket.specs.Crc.{crc_by}
use Rattle.bucket.proofs.TableLaws.{crc_by_tables}
use Rattle.probe.proofs.numbers.tandawire_crc_by_tables.Goals as goal

-- `probe::numbers::tandawire_crc_by_tables` meets its contract: the tables are the CRC's. Assumes nothing.
pub returns : goal.returns
returns c = let x = c.args.x in
    c.crc_by.ensures ∙ ap (λ (t : List ℕ). crc_by t x) c.tables-tab.ensures ∙ crc_by_tables x
