-- `filter::table::Table::count` meets its contract: an ID for each hash, and a table has at most 4,096. Assumes nothing.
use mathlib.Core.Path.{sym, ◌∙◌}
use native.Mathlib.Omega.{arith}
use Rattle.filter.specs.Table.{first_eight}
use Rattle.filter.proofs.TableLaws.{hashes-length, ids-length, table-count}
use Rattle.filter.proofs.table.Table.count.Goals as goal

pub returns : goal.returns
returns c = let t = c.args.self.bytes.now in
    (c.count.ensures ∙ hashes-length t ∙ sym (ids-length first_eight t), omega (arith, hashes-length t, table-count t c.args.self.well_formed))
