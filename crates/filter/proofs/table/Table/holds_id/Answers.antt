-- `filter::table::Table::holds_id` meets its contract: in a table an ID is found exactly where it is. Assumes nothing.
use mathlib.Core.Path.{◌∙◌}
use Rattle.filter.proofs.TableLaws.{held-id}
use Rattle.filter.proofs.table.Table.holds_id.Goals as goal

pub returns : goal.returns
returns c = let t = c.args.self in
    c.holds_id.ensures ∙ held-id t.bytes.now t.well_formed c.args.id
