-- `differ::report::are_tables` meets its contract: its two tests are those of the definition. Assumes nothing.
use mathlib.Core.Path.{ap₂}
use mathlib.Core.Bool.{Bool, ◌&&◌}
use Rattle.differ.proofs.report.are_tables.Goals as goal

pub returns : goal.returns
returns c = ap₂ (λ (p q : Bool). p && q) c.is_table.ensures c.is_table-2.ensures
