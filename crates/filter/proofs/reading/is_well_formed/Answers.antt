-- `reading::is_well_formed` meets its contract: it is two tests. Assumes nothing.
use mathlib.Core.Path.{ap₂}
use mathlib.Core.Bool.{◌&&◌}
use Rattle.filter.proofs.reading.is_well_formed.Goals as goal

pub returns : goal.returns
returns c = ap₂ ◌&&◌ c.is_table.ensures c.are_counts.ensures
