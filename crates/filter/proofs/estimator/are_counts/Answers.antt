-- `estimator::are_counts` meets its contract: it is two tests. Assumes nothing.
use mathlib.Core.Path.{ap₂}
use mathlib.Core.Bool.{◌&&◌}
use Rattle.filter.proofs.estimator.are_counts.Goals as goal

pub returns : goal.returns
returns c = ap₂ ◌&&◌ c.are_counts.ensures c.are_counts-2.ensures
