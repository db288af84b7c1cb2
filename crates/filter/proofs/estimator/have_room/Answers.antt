-- `estimator::have_room` meets its contract: it is two tests. Assumes nothing.
use mathlib.Core.Path.{ap₂}
use mathlib.Core.Bool.{◌&&◌}
use Rattle.filter.proofs.estimator.have_room.Goals as goal

pub returns : goal.returns
returns c = ap₂ ◌&&◌ c.has_room.ensures c.has_room-2.ensures
