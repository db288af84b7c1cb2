-- `probe::columns::tandawire_is_zero` meets its contract: the count is passed on as its bits, which are its own. Assumes nothing.
use Rattle.std.proofs.Common.{w64}
use mir.ValLaws.{to_z-of_z}
use Rattle.probe.proofs.columns.tandawire_is_zero.Goals as goal

pub returns : goal.returns
returns c = rw (to_z-of_z w64 c.args.count c.ranges.count) at c.is_zero.ensures
