-- `reading::read` meets its contract: each early answer is the definition's at the test that failed, and behind them the difference is read.
-- Assumes nothing.
use mathlib.Core.Bool.{not}
use mathlib.Core.Path.{◌∙◌}
use Rattle.bucket.specs.Columns.{columns}
use Rattle.bucket.proofs.TestLaws.{test_granted}
use Rattle.filter.proofs.CallLaws.{Granted, read-ends, read_ready}
use Rattle.std.proofs.Common.{ap}
use Rattle.filter.proofs.reading.read.Goals as goal
use Rattle.filter.proofs.reading.read.Goals.{Else-not-roomy}

-- behind the three tests
granted : (c : Else-not-roomy)
    → let a = c.args in
    Granted a.size a.salt a.table.now (columns a.ids.now a.hashes.now a.counts.now) a.ours.now a.theirs.now
granted c = record {
  formed = test_granted c.is_well_formed-formed.ensures (ap not c.if-not-formed.false);
  ranged = test_granted c.in_range-ranged.ensures (ap not c.if-not-ranged.false);
  roomy = test_granted c.has_all_room-roomy.ensures (ap not c.if-not-roomy.false);
}

pub read_difference-requires : goal.read_difference-requires
read_difference-requires c = read_ready (granted (goal.at.read_difference-requires c).Else-not-roomy)

pub returns : goal.returns
returns c = c.read_difference.ensures ∙ read-ends (granted (goal.at.returns c).Else-not-roomy)
