-- `estimator::estimate` meets its contract: the early answers are the definition's at the test that failed; behind them the first columns hold the
-- difference, whose strata are read as the definition's are. Assumes nothing.
use mathlib.Core.Path.{◌≡◌}
use mathlib.Core.Bool.{true, not, ◌&&◌}
use native.Mathlib.Omega.{arith}
use Rattle.bucket.specs.Columns.{Columns, columns}
use Rattle.bucket.proofs.TestLaws.{test_granted}
use Rattle.filter.specs.Calls.{are_counts, has_room}
use Rattle.filter.proofs.EstimateLaws.{estimate_ready, less-wide, less-small, estimate-ends}
use Rattle.std.proofs.Common.{ap}
use Rattle.filter.proofs.estimator.estimate.Goals as goal
use Rattle.filter.proofs.estimator.estimate.Goals.{Else-not-both_roomy}

-- behind the two tests: the columns as they were lent, and what the tests say of them
abbrev first : Else-not-both_roomy → Columns
first c = let a = c.args in columns a.ids.now a.hashes.now a.counts.now

abbrev second : Else-not-both_roomy → Columns
second c = let a = c.args in columns a.ids2.now a.hashes2.now a.counts2.now

counted : (c : Else-not-both_roomy) → are_counts 2528 (first c).counts && are_counts 2528 (second c).counts ≡ true
counted c = test_granted c.are_counts-counted.ensures (ap not c.if-not-counted.false)

roomy : (c : Else-not-both_roomy) → has_room 2528 (first c) && has_room 2528 (second c) ≡ true
roomy c = test_granted c.have_room-both_roomy.ensures (ap not c.if-not-both_roomy.false)

pub subtract-requires : goal.subtract-requires
subtract-requires c = let t = (goal.at.subtract-requires c).Else-not-both_roomy in estimate_ready (first t) (second t) (counted t) (roomy t)

pub read_all-requires : goal.read_all-requires
read_all-requires c =
    let t = (goal.at.read_all-requires c).Else-not-both_roomy in (
      c.tables-tab.ensures,
      omega arith,
      less-wide (first t) (second t) (counted t) (roomy t) c.subtract.ensures,
      less-small (first t) (second t) (counted t) (roomy t) c.subtract.ensures,
    )

pub returns : goal.returns
returns c =
    let t = (goal.at.returns c).Else-not-both_roomy in
    estimate-ends (first t) (second t) (counted t) (roomy t) c.subtract.ensures 0 c.read_all.ensures.0 c.read_all.ensures.1
