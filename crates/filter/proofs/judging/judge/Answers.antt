-- `judging::judge` meets its contract: each early answer is the definition's at the test that failed. Assumes nothing.
use Rattle.bucket.proofs.TestLaws.{test_refused, test_granted}
use Rattle.std.proofs.Common.{ap}
use mathlib.Core.Bool.{not}
use Rattle.filter.proofs.judging.judge.Goals as goal

pub returns-then-not-all_zero : goal.returns-then-not-all_zero
returns-then-not-all_zero c = rw (test_refused c.all_zero.ensures (ap not c.if-not-all_zero.true))

pub returns-then-not-lists_agree : goal.returns-then-not-lists_agree
returns-then-not-lists_agree c = rw (
  test_granted c.all_zero.ensures (ap not c.if-not-all_zero.false),
  test_refused c.lists_agree.ensures (ap not c.if-not-lists_agree.true),
)

pub returns : goal.returns
returns c = rw (
  test_granted c.all_zero.ensures (ap not c.if-not-all_zero.false),
  test_granted c.lists_agree.ensures (ap not c.if-not-lists_agree.false),
)
