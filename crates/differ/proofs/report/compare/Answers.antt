-- `differ::report::compare` meets its contract: each refusal is printed where its test fails, tables before the size. Assumes nothing.
use native.Mathlib.Omega.{arith}
use borrow.Author.Tests.{not-true, not-false}
use Rattle.bucket.proofs.TestLaws.{test_refused, test_granted}
use Rattle.differ.proofs.TextLaws.{writes_as}
use Rattle.differ.proofs.ReportLaws.{refusal-fits, compared-form, compared-range, compared-shown}
use Rattle.std.proofs.Common.{ap}
use mathlib.Core.Bool.{not}
use Rattle.differ.proofs.report.compare.Goals as goal

pub put_refusal-requires : goal.put_refusal-requires
put_refusal-requires c = omega (arith, refusal-fits 1 (omega arith))

pub returns-then-not-are_tables : goal.returns-then-not-are_tables
returns-then-not-are_tables c = writes_as (compared-form c.args.size _ _ (test_refused c.are_tables.ensures (ap not c.if-not-are_tables.true))) c.put_refusal.ensures

pub put_refusal-requires-then-not-size : goal.put_refusal-requires-then-not-size
put_refusal-requires-then-not-size c = omega (arith, refusal-fits 3 (omega arith))

pub returns-then-not-size : goal.returns-then-not-size
returns-then-not-size c = writes_as
    (compared-range c.args.size _ _ (test_granted c.are_tables.ensures (ap not c.if-not-are_tables.false)) (not-true _ (ap not c.if-not-size.true)))
    c.put_refusal-then-not-size.ensures

pub show-requires : goal.show-requires
show-requires c = (test_granted c.are_tables.ensures (ap not c.if-not-are_tables.false), not-false _ (ap not c.if-not-size.false), omega arith)

pub returns : goal.returns
returns c = writes_as
    (compared-shown c.args.size _ _ (test_granted c.are_tables.ensures (ap not c.if-not-are_tables.false)) (not-false _ (ap not c.if-not-size.false)))
    c.show.ensures
