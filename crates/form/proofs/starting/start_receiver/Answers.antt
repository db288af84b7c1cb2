-- `starting::start_receiver` meets its contract: each early answer is the definition's at the test that failed, and behind them the table's
-- marks are cleared. Assumes nothing.
use mathlib.Core.Path.{sym, ◌∙◌}
use native.Mathlib.Omega.{arith}
use Prim.Native.Nat.{◌≤◌}
use lib.ListN.{length}
use lib.Seq.{length-take-le}
use Rattle.form.proofs.JudgeLaws.{table-few}
use Rattle.form.proofs.StartLaws.{cleared, receiver_no_table, receiver_no_room, receiver_starts}
use Rattle.form.proofs.starting.start_receiver.Goals as goal
use Rattle.form.proofs.starting.start_receiver.Goals.{After-count}

-- the table's marks are there
few : (c : After-count) → c.count.result ≤ length c.args.marks.now
few c = let t = c.args.table.now in omega (arith, c.count.ensures, table-few t (sym c.is_table.ensures ∙ c.if-not-is_table.false))

pub returns-then-not-is_table : goal.returns-then-not-is_table
returns-then-not-is_table c = let a = c.args in
    receiver_no_table a.table.now a.marks.now (sym c.is_table.ensures ∙ c.if-not-is_table.true) c.no_session.ensures

pub returns-then-marks-lt8192 : goal.returns-then-marks-lt8192
returns-then-marks-lt8192 c = let a = c.args in
    receiver_no_room a.table.now a.marks.now (sym c.is_table.ensures ∙ c.if-not-is_table.false) (omega arith) c.no_session-then-marks-lt8192.ensures

pub slice_bounds-fill-end : goal.slice_bounds-fill-end
slice_bounds-fill-end c = few (goal.at.slice_bounds-fill-end c).After-count

pub slice_bounds-fill-end-2 : goal.slice_bounds-fill-end-2
slice_bounds-fill-end-2 c = sym (length-take-le c.count.result c.args.marks.now (few (goal.at.slice_bounds-fill-end-2 c).After-count))

pub returns : goal.returns
returns c =  -- behind the two tests
    let a = c.args in
    receiver_starts a.table.now a.marks.now (sym c.is_table.ensures ∙ c.if-not-is_table.false) (omega arith) c.fresh.ensures c.answered.ensures c.count.ensures
    (cleared c.count.result a.marks.now c.fill.new.self (few (goal.at.returns c).After-count) (c.fill.ensures.after (λ y e. e)))
