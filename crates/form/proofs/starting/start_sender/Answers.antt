-- `starting::start_sender` meets its contract: each early answer is the definition's at the test that failed, and behind them the table's marks
-- are cleared and its filter is written. Assumes nothing.
use mathlib.Core.Path.{◌≡◌, sym, ◌∙◌}
use native.Mathlib.Nat.{zero-add}
use native.Mathlib.Omega.{arith}
use Prim.Native.Nat.{◌≤◌}
use lib.ListN.{length}
use lib.Seq.{length-take-le}
use Rattle.filter.specs.Table.{first_eight, ids_of}
use Rattle.message.specs.Writing.{write}
use Rattle.ledger.specs.Session.{own_filter}
use Rattle.ledger.proofs.SendLaws.{written, not_refused, sent_to}
use Rattle.form.proofs.JudgeLaws.{table-few}
use Rattle.form.proofs.SendingLaws.{own_filter_there}
use Rattle.form.proofs.StartLaws.{cleared, sender_no_table, sender-out_of_range, sender_no_room, sender_starts}
use Rattle.form.proofs.starting.start_sender.Goals as goal
use Rattle.form.proofs.starting.start_sender.Goals.{After-count, After-send_filter}

-- the table's marks are there
few : (c : After-count) → c.count.result ≤ length c.args.marks.now
few c = let t = c.args.table.now in omega (arith, c.count.ensures, table-few t (sym c.is_table.ensures ∙ c.if-not-is_table.false))

pub returns-then-not-is_table : goal.returns-then-not-is_table
returns-then-not-is_table c = let a = c.args in
    sender_no_table a.size a.salt a.table.now a.marks.now a.out.now (sym c.is_table.ensures ∙ c.if-not-is_table.true) c.no_session.ensures

pub returns-then-not-in_range : goal.returns-then-not-in_range
returns-then-not-in_range c = let a = c.args in
    sender-out_of_range a.size a.salt a.table.now a.marks.now a.out.now
    (sym c.is_table.ensures ∙ c.if-not-is_table.false) (sym c.in_range.ensures ∙ c.if-not-in_range.true) c.no_session-then-not-in_range.ensures

pub returns-then-marks-lt8192 : goal.returns-then-marks-lt8192
returns-then-marks-lt8192 c = let a = c.args in
    sender_no_room a.size a.salt a.table.now a.marks.now a.out.now
    (sym c.is_table.ensures ∙ c.if-not-is_table.false) (sym c.in_range.ensures ∙ c.if-not-in_range.false)
    c.then-marks-lt8192.either c.no_session-then-marks-lt8192.ensures

pub slice_bounds-fill-end : goal.slice_bounds-fill-end
slice_bounds-fill-end c = few (goal.at.slice_bounds-fill-end c).After-count

pub slice_bounds-fill-end-2 : goal.slice_bounds-fill-end-2
slice_bounds-fill-end-2 c = sym (length-take-le c.count.result c.args.marks.now (few (goal.at.slice_bounds-fill-end-2 c).After-count))

-- behind the three tests the filter is written
went : (c : After-send_filter) → let a = c.args in write c.send_filter.result c.send_filter.new.out ≡ written (own_filter (ids_of first_eight a.table.now) a.size a.salt) 0 a.out.now
went c = let a = c.args in
    own_filter_there a.table.now a.size a.salt a.out.now
    (sym c.is_table.ensures ∙ c.if-not-is_table.false) (sym c.in_range.ensures ∙ c.if-not-in_range.false) (omega (arith, c.if-out-lt295008.false)) c.send_filter.ensures

pub unwrap-sent-requires : goal.unwrap-sent-requires
unwrap-sent-requires c = let a = c.args in
    not_refused (own_filter (ids_of first_eight a.table.now) a.size a.salt) 0 a.out.now (went (goal.at.unwrap-sent-requires c).After-send_filter)

pub returns : goal.returns
returns c =  -- behind the three tests
    let a = c.args in
    let table = sym c.is_table.ensures ∙ c.if-not-is_table.false in
    let range = sym c.in_range.ensures ∙ c.if-not-in_range.false in
    let sent = sent_to (own_filter (ids_of first_eight a.table.now) a.size a.salt) 0 a.out.now (went (goal.at.returns c).After-send_filter) c.unwrap-sent.ensures in
    sender_starts a.size a.salt a.table.now a.marks.now a.out.now table range c.if-marks-lt8192.false c.if-out-lt295008.false
    c.fresh.ensures c.answered.ensures c.count.ensures
    (cleared c.count.result a.marks.now c.fill.new.self (few (goal.at.returns c).After-count) (c.fill.ensures.after (λ y e. e)))
    (sent.0 ∙ zero-add _) sent.1
