-- `filters::on_last` meets its contract: a slice that the grid admits and that is placed is read, and what follows is the turn's. Assumes nothing.
use mathlib.Core.Path.{◌≡◌, refl, sym, subst, ap, ◌∙◌}
use mathlib.Core.Bool.{true, not}
use native.Mathlib.Nat.{zero-add}
use native.Mathlib.Omega.{arith}
use Rattle.bucket.proofs.TestLaws.{test_refused, test_granted}
use Rattle.filter.specs.Answers.{number_of}
use Rattle.filter.specs.Calls.{in_range}
use Rattle.std.proofs.Common.{rules}
use Rattle.filter.specs.Table.{first_eight, ids_of}
use Rattle.filter.proofs.PartLaws.{range-sound}
use Rattle.message.specs.Writing.{write}
use Rattle.ledger.specs.declared.numbers.Numbers.{Numbers}
use Rattle.ledger.specs.Session.{own_filter}
use Rattle.ledger.proofs.FilterRoomLaws.{next_in_range}
use Rattle.ledger.proofs.SendLaws.{written, not_refused, sent_to}
use Rattle.form.specs.Answers.{admits_slice, is_placed}
use Rattle.form.proofs.SendingLaws.{own_filter_there}
use Rattle.std.specs.Prelude.{Result}
use Rattle.bucket.specs.Columns.{columns}
use Rattle.filter.specs.declared.answers.Refusal.{Refusal}
use Rattle.ledger.specs.declared.numbers.Answer.{Answer}
use Rattle.session.specs.Turns.{settled, last_turn', untouched}
use Rattle.session.proofs.SettledLaws.{handed_on}
use Rattle.session.proofs.LastTurns.{last_untimely, last_misplaced, last_whole, last_stops, opens_ready, last_opens, swaps_ready, last_swaps}
use lib.Seq.{length-take-le}
use Rattle.session.proofs.filters.on_last.Goals as goal
use Rattle.session.proofs.filters.on_last.Goals.{Else-not-is_placed, After-send_filter}

pub returns-then-not-admits_slice : goal.returns-then-not-admits_slice
returns-then-not-admits_slice c = last_untimely c.requires (test_refused (c.admits_slice.ensures ∙ ap (admits_slice c.args.numbers) c.column.ensures) (ap not c.if-not-admits_slice.true))

pub returns-then-not-is_placed : goal.returns-then-not-is_placed
returns-then-not-is_placed c = last_misplaced c.requires (test_granted (c.admits_slice.ensures ∙ ap (admits_slice c.args.numbers) c.column.ensures) (ap not c.if-not-admits_slice.false)) (test_refused c.is_placed.ensures (ap not c.if-not-is_placed.true))

pub read_whole-requires : goal.read_whole-requires
read_whole-requires c = last_whole c.requires (test_granted c.is_placed.ensures (ap not c.if-not-is_placed.false))

-- behind both tests
timely : (c : Else-not-is_placed) → let a = c.args in (admits_slice a.numbers 1 ≡ true) × (is_placed a.numbers a.slice.size a.slice.offset a.slice.salt a.slice.width ≡ true)
timely c = (test_granted (c.admits_slice.ensures ∙ ap (admits_slice c.args.numbers) c.column.ensures) (ap not c.if-not-admits_slice.false), test_granted c.is_placed.ensures (ap not c.if-not-is_placed.false))

pub returns-in_err-fate : goal.returns-in_err-fate
returns-in_err-fate c = let a = c.args in
    let n = c.read_whole.new in
    let t = timely (goal.at.returns-in_err-fate c).Else-not-is_placed in
    ap (λ (r : Result Answer Refusal). last_turn' (settled a.numbers r) a.marks.now a.inquired.now (untouched (columns n.ids n.hashes n.counts) n.ours n.theirs) a.out.now)
    (handed_on c.from_residual.ensures refl)
    ∙ last_stops c.requires c.in_err-fate.ensures t.0 t.1

-- the lists are as long as the reading says
pub slice_bounds-ours-end : goal.slice_bounds-ours-end
slice_bounds-ours-end c = (opens_ready c.requires (rw c.in-Opens.is at c.in_ok-fate.ensures)).1

pub slice_bounds-theirs-end : goal.slice_bounds-theirs-end
slice_bounds-theirs-end c = (opens_ready c.requires (rw c.in-Opens.is at c.in_ok-fate.ensures)).2

pub slice_bounds-ours-end-in-Opens : goal.slice_bounds-ours-end-in-Opens
slice_bounds-ours-end-in-Opens c = sym (length-take-le _ _ (opens_ready c.requires (rw c.in-Opens.is at c.in_ok-fate.ensures)).1)

pub slice_bounds-theirs-end-in-Opens : goal.slice_bounds-theirs-end-in-Opens
slice_bounds-theirs-end-in-Opens c = sym (length-take-le _ _ (opens_ready c.requires (rw c.in-Opens.is at c.in_ok-fate.ensures)).2)

pub open-requires : goal.open-requires
open-requires c =
    let o = opens_ready c.requires (rw c.in-Opens.is at c.in_ok-fate.ensures) in (
      o.0,
      omega (arith, o.3, length-take-le _ _ o.1),
      omega (arith, o.4, length-take-le _ _ o.2),
      o.5,
      o.6,
      o.7,
    )

pub returns-in-Opens : goal.returns-in-Opens
returns-in-Opens c = let t = timely (goal.at.returns-in-Opens c).Else-not-is_placed in
    last_opens c.requires (rw c.in-Opens.is at c.in_ok-fate.ensures) t.0 t.1 c.open.ensures

pub swapped-next-requires : goal.swapped-next-requires
swapped-next-requires c = swaps_ready c.requires (rw c.in-Swaps.is at c.in_ok-fate.ensures)

-- our own filter goes
went : (c : After-send_filter)
    → let a = c.args in
    let n = c.swapped-next.result in
    write c.send_filter.result c.send_filter.new.out ≡ written (own_filter (ids_of first_eight a.table.now) n.size n.salt) 0 a.out.now
went c = let a = c.args in
    let n = c.swapped-next in
    let r = range-sound a.slice.size a.slice.salt c.requires.range in
    own_filter_there a.table.now n.result.size n.result.salt a.out.now c.requires.table-good
    (subst (λ (m : Numbers). in_range m.size m.salt ≡ true) (sym n.ensures) (next_in_range a.slice.size a.slice.salt r.least r.salt_in)) (omega (arith, c.requires.out-room))
    c.send_filter.ensures

pub unwrap-sent-requires : goal.unwrap-sent-requires
unwrap-sent-requires c = let n = c.swapped-next.result in
    not_refused (own_filter (ids_of first_eight c.args.table.now) n.size n.salt) 0 c.args.out.now (went (goal.at.unwrap-sent-requires c).After-send_filter)

pub returns-in-Swaps : goal.returns-in-Swaps
returns-in-Swaps c = let a = c.args in
    let n = c.swapped-next.result in
    let t = timely (goal.at.returns-in-Swaps c).Else-not-is_placed in
    let sent = sent_to (own_filter (ids_of first_eight a.table.now) n.size n.salt) 0 a.out.now (went (goal.at.returns-in-Swaps c).After-send_filter) c.unwrap-sent.ensures in
    let m : c.map_or.result ≡ number_of c.in-Swaps.beside = search rules in
    rw m (last_swaps c.requires (rw c.in-Swaps.is at c.in_ok-fate.ensures) t.0 t.1 c.swapped-next.ensures (sent.0 ∙ zero-add _) sent.1)
