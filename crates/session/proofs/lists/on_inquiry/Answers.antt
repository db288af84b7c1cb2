-- `lists::on_inquiry` meets its contract: each answer is the turn's at the test that failed, and behind them the walk's marks and hashes are
-- put where they belong. Assumes nothing.
use mathlib.Core.Path.{sym, ap, ◌∙◌}
use mathlib.Core.List.{List}
use Prim.Native.Nat.{ℕ, ◌*◌, ◌≤◌}
use native.Mathlib.Omega.{arith}
use lib.ListN.{length, take}
use lib.Seq.{length-take-le}
use Rattle.bucket.specs.Digits.{unpacked}
use Rattle.bucket.specs.Lists.{over, part}
use Rattle.std.specs.Prelude.{Result}
use Rattle.filter.specs.declared.answers.Refusal.{Refusal}
use Rattle.ledger.specs.declared.numbers.Answer.{Answer}
use Rattle.session.specs.Turns.{settled, mark_turn}
use Rattle.session.proofs.SettledLaws.{handed_on}
use Rattle.session.proofs.ChunkLaws.{ids_lent, lent-length}
use Rattle.session.proofs.CopyLaws.{front_over}
use Rattle.session.proofs.InquirySteps.{Inquired, inquired, not-inquired, inquiry-salted, inquiry_bad, inquiry-taken}
use Rattle.session.proofs.lists.on_inquiry.Goals as goal
use Rattle.session.proofs.lists.on_inquiry.Goals.{In_ok-m}

-- the IDs of the message
abbrev ids : (n : ℕ) (message : List ℕ) → List ℕ
ids n message = unpacked 64 n (part 8 (8 * n) message)

went : (c : In_ok-m) → let a = c.args in
    Inquired a.table.now (take (64 * a.numbers.demanded) a.records.now) (ids a.n a.message.now) a.marks.now c.in_ok-m.m c.ask_all.new.marks c.ask_all.new.hashes
went c = let a = c.args in
    inquired a.table.now (take (64 * a.numbers.demanded) a.records.now) (ids a.n a.message.now) a.marks.now
    c.copy_from_slice.ensures.after c.requires.0.marks-room (omega arith) (rw (ids_lent a.n a.message.now c.requires.3) at c.in_ok-m.ensures)

-- the hashes gathered lie in their room
within : (c : In_ok-m) → 64 * c.in_ok-m.m ≤ length c.ask_all.new.hashes
within c = omega (arith, (went c).few, c.ask_all.auto.hashes)

pub returns-then-salt-numbers : goal.returns-then-salt-numbers
returns-then-salt-numbers c = let a = c.args in
    inquiry-salted a.numbers a.table.now (take (64 * a.numbers.demanded) a.records.now) a.salt (ids a.n a.message.now) a.marks.now a.out.now
    c.if-salt-numbers.true

pub copy_from_slice-requires : goal.copy_from_slice-requires
copy_from_slice-requires c = sym (length-take-le 8192 c.args.marks.now c.requires.0.marks-room)

pub ask_all-requires : goal.ask_all-requires
ask_all-requires c = (
  omega arith,
  omega (arith, lent-length 8 (8 * c.args.n) c.args.message.now c.requires.3),
  omega arith,
)

pub returns-in_err-m : goal.returns-in_err-m
returns-in_err-m c = let a = c.args in
    let known = take (64 * a.numbers.demanded) a.records.now in
    ap (λ (r : Result Answer Refusal). mark_turn (settled a.numbers r) a.marks.now a.out.now) (handed_on c.from_residual.ensures c.in_err-m.ensures.0)
    ∙ inquiry_bad a.numbers a.table.now known a.salt (ids a.n a.message.now) a.marks.now a.out.now c.if-salt-numbers.false
    (not-inquired a.table.now known (ids a.n a.message.now) a.marks.now c.copy_from_slice.ensures.after (rw (ids_lent a.n a.message.now c.requires.3) at c.in_err-m.ensures.1))

pub overflow_mul-hashes : goal.overflow_mul-hashes
overflow_mul-hashes c = omega (arith, (went (goal.at.overflow_mul-hashes c).In_ok-m).few)

pub slice_bounds-hashes-end : goal.slice_bounds-hashes-end
slice_bounds-hashes-end c = within (goal.at.slice_bounds-hashes-end c).In_ok-m

pub slice_bounds-send_offers-end : goal.slice_bounds-send_offers-end
slice_bounds-send_offers-end c = sym (length-take-le (64 * c.in_ok-m.m) c.ask_all.new.hashes (within (goal.at.slice_bounds-send_offers-end c).In_ok-m))

pub send_offers-sent-requires : goal.send_offers-sent-requires
send_offers-sent-requires c = let at = (goal.at.send_offers-sent-requires c).In_ok-m in
    (omega (arith, length-take-le (64 * c.in_ok-m.m) c.ask_all.new.hashes (within at)), omega (arith, (went at).room, c.requires.4))

pub returns : goal.returns
returns c = let a = c.args in
    let at = (goal.at.returns c).In_ok-m in
    inquiry-taken a.numbers a.table.now (take (64 * a.numbers.demanded) a.records.now) a.salt (ids a.n a.message.now) a.marks.now a.out.now
    c.if-salt-numbers.false (went at) c.changed.ensures
    (front_over 8192 c.copy_from_slice-2.new.self a.marks.now (ap length c.copy_from_slice-2.ensures.after ∙ (went at).long)
    ∙ ap (λ (l : List ℕ). over 0 l a.marks.now) c.copy_from_slice-2.ensures.after)
    c.send_offers-sent.ensures
