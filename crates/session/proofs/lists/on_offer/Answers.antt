-- `lists::on_offer` meets its contract: each answer is the turn's at the test that failed, and behind them the new hashes are stored and
-- demanded. Assumes nothing.
use mathlib.Core.Path.{refl, ap, ap₂, ◌∙◌}
use mathlib.Core.Bool.{Bool, ◌||◌}
use mathlib.Core.List.{List}
use Prim.Native.Nat.{ℕ, ◌+◌, ◌*◌, ◌≤◌}
use native.Mathlib.Omega.{arith}
use borrow.Author.Tests.{lt-ltb, le-ltb}
use lib.Dec.{eqb, ltb}
use lib.ListN.{take}
use lib.Seq.{length-take-le}
use Rattle.bucket.specs.Digits.{unpacked}
use Rattle.bucket.specs.Lists.{part}
use Rattle.ledger.specs.Grid.{ACTIVE}
use Rattle.std.specs.Prelude.{Result}
use Rattle.filter.specs.declared.answers.Refusal.{Refusal}
use Rattle.ledger.specs.declared.numbers.Answer.{Answer}
use Rattle.session.specs.Moves.{stored}
use Rattle.session.specs.Turns.{settled, offer_turn'}
use Rattle.session.proofs.SettledLaws.{handed_on}
use Rattle.session.proofs.ChunkLaws.{hashes_lent, lent-length}
use Rattle.session.proofs.SaidLaws.{items_short}
use Rattle.session.proofs.OfferSteps.{Found, found, offer_bad, offer-over, offer-taken}
use Rattle.session.proofs.lists.on_offer.Goals as goal
use Rattle.session.proofs.lists.on_offer.Goals.{In_ok-m, then-concerned-more-gt4096-via-then-concerned-more-gt4096, then-concerned-more-gt4096-via-else-concerned-more-gt4096+then-demanded-m-gt4096}

-- the hashes of the message
abbrev items : (n : ℕ) (message : List ℕ) → List ℕ
items n message = unpacked 512 n (part 4 (64 * n) message)

few : (c : In_ok-m) → c.in_ok-m.m ≤ 1023
few c = omega (arith, c.in_ok-m.ensures.few, lent-length 4 (64 * c.args.n) c.args.message.now c.requires.6, c.requires.7)

went : (c : In_ok-m) → let a = c.args in
    Found a.table.now (take (64 * a.numbers.demanded) a.records.now) (take a.numbers.inquired a.inquired.now) (eqb a.numbers.state ACTIVE) (items a.n a.message.now) c.in_ok-m.m c.new_all.new.hashes
went c = let a = c.args in
    found a.table.now (take (64 * a.numbers.demanded) a.records.now) (take a.numbers.inquired a.inquired.now) (eqb a.numbers.state ACTIVE) (items a.n a.message.now)
    (items_short a.n (part 4 (64 * a.n) a.message.now)) refl (few c) (rw (hashes_lent a.n a.message.now c.requires.6) at c.in_ok-m.ensures.walked)

pub returns-in_err-m : goal.returns-in_err-m
returns-in_err-m c = let a = c.args in
    ap (λ (r : Result Answer Refusal). offer_turn' (settled a.numbers r) (stored a.records.now a.marks.now) a.out.now) (handed_on c.from_residual.ensures c.in_err-m.ensures.walked.0)
    ∙ offer_bad a.numbers a.table.now (take (64 * a.numbers.demanded) a.records.now) (take a.numbers.inquired a.inquired.now) (items a.n a.message.now)
    a.concerned a.records.now a.marks.now a.out.now (rw (hashes_lent a.n a.message.now c.requires.6) at c.in_err-m.ensures.walked.1)

pub returns-then-concerned-more-gt4096 : goal.returns-then-concerned-more-gt4096
returns-then-concerned-more-gt4096 c = let a = c.args in
    let more = c.count_extra-more.result in
    offer-over a.numbers a.table.now (take (64 * a.numbers.demanded) a.records.now) (take a.numbers.inquired a.inquired.now) (items a.n a.message.now)
    a.concerned a.records.now a.marks.now a.out.now (went (goal.at.returns-then-concerned-more-gt4096 c).In_ok-m) c.count_extra-more.ensures.0
    (elim c.then-concerned-more-gt4096.branch [
      | then-concerned-more-gt4096-via-then-concerned-more-gt4096 w ↦
          ap (λ (t : Bool). t || ltb 4096 (a.numbers.demanded + c.in_ok-m.m)) (lt-ltb 4096 (a.concerned + more) w.if-concerned-more-gt4096.true)
      | then-concerned-more-gt4096-via-else-concerned-more-gt4096+then-demanded-m-gt4096 w ↦
          ap₂ ◌||◌ (le-ltb 4096 (a.concerned + more) w.if-concerned-more-gt4096.false) (lt-ltb 4096 (a.numbers.demanded + c.in_ok-m.m) w.if-demanded-m-gt4096.true)
    ])

pub send_demands-sent-requires : goal.send_demands-sent-requires
send_demands-sent-requires c = let at = (goal.at.send_demands-sent-requires c).In_ok-m in
    (omega (arith, length-take-le (64 * c.in_ok-m.m) c.new_all.new.hashes (omega (arith, few at, c.new_all.auto.hashes))), omega (arith, (went at).room, c.requires.8))

pub returns : goal.returns
returns c = let a = c.args in
    offer-taken a.numbers a.table.now (take (64 * a.numbers.demanded) a.records.now) (take a.numbers.inquired a.inquired.now) (items a.n a.message.now)
    a.concerned a.records.now a.marks.now a.out.now (went (goal.at.returns c).In_ok-m) c.count_extra-more.ensures.0
    (ap₂ ◌||◌ (le-ltb 4096 (a.concerned + c.count_extra-more.result) c.if-concerned-more-gt4096.false) (le-ltb 4096 (a.numbers.demanded + c.in_ok-m.m) c.if-demanded-m-gt4096.false))
    c.changed.ensures c.store_all.ensures c.send_demands-sent.ensures
