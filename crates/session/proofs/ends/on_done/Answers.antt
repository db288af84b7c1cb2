-- `session::ends::on_done` meets its contract: each return leaves what the step on a DONE does. Assumes nothing.
use mathlib.Core.Path.{◌≡◌, sym, ◌∙◌}
use mathlib.Core.List.{List}
use Prim.Native.Nat.{ℕ, ◌+◌}
use lib.Dec.{eqb}
use lib.ListN.{length, take}
use Rattle.bucket.specs.Digits.{joined}
use Rattle.bucket.specs.Lists.{over, part}
use Rattle.bucket.proofs.OverLaws.{over-part, part_length}
use Rattle.message.proofs.WholeLaws.{part-below}
use Rattle.session.proofs.CheckBytes.{check-made, sum_same}
use Rattle.std.specs.Cmp.Lexicographic.{pointwise}
use borrow.Author.Tests.{eq-eqb, ne_eqb}
use Rattle.ledger.specs.Calls.{given}
use Rattle.session.proofs.DoneLaws.{done-early, done-waits, done_differs, done_answers, done-ends}
use Rattle.std.proofs.Common.{ap, rules}
use Rattle.session.proofs.ends.on_done.Goals as goal
use Rattle.session.proofs.ends.on_done.Goals.{After-checksum-check}

-- whether our checksum is the one that came
compared : (c : After-checksum-check) → pointwise eqb (part 4 64 c.args.message.now) c.checksum-check.result
    ≡ eqb (joined 8 (part 4 64 c.args.message.now)) (joined 8 (take 64 c.checksum-check.result))
compared c = let a = c.args in
    sum_same (part 4 64 a.message.now) _ c.checksum-check.result (part_length 4 a.message.now 64 c.requires.3) (part-below 4 64 a.message.now (λ i. search rules))
    (check-made a.table.now a.numbers.demanded a.records.now a.marks.now c.checksum-check.result c.checksum-check.ensures)

pub returns-then-numbers : goal.returns-then-numbers
returns-then-numbers c = λ I hash ours theirs cols s timely count.
    let a = c.args in
    let G = given a.numbers a.table.now a.records.now a.marks.now I cols ours theirs hash a.message.now a.out.now in
    done-early G s timely a.unmet count c.if-numbers.true

pub returns-then-numbers-unmet : goal.returns-then-numbers-unmet
returns-then-numbers-unmet c = λ I hash ours theirs cols s timely count.
    let a = c.args in
    let G = given a.numbers a.table.now a.records.now a.marks.now I cols ours theirs hash a.message.now a.out.now in
    done-waits G s timely a.unmet count c.if-numbers.false c.requires.3 c.if-numbers-unmet.true
    (over-part 262144 262208 c.copy_from_slice.new.self a.records.now (ap (λ (n : ℕ). 262144 + n) (ap length c.copy_from_slice.ensures.after ∙ part_length 4 a.message.now 64 c.requires.3))
    ∙ ap (λ (bs : List ℕ). over 262144 bs a.records.now) c.copy_from_slice.ensures.after) c.changed.ensures

pub returns-then-ne : goal.returns-then-ne
returns-then-ne c = λ I hash ours theirs cols s timely count.
    let a = c.args in
    let G = given a.numbers a.table.now a.records.now a.marks.now I cols ours theirs hash a.message.now a.out.now in
    done_differs G s timely a.unmet count c.if-numbers.false c.if-numbers-unmet.false c.checksum-check.result c.checksum-check.ensures
    (compared (goal.at.returns-then-ne c).After-checksum-check) (sym c.ne.ensures ∙ c.if-ne.true)

pub returns-then-numbers-eq-PASSIVE : goal.returns-then-numbers-eq-PASSIVE
returns-then-numbers-eq-PASSIVE c = λ I hash ours theirs cols s timely count.
    let a = c.args in
    let G = given a.numbers a.table.now a.records.now a.marks.now I cols ours theirs hash a.message.now a.out.now in
    done_answers G s timely a.unmet count c.if-numbers.false c.if-numbers-unmet.false c.checksum-check.result c.checksum-check.ensures
    (compared (goal.at.returns-then-numbers-eq-PASSIVE c).After-checksum-check) (sym c.ne.ensures ∙ c.if-ne.false) (eq-eqb a.numbers.state 3 c.if-numbers-eq-PASSIVE.true)
    c.send_done-sent.ensures c.changed-then-numbers-eq-PASSIVE.ensures

pub returns : goal.returns
returns c = λ I hash ours theirs cols s timely count.
    let a = c.args in
    let G = given a.numbers a.table.now a.records.now a.marks.now I cols ours theirs hash a.message.now a.out.now in
    done-ends G s timely a.unmet count c.if-numbers.false c.if-numbers-unmet.false c.checksum-check.result c.checksum-check.ensures
    (compared (goal.at.returns c).After-checksum-check) (sym c.ne.ensures ∙ c.if-ne.false) (ne_eqb a.numbers.state 3 c.if-numbers-eq-PASSIVE.false) c.changed-2.ensures
