-- `session::ends::last_element` meets its contract: each return leaves what the step on an ELEMENT does. Assumes nothing.
use Rattle.std.proofs.Common.{cond}
use Rattle.std.proofs.Common.{rules}
use Rattle.std.specs.Cmp.Lexicographic.{pointwise}
use mathlib.Core.Path.{◌≡◌, sym, ap, ◌∙◌}
use mathlib.Core.Bool.{Bool, false, not, ◌&&◌}
use lib.Bits.{bit_xor}
use lib.ListN.{take}
use lib.Dec.{eqb}
use Rattle.bucket.specs.Lists.{part}
use Rattle.bucket.proofs.OverLaws.{part_length}
use Rattle.message.proofs.WholeLaws.{part-below}
use Rattle.bucket.specs.Digits.{joined}
use Rattle.bucket.proofs.TestLaws.{and_fails, and_holds, cond-made, cond-kept}
use Rattle.ledger.specs.Calls.{given}
use Rattle.session.specs.Ready.{Sum}
use Rattle.session.proofs.CheckBytes.{check_in, check-made, sum_same}
use Rattle.session.proofs.ElementLaws.{last_differs, last_sends}
use Rattle.session.proofs.ends.last_element.Goals as goal
use Rattle.session.proofs.ends.last_element.Goals.{then-last-2, else-last-2, else-last-via-then-last+else-ne, else-last-via-else-last}
use Rattle.session.proofs.ends.last_element.Goals.{After-xor_into}

-- the checksum with the element
sum : (c : After-xor_into) → let a = c.args in
    Sum (bit_xor (check_in a.table.now a.numbers.demanded a.records.now a.marks.now) (joined 8 (take 64 a.hash.now))) c.xor_into.new.acc
sum c = let a = c.args in
    c.xor_into.ensures (check_in a.table.now a.numbers.demanded a.records.now a.marks.now)
    (check-made a.table.now a.numbers.demanded a.records.now a.marks.now c.checksum-check.result c.checksum-check.ensures)

-- and whether it is the one that came
compared : (c : After-xor_into) → pointwise eqb (part 262144 64 c.args.records.now) c.xor_into.new.acc
    ≡ eqb (joined 8 (part 262144 64 c.args.records.now)) (joined 8 (take 64 c.xor_into.new.acc))
compared c = let a = c.args in
    sum_same (part 262144 64 a.records.now) _ c.xor_into.new.acc (part_length 262144 a.records.now 64 c.requires.1) (part-below 262144 64 a.records.now (λ i. search rules)) (sum c)

pub returns-then-ne : goal.returns-then-ne
returns-then-ne c = λ I message ours theirs bytes cols s timely u at ends says.
    let a = c.args in
    let here = (goal.at.returns-then-ne c).After-xor_into in
    let G = given a.numbers a.table.now a.records.now a.marks.now I cols ours theirs a.hash.now message a.out.now in
    last_differs G s timely bytes u ends c.xor_into.new.acc (sum here) (compared here) (and_holds c.if-last.true (sym c.ne.ensures ∙ c.if-ne.true))

pub returns : goal.returns
returns c = λ I message ours theirs bytes cols s timely u at ends says.
    let a = c.args in
    let here = (goal.at.returns c).After-xor_into in
    let G = given a.numbers a.table.now a.records.now a.marks.now I cols ours theirs a.hash.now message a.out.now in
    let same = pointwise eqb (part 262144 64 a.records.now) c.xor_into.new.acc in
    let next : c.if-last-2.next ≡ cond a.last 6 a.numbers.state = elim c.if-last-2.branch [
      | then-last-2 w ↦ w.next-is ∙ cond-made 6 a.numbers.state w.if-last-2.true
      | else-last-2 w ↦ w.next-is ∙ cond-kept 6 a.numbers.state w.if-last-2.false
    ] in
    let fine : a.last && not same ≡ false = elim c.else-last.branch [
      | else-last-via-then-last+else-ne w ↦ and_fails a.last (sym w.ne.ensures ∙ w.if-ne.false)
      | else-last-via-else-last w ↦ ap (λ (t : Bool). t && not same) w.if-last.false
    ] in
    last_sends G s timely bytes u ends c.xor_into.new.acc (sum here) (compared here) fine at says c.send_done-sent.ensures next c.changed.ensures
