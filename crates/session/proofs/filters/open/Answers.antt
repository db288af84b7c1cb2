-- `filters::open` meets its contract: behind the messages of `tell` DONE goes exactly if theirs is empty. Assumes nothing.
use mathlib.Core.Path.{refl, sym, ap, ◌∙◌}
use mathlib.Core.List.{[], ◌∷◌, foldr}
use Prim.Native.Nat.{ℕ, ◌+◌}
use native.Mathlib.Omega.{arith}
use lib.Bits.{bit_xor}
use borrow.Author.Tests.{eqb-true, eqb-false}
use lib.ListN.{length}
use Rattle.bucket.specs.Lists.{over, part}
use Rattle.filter.specs.Table.{hashes_of}
use Rattle.message.specs.Layout.{done}
use Rattle.message.specs.Writing.{layouts}
use Rattle.message.proofs.WholeLaws.{whole_length}
use Rattle.ledger.specs.Calls.{answered}
use Rattle.session.specs.Moves.{check_of}
use Rattle.ledger.proofs.RoomLaws.{done-length}
use Rattle.session.proofs.OpenTurns.{sent_then, told-room, table-check, nothing_known, opened-none, opened_some}
use Rattle.session.proofs.filters.open.Goals as goal

pub invariant_of-tables : goal.invariant_of-tables
invariant_of-tables c = record { table_good = c.requires.0.table-good; known_good = nothing_known }

pub checksum-check-requires : goal.checksum-check-requires
checksum-check-requires c = omega (arith, c.requires.0.marks-room, c.tell-sent.auto.marks)

pub send_done-end-requires : goal.send_done-end-requires
send_done-end-requires c = let told = c.tell-sent in
    let a = c.args in (
      omega (arith, ap length c.checksum-check.ensures, whole_length 64 (check_of (hashes_of a.table.now) (hashes_of []) (part 4096 (length (hashes_of [])) told.new.marks) ∷ [])),
      omega (arith, told.ensures.2.count, told-room a.salt a.table.now a.ours.now a.theirs.now c.requires.1 c.requires.2, told.auto.out, c.requires.5),
    )

pub returns-then-is_empty : goal.returns-then-is_empty
returns-then-is_empty c = let told = c.tell-sent in
    let ended = c.send_done-end in
    let a = c.args in
    let check = table-check a.table.now (part 4096 (length (hashes_of [])) told.new.marks) c.checksum-check.result c.checksum-check.ensures in
    opened-none a.numbers a.table.now a.size a.salt a.ours.now a.theirs.now a.marks.now a.inquired.now a.out.now
    told.ensures.0 told.ensures.1 (sym (eqb-true (length a.theirs.now) 0 (sym c.is_empty.ensures ∙ c.if-is_empty.true)))
    (sent_then (done (foldr bit_xor 0 (hashes_of a.table.now)) ∷ []) told.ensures.2
    (omega (arith, told-room a.salt a.table.now a.ours.now a.theirs.now c.requires.1 c.requires.2, done-length (foldr bit_xor 0 (hashes_of a.table.now)), c.requires.5))
    (ended.ensures.0 ∙ ap (λ (x : ℕ). told.result + length (layouts (done x ∷ []))) check)
    (ended.ensures.1 ∙ ap (λ (x : ℕ). over told.result (layouts (done x ∷ [])) told.new.out) check))
    (c.answered.ensures ∙ ap (answered 0 ended.result 0) c.opened.ensures)

pub returns : goal.returns
returns c = let told = c.tell-sent in
    let a = c.args in
    opened_some a.numbers a.table.now a.size a.salt a.ours.now a.theirs.now a.marks.now a.inquired.now a.out.now
    told.ensures.0 told.ensures.1 refl (eqb-false (length a.theirs.now) 0 (sym c.is_empty.ensures ∙ c.if-is_empty.false)) told.ensures.2
    (c.answered-2.ensures ∙ ap (answered 0 told.result 0) c.opened-2.ensures)
