-- `writing::hashes_as` meets its contract: each early answer is the definition's at the test that failed, and behind them the hashes are put.
-- Assumes nothing.
use mathlib.Core.Path.{ap, ◌∙◌}
use native.Mathlib.Omega.{arith}
use borrow.Author.Tests.{leb-true}
use lib.ListN.{length}
use Rattle.filter.proofs.TableLaws.{hashes-length}
use Rattle.message.specs.Kinds.{type_of}
use Rattle.message.specs.Writing.{write}
use Rattle.message.proofs.OfferLaws.{hashes_torn, hashes-refused, hashes-written}
use Rattle.message.proofs.WriteLaws.{handed-on, room-there}
use Rattle.message.proofs.writing.hashes_as.Goals as goal

pub returns-then-hashes-ne0 : goal.returns-then-hashes-ne0
returns-then-hashes-ne0 c = λ say says. let a = c.args in hashes_torn say (type_of a.kind) says a.hashes.now a.at a.out.now c.if-hashes-ne0.true

pub returns-in_err-end : goal.returns-in_err-end
returns-in_err-end c = λ say says. let a = c.args in
    ap (λ r. write r a.out.now) (handed-on c.from_residual.ensures)
    ∙ hashes-refused say (type_of a.kind) says a.hashes.now a.at a.out.now c.if-hashes-ne0.false c.hashes_bytes.ensures c.room_for.ensures c.in_err-end.was

pub put_offers-requires : goal.put_offers-requires
put_offers-requires c =
    let a = c.args in
    let t = room-there a.at c.hashes_bytes.result (length a.out.now) c.room_for.ensures c.in_ok-end.was in
    (c.if-hashes-ne0.false, omega (arith, hashes-length a.hashes.now, leb-true _ _ t.0))

pub returns : goal.returns
returns c = λ say says. let a = c.args in
    hashes-written say (type_of a.kind) says a.hashes.now a.at a.out.now c.if-hashes-ne0.false c.hashes_bytes.ensures c.room_for.ensures c.in_ok-end.was c.put_offers.ensures
