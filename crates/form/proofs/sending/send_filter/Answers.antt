-- `sending::send_filter` meets its contract: what is built in blank columns is the table's filter, and it is written whole. Assumes nothing.
use mathlib.Core.Path.{ap, ◌∙◌, refl}
use Rattle.std.specs.Prelude.{None, Some}
use Rattle.message.specs.Writing.{write, wrote}
use Rattle.message.proofs.WriteLaws.{handed-on}
use Rattle.ledger.proofs.FilterRoomLaws.{own_filter_sent}
use Rattle.form.proofs.SendingLaws.{own_by, own-granted}
use Rattle.form.proofs.sending.send_filter.Goals as goal

pub returns-in_err-build : goal.returns-in_err-build
unfolding wrote
returns-in_err-build c = let a = c.args in
    let why = c.in_err-build.field-0.0 in
    ap (λ r. write r a.out.now) (handed-on c.from_residual.ensures)
    ∙ own_by a.table.now a.size a.salt a.out.now (Some why) (rw c.in_err-build.was at c.build.ensures) c.if-out-lt65568.false

pub returns : goal.returns
unfolding wrote
returns c = let a = c.args in
    let b = rw c.in_ok-build.was at c.build.ensures in
    let g = own-granted a.table.now a.size a.salt a.out.now None b refl in
    own_filter_sent a.table.now a.size a.salt a.out.now g.0 g.1 c.if-out-lt65568.false b c.filter.ensures
    ∙ own_by a.table.now a.size a.salt a.out.now None b c.if-out-lt65568.false
