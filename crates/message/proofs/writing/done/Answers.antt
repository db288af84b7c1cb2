-- `writing::done` meets its contract: where there is no room the answer is the definition's. Assumes nothing.
use mathlib.Core.Path.{ap, ◌∙◌}
use native.Mathlib.Omega.{arith}
use borrow.Author.Tests.{le-leb, leb-true}
use lib.ListN.{length, take}
use lib.Seq.{length-take-le}
use Rattle.std.specs.Prelude.{Err}
use Rattle.bucket.specs.Digits.{joined}
use Rattle.message.specs.Layout.{done}
use Rattle.message.specs.Writing.{write, wrote, done_call}
use Rattle.message.proofs.SizeLaws.{done_size}
use Rattle.message.proofs.WriteLaws.{handed-on, room-short, room-there, room_tested}
use Rattle.std.proofs.Common.{◌∷◌, []}
use Rattle.message.proofs.writing.done.Goals as goal

pub returns-in_err-end : goal.returns-in_err-end
unfolding done_call wrote
returns-in_err-end c =
    let a = c.args in
    let x = joined 8 (take 64 a.check.now) in
    let k = room-short a.at 68 (length a.out.now) c.room_for.ensures c.in_err-end.was in
    rw (le-leb 64 (length a.check.now) (omega arith), room_tested (done x ∷ []) a.at a.out.now 68 (done_size x) k.0) (ap (λ r. write r a.out.now) (handed-on c.from_residual.ensures ∙ ap Err k.1))

pub put_framed-requires : goal.put_framed-requires
put_framed-requires c =
    let a = c.args in
    let size = length-take-le 64 a.check.now (omega arith) in
    omega (arith, size, leb-true _ _ (room-there a.at 68 (length a.out.now) c.room_for.ensures c.in_ok-end.was).0)
