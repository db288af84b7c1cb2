use Rattle.std.proofs.Common.{◌∙◌, arith}
use Rattle.message.proofs.CutLaws.{cutting_next, cutting_end}
use Rattle.message.proofs.WriteLaws.{inquiry-length}
use Rattle.message.proofs.lists.put_inquiries.Goals as goal

pub loop-piece-preserved : goal.loop-piece-preserved
loop-piece-preserved c = let k = c.loop-piece.invariant in
    let cut = c.in-Some.ensures.steps in
    let put = c.put_inquiry-p.ensures in
    (cut.0 ∙ k.0, cutting_next (omega arith) k.1 _ _ cut.1.0 (rw k.0 at cut.1.1) cut.1.2 (inquiry-length c.args.salt) put.next put.put)

pub returns : goal.returns
returns c = cutting_end (omega arith) c.loop-piece.invariant.1 c.in-None.ensures.steps.1.0
