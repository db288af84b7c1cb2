use mathlib.Core.Path.{sym, ◌∙◌}
use native.Mathlib.Omega.{arith}
use Rattle.bucket.proofs.TableLaws.{looked_up_more, looked_up_none}
use Rattle.bucket.proofs.crc.looked_up.Goals as goal

pub loop-k-preserved : goal.loop-k-preserved
loop-k-preserved c = let args = c.args in
    let at = c.loop-k in
    sym (looked_up_more args.tab.now args.row args.x at.k at.c c.loop-k-test.true) ∙ at.invariant

pub returns : goal.returns
returns c = let args = c.args in
    let at = c.loop-k in
    sym (looked_up_none args.tab.now args.row args.x at.k at.c (omega arith)) ∙ at.invariant
