use mathlib.Core.Logic.{inl, inr}
use Rattle.form.proofs.CommonLaws.{merging_start, merging_next, merging_end}
use Rattle.form.proofs.judging.common.Goals as goal

pub loop-i-init : goal.loop-i-init
loop-i-init c = merging_start c.args.a.now c.args.b.now c.requires.0 c.requires.1

pub loop-i-preserved : goal.loop-i-preserved
loop-i-preserved c = let w = c.loop-i in
    rw (c.from-c.ensures, c.from-i.ensures, c.from-j.ensures)
    (merging_next c.args.a.now c.args.b.now w.c w.i w.j w.invariant c.loop-i-test.true c.if-j-b.true)

pub returns-else-j-b : goal.returns-else-j-b
returns-else-j-b c = let w = c.loop-i in merging_end c.args.a.now c.args.b.now w.c w.i w.j w.invariant (inr c.if-j-b.false)

pub returns-after-loop-i : goal.returns-after-loop-i
returns-after-loop-i c = let w = c.loop-i in merging_end c.args.a.now c.args.b.now w.c w.i w.j w.invariant (inl c.loop-i-test.false)
