use mathlib.Core.Path.{refl}
use native.Mathlib.Omega.{arith}
use Rattle.form.proofs.AllOfLaws.{all_next, all_end}
use Rattle.form.proofs.judging.all_fit.Goals as goal

pub loop-m-init : goal.loop-m-init
loop-m-init g c = λ p h. refl

pub loop-m-preserved : goal.loop-m-preserved
loop-m-preserved g c = λ p h. let w = c.loop-m in
    all_next p c.args.marks.now w.m-index w.fit _ c.loop-m-test.true (h _ _ c.fits-fit.ensures) (w.invariant p h)

pub returns : goal.returns
returns g c = λ p h. let w = c.loop-m in all_end p c.args.marks.now w.m-index w.fit (omega arith) (w.invariant p h)
