use native.Mathlib.Omega.{arith}
use Rattle.session.proofs.XorSumLaws.{mixing_start, mixing_next, mixing_end}
use Rattle.session.proofs.checking.xor_into.Goals as goal

pub loop-k-init : goal.loop-k-init
loop-k-init c = mixing_start c.args.acc.now c.args.hash.now

pub loop-k-preserved : goal.loop-k-preserved
loop-k-preserved c = mixing_next c.args.acc.now c.args.hash.now c.loop-k.acc c.loop-k.k c.loop-k.invariant

pub returns : goal.returns
returns c = let a = c.args in
    mixing_end a.acc.now a.hash.now c.loop-k.acc c.loop-k.k c.loop-k.invariant (omega (arith, c.loop-k-test.false, c.requires)) c.requires (λ n. (c.type_inv.hash n).fits)
