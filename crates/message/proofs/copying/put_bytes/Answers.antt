use mathlib.Core.Path.{ap, ◌∙◌}
use mathlib.Core.List.{List}
use Prim.Native.Nat.{ℕ}
use native.Mathlib.Omega.{arith}
use lib.Seq.{take_all}
use Rattle.bucket.specs.Lists.{over}
use Rattle.bucket.proofs.OverLaws.{laid-start, laid-take}
use Rattle.message.proofs.copying.put_bytes.Goals as goal

pub loop-j-init : goal.loop-j-init
loop-j-init c = laid-start c.args.at c.args.out.now

pub bounds-out-at : goal.bounds-out-at
bounds-out-at c = omega (arith, c.loop-j.invariant.same)

pub loop-j-preserved : goal.loop-j-preserved
loop-j-preserved c = laid-take c.args.bytes.now 0 c.loop-j.invariant (omega arith) (omega arith)

pub shape_of-out : goal.shape_of-out
shape_of-out c = c.loop-j.invariant.same

pub returns : goal.returns
returns c = let a = c.args in
    c.loop-j.invariant.laid ∙ ap (λ (q : List ℕ). over a.at q a.out.now) (take_all c.loop-j.j a.bytes.now (omega arith))
