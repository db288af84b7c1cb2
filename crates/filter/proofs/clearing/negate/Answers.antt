use mathlib.Core.Path.{ap, ◌∙◌}
use mathlib.Core.List.{List, ◌++◌}
use Prim.Native.Nat.{◌<◌}
use native.Mathlib.Omega.{arith}
use lib.IntN.{ℤ, pos}
use lib.ListN.{take, drop}
use lib.Seq.{get_or-take, length-take-le}
use Rattle.filter.proofs.NegatedLaws.{negated-part, turned-start, turned-end, turned-fits-next, turned-next}
use Rattle.filter.proofs.clearing.negate.Goals as goal

pub loop-c-init : goal.loop-c-init
loop-c-init c = turned-start c.args.n (take c.args.n c.args.counts.now)

pub overflow_sub-c : goal.overflow_sub-c
overflow_sub-c c = let a = c.args in
    let w = c.loop-c in
    let h : w.c-index < a.n = omega (arith, length-take-le a.n a.counts.now c.requires.0) in
    turned-fits-next a.n (take a.n a.counts.now) w.c-items w.c-index w.invariant h
    (rw (get_or-take a.n a.counts.now w.c-index (pos 0) h) (c.requires.1 w.c-index h))

pub loop-c-preserved : goal.loop-c-preserved
loop-c-preserved c = let a = c.args in
    let w = c.loop-c in
    let h : w.c-index < a.n = omega (arith, length-take-le a.n a.counts.now c.requires.0) in
    turned-next a.n (take a.n a.counts.now) w.c-items w.c-index w.invariant h
    (rw (get_or-take a.n a.counts.now w.c-index (pos 0) h) (c.requires.1 w.c-index h))

pub returns : goal.returns
returns c = let a = c.args in
    let w = c.loop-c in
    ap (λ (l : List ℤ). l ++ drop a.n a.counts.now)
    (turned-end a.n (take a.n a.counts.now) w.c-items w.c-index w.invariant (omega (arith, length-take-le a.n a.counts.now c.requires.0)))
    ∙ negated-part a.n a.n a.counts.now (omega arith) c.requires.0
