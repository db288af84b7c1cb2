use native.Mathlib.Omega.{arith}
use lib.ListN.{length-take}
use lib.Seq.{get_or-take}
use mir.Syntax.{w64}
use mir.ValLaws.{to_z-of_z}
use Rattle.filter.proofs.TakingLaws.{taking_start, taking_below, taking_next, taking_end}
use Rattle.filter.proofs.peeling.take_out.Goals as goal

pub loop-b-init : goal.loop-b-init
loop-b-init c = taking_start c.args.k c.args.size c.args.x c.args.h _ _ c.requires.small c.requires.shown

pub settle-requires-clause-inside : goal.settle-requires-clause-inside
settle-requires-clause-inside c = let a = c.args in
    let p = c.places-p in
    let inside = length-take a.k p.result in
    rw (get_or-take a.k p.result c.loop-b.b-index 0 (omega (arith, inside)))
    (taking_below a.k a.size a.x a.h _ _ _ c.requires.sound c.requires.wide c.loop-b.invariant a.tab.now p.result c.requires.tables p.ensures (omega (arith, inside)))

pub loop-b-preserved : goal.loop-b-preserved
loop-b-preserved c = let a = c.args in
    let p = c.places-p in
    let place = get_or-take a.k p.result c.loop-b.b-index 0 (omega (arith, length-take a.k p.result)) in
    taking_next a.k a.size a.x a.h _ _ _ c.requires.sound c.requires.wide c.loop-b.invariant a.tab.now p.result c.requires.tables p.ensures
    (omega (arith, length-take a.k p.result)) (rw (to_z-of_z w64 a.s c.ranges.s) c.requires.one) (rw place at c.settle.ensures.taken) c.settle.ensures.shown

pub returns-clause-taken : goal.returns-clause-taken
returns-clause-taken c = let a = c.args in
    rw (to_z-of_z w64 a.s c.ranges.s) at
    (taking_end a.k a.size a.x a.h _ _ _ c.requires.sound c.requires.wide c.loop-b.invariant (omega (arith, length-take a.k c.places-p.result, c.requires.sound.few)))
