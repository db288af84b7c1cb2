use Prim.Native.Nat.{◌-◌}
use native.Mathlib.Omega.{arith}
use Rattle.filter.proofs.TallyLaws.{lists-few, tally_next, tally_stop, tally_end}
use Rattle.filter.proofs.strata.read_all.Goals as goal

pub returns-in_default : goal.returns-in_default
returns-in_default c = let e = c.in_default.ensures in
    tally_stop (c.loop-i.i - 1) _ c.loop-i.invariant (omega arith) e.left e.listed c.sample.ensures

pub overflow_add-total : goal.overflow_add-total
overflow_add-total c = omega (arith, c.loop-i.invariant.bound, lists-few _ _ c.in-Some.ensures.listed)

pub loop-i-preserved : goal.loop-i-preserved
loop-i-preserved c = let e = c.in-Some.ensures in
    tally_next (c.loop-i.i - 1) _ c.loop-i.invariant (omega arith) e.left e.listed

pub returns : goal.returns
returns c = tally_end c.loop-i.invariant (omega arith)
