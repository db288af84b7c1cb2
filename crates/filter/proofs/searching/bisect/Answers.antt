use mathlib.Core.Path.{◌≡◌, sym, ap, ◌∙◌}
use mathlib.Core.Bool.{true, false}
use Prim.Native.Nat.{◌+◌, ◌-◌, ◌/◌}
use native.Mathlib.Omega.{arith}
use Rattle.filter.proofs.BisectLaws.{bisect-right, bisect-left, bisect-done}
use Rattle.filter.proofs.searching.bisect.Goals as goal

pub loop-lo-preserved-then-below : goal.loop-lo-preserved-then-below
loop-lo-preserved-then-below g c = let n = c.args.n in
    let lo = c.loop-lo.lo in
    let hi = c.loop-lo.hi in
    let mid : lo + (hi - lo) / 2 ≡ (lo + hi) / 2 = omega arith in
    rw mid record {
      order = omega arith;
      within = omega arith;
      rest = λ p same.
          sym (bisect-right p n lo hi (omega arith) c.loop-lo-test.true (ap p (sym mid) ∙ sym (same (lo + (hi - lo) / 2) true (omega arith) c.if-below.ensures)))
          ∙ c.loop-lo.invariant.rest p same;
    }

pub loop-lo-preserved : goal.loop-lo-preserved
loop-lo-preserved g c = let n = c.args.n in
    let lo = c.loop-lo.lo in
    let hi = c.loop-lo.hi in
    let mid : lo + (hi - lo) / 2 ≡ (lo + hi) / 2 = omega arith in
    rw mid record {
      order = omega arith;
      within = omega arith;
      rest = λ p same.
          sym (bisect-left p n lo hi (omega arith) c.loop-lo-test.true (ap p (sym mid) ∙ sym (same (lo + (hi - lo) / 2) false (omega arith) c.if-below.ensures)))
          ∙ c.loop-lo.invariant.rest p same;
    }

pub returns : goal.returns
returns g c = λ p same.
    sym (bisect-done p c.args.n c.loop-lo.lo c.loop-lo.hi c.loop-lo-test.false) ∙ c.loop-lo.invariant.rest p same
