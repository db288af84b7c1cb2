-- `adding::start` meets its contract: the stratum is capped at top, and the product stays far below 2^64. Assumes nothing.
use mathlib.Core.Path.{ap}
use Prim.Native.Nat.{◌*◌, ◌≤◌}
use native.Mathlib.Nat.{mul-le-mul}
use native.Mathlib.Omega.{arith}
use Rattle.filter.proofs.adding.start.Goals as goal

pub overflow_mul-result : goal.overflow_mul-result
overflow_mul-result c = let low : c.min-s.result ≤ 31 = omega arith in
    omega (arith, mul-le-mul c.requires.0 low)

pub returns : goal.returns
returns c = ap (c.args.size *◌) (omega arith)
