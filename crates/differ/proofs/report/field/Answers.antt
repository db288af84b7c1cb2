-- `differ::report::field` meets its contract: two bytes are a number below 65,536. Assumes nothing.
use native.Mathlib.Omega.{arith}
use lib.ListN.{length, drop, length-take}
use Rattle.bucket.specs.Lists.{part}
use Rattle.bucket.proofs.DigitLaws.{joined_lt}
use lib.Pow.{pow_mono}
use Prim.Native.Nat.{◌*◌, ◌<◌}
use Rattle.differ.proofs.report.field.Goals as goal
use Rattle.differ.proofs.report.field.Goals.{After-number_at}

-- at most two bytes
below : (c : After-number_at) → c.number_at.result < 65536
below c = let a = c.args in
    omega (
      arith,
      c.number_at.ensures,
      joined_lt 8 (part a.at 2 a.input.now),
      pow_mono {i = 8 * length (part a.at 2 a.input.now)} {j = 16} (omega (arith, length-take 2 (drop a.at a.input.now))),
    )

pub overflow_cast-result : goal.overflow_cast-result
overflow_cast-result c = record { fits = omega (arith, below c) }

pub returns : goal.returns
returns c = (c.number_at.ensures, below c)
