-- `bucket::bytes::number_at` meets its contract: a part that ends past the end of the bytes is the part up to the end, and one that begins there is
-- empty. Assumes nothing.
use mathlib.Core.Path.{sym, ap}
use Prim.Native.Nat.{min}
use Rattle.bucket.specs.Digits.{joined}
use Rattle.bucket.proofs.OverLaws.{part-past}
use native.Mathlib.Omega.{arith}
use Rattle.bucket.proofs.bytes.number_at.Goals as goal

pub returns-then-s-at : goal.returns-then-s-at
unfolding joined
returns-then-s-at c = let a = c.args in
    sym (ap (joined 8) (part-past a.at (min 8 a.k) a.s.now (omega arith)))
