-- `bucket::crc::bit` meets its contract: the two arms are the two cases of `fold`.
-- Assumes nothing.
use mathlib.Core.Path.{◌≡◌, sym, ap}
use Prim.Native.Nat.{ℕ, ◌/◌, ◌%◌}
use native.Mathlib.Omega.{arith}
use Rattle.bucket.specs.Crc.{fold}
use Rattle.bucket.proofs.crc.bit.Goals as goal

pub returns-then-c-eq0 : goal.returns-then-c-eq0
returns-then-c-eq0 c = let v = c.args.c in ap (λ (b : ℕ). fold b (v / 2)) (sym c.if-c-eq0.true)

pub returns-else-c-eq0 : goal.returns-else-c-eq0
returns-else-c-eq0 c = let v = c.args.c in
    let odd : 1 ≡ v % 2 = omega arith in
    ap (λ (b : ℕ). fold b (v / 2)) odd
