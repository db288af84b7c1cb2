-- `bucket::packing::counter_at` meets its contract: the counter where there is one, and past the last one there is none. Assumes nothing.
use Rattle.std.proofs.Common.{◌≡◌, get_or, arith}
use Rattle.std.proofs.lemmas.Bool.Decides.{nat_tests}
use Rattle.bucket.specs.Packing.{counters_at, counter_at}
use Rattle.bucket.proofs.ReadLaws.{none-past}
use Rattle.bucket.proofs.packing.counter_at.Goals as goal

pub returns-else-i-n : goal.returns-else-i-n
unfolding counter_at
returns-else-i-n c = let a = c.args in
    let none : get_or (counters_at a.w a.n a.at a.s.now) a.i 0 ≡ 0 = none-past a.w a.n _ a.i (omega arith) in
    grind (arith, nat_tests)
