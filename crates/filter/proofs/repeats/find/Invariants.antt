-- `filter::repeats::find` meets its contract. The invariant: bits of v led to number k, and if v was noted the bits to come lead on to it.
-- Links name later numbers, so what is left of the numbers is the measure. Assumes nothing.
use Prim.Native.Nat.{◌-◌}
use lib.ListN.{length}
use Rattle.filter.proofs.RepeatLaws.{Search}
use Rattle.filter.proofs.repeats.find.Given as goal

abbrev pub invariant-loop-k : goal.invariant-loop-k
invariant-loop-k l = Search l.v l.heads l.links l.seen l.k l.w

abbrev pub decreases-loop-k : goal.decreases-loop-k
decreases-loop-k l = length l.seen - l.k
