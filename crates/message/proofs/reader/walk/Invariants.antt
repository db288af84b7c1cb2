-- `reader::walk` meets its contract. Each time round the local holds the answer of `next` at some position, no more messages were counted than there are bytes
-- before it, and the walk from there on gives the answer of the whole. The measure is how many more can be counted. Assumes nothing.
use Rattle.std.proofs.Common.{◌≡◌, ℕ, ◌-◌, ◌≤◌, length}
use Rattle.message.specs.Walking.{walk_at, behind, walk_on, whole_of}
use Rattle.message.proofs.reader.walk.Given as goal

abbrev pub invariant-loop-count : goal.invariant-loop-count
invariant-loop-count l = (at : ℕ)
    × ((l.taken.walked ≡ walk_at l.s at) × (l.taken.rest.src.now ≡ l.s) × (l.taken.rest.at ≡ behind (walk_at l.s at) at) × (l.count ≤ at)
    × (walk_on (length l.s - l.count) l.s (walk_at l.s at) l.count ≡ whole_of l.s))

abbrev pub decreases-loop-count : goal.decreases-loop-count
decreases-loop-count l = length l.s - l.count
