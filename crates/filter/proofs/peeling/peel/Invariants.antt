-- Before each turn the definition's run from here on is the whole reading, with as many peels to come as there are buckets left (`Peeling`);
-- each way through the loop is one law of StepLaws. Assumes nothing.
use Prim.Native.Nat.{◌+◌, ◌-◌}
use lib.ListN.{length}
use Rattle.bucket.specs.Columns.{columns}
use Rattle.filter.proofs.StepLaws.{Peeling}
use Rattle.filter.proofs.peeling.peel.Given as goal

abbrev pub invariant-loop-b : goal.invariant-loop-b
invariant-loop-b l = Peeling
    (record { size = l.size; k = l.k; salt = l.salt; columns = columns l.initial.ids l.initial.hashes l.initial.counts; ours = l.initial.ours; theirs = l.initial.theirs })
    (record { columns = columns l.ids l.hashes l.counts; ours = l.ours; theirs = l.theirs; shown = l.shown; noted = l.trees; listed = l.listed; looked = l.looked })

abbrev pub decreases-loop-b : goal.decreases-loop-b
decreases-loop-b l = l.size + 1 - length l.trees
