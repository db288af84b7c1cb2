-- `strata::subtract` meets its contract: the XOR sums and the difference of two counts below 2^33 are the difference of two buckets, and the
-- invariant is that the first i buckets are filled with it. Assumes nothing.
use mathlib.Core.Path.{◌≡◌}
use Rattle.bucket.specs.Columns.{columns, view}
use Rattle.filter.specs.Calls.{filled}
use Rattle.filter.specs.Estimator.{less}
use Rattle.filter.proofs.strata.subtract.Given as goal

abbrev pub invariant-loop-i : goal.invariant-loop-i
invariant-loop-i l =
    columns l.ids l.hashes l.counts
    ≡ filled l.i (less (view (columns l.initial.ids l.initial.hashes l.initial.counts)) (view (columns l.ids2 l.hashes2 l.counts2)))
    (columns l.initial.ids l.initial.hashes l.initial.counts)
