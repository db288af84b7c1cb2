-- `adding::put_at` meets its contract: an open bucket is inside the three columns and the sum of the counts is exact, so the three stores place the sum.
-- Assumes nothing.
use lib.IntN.{pos}
use lib.ListN.{get_or}
use Rattle.bucket.specs.Bucket.{◌⊕◌}
use Rattle.bucket.specs.Columns.{view, place}
use Rattle.bucket.proofs.ColumnLaws.{is_open_small}
use Rattle.bucket.proofs.SmallLaws.{small-sum, small-sum-fits}
use Rattle.filter.proofs.adding.put_at.Goals as goal

pub overflow_add-counts : goal.overflow_add-counts
overflow_add-counts c = let h = is_open_small _ _ _ c.requires in
    small-sum-fits (get_or c.args.counts.now c.args.i (pos 0)) c.args.count h.0 h.1

pub returns : goal.returns
unfolding place view ◌⊕◌
returns c = let h = is_open_small _ _ _ c.requires in
    rw (small-sum (get_or c.args.counts.now c.args.i (pos 0)) c.args.count h.0 h.1)
