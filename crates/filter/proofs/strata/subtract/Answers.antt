use Rattle.bucket.specs.Columns.{columns, view}
use Rattle.filter.specs.Estimator.{less}
use Rattle.filter.proofs.FilledLaws.{filled_none}
use Rattle.filter.proofs.EstimateLaws.{subtracting_fits, subtracting_next}
use Rattle.filter.proofs.strata.subtract.Goals as goal

pub loop-i-init : goal.loop-i-init
loop-i-init c = let a = c.args in
    let was = columns a.ids.now a.hashes.now a.counts.now in
    filled_none (less (view was) (view (columns a.ids2.now a.hashes2.now a.counts2.now))) was

pub overflow_sub-counts : goal.overflow_sub-counts
overflow_sub-counts c = let r = c.requires in
    search (subtracting_fits c.loop-i.invariant c.loop-i-test.true r.2 r.3)

pub loop-i-preserved : goal.loop-i-preserved
loop-i-preserved c = let r = c.requires in
    subtracting_next c.loop-i.invariant c.loop-i-test.true r.2 r.3
