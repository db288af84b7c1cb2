-- The places are gone through one after the other: after some of them the element is out of those, and the marks of the buckets that look
-- pure are up to date. Assumes nothing.
use Rattle.bucket.specs.Columns.{columns}
use Rattle.filter.proofs.TakingLaws.{Taking}
use Rattle.filter.proofs.peeling.take_out.Given as goal

abbrev pub invariant-loop-b : goal.invariant-loop-b
invariant-loop-b l = Taking l.k l.size l.x l.h l.s (columns l.initial.ids l.initial.hashes l.initial.counts) (columns l.ids l.hashes l.counts) l.shown l.b-index
