-- `adding::add_to_places` meets its contract: the places are distinct and below the size, so each is added to once, and a count below 2^60 stays exact.
-- The invariant: the element spread over the places still to come, on the columns as they are, is the element spread over all places on the columns as they were.
-- Assumes nothing.
use lib.IntN.{pos}
use Rattle.bucket.specs.Bucket.{bucket}
use Rattle.bucket.specs.Columns.{columns}
use Rattle.filter.proofs.SpreadLaws.{Added}
use Rattle.filter.proofs.adding.add_to_places.Given as goal

abbrev pub invariant-loop-b : goal.invariant-loop-b
invariant-loop-b l = Added l.k l.size l.h (bucket l.x l.h (pos 1)) (columns l.initial.ids l.initial.hashes l.initial.counts) (columns l.ids l.hashes l.counts) l.b-index
