-- `adding::add_table` meets its contract: each element is spread over its places, all of its stratum, which is what the rule puts
-- there, and the counts stay far below 2^60.
-- The invariant: the columns and the filter of the elements still to come are together the columns at the start and the filter of the table.
-- Assumes nothing.
use Rattle.bucket.specs.Columns.{columns}
use Rattle.filter.specs.Table.{first_eight, ids_of}
use Rattle.filter.specs.Steps.{layered}
use Rattle.filter.proofs.GatherLaws.{Gathered}
use Rattle.filter.proofs.adding.add_table.Given as goal

abbrev pub invariant-loop-e : goal.invariant-loop-e
invariant-loop-e l = Gathered (layered l.top l.k l.size l.salt) (ids_of first_eight l.table) (columns l.initial.ids l.initial.hashes l.initial.counts) (columns l.ids l.hashes l.counts) l.e
