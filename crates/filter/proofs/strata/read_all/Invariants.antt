-- `strata::read_all` meets its contract. The loop's invariant: what the strata from i upwards list is counted in the total, and counting and
-- reading on from the columns as they are now gives the definition's estimate and what the definition leaves. Assumes nothing.
use Rattle.bucket.specs.Columns.{columns}
use Rattle.filter.proofs.TallyLaws.{Tally}
use Rattle.filter.proofs.strata.read_all.Given as goal

abbrev pub invariant-loop-i : goal.invariant-loop-i
invariant-loop-i l = Tally l.salt (columns l.initial.ids l.initial.hashes l.initial.counts) (columns l.ids l.hashes l.counts) l.total l.i
