-- `asking::serve_all` meets its contract. The invariant: the walk has the hashes left that the iterator has. Assumes nothing.
use mathlib.Core.Path.{◌≡◌}
use Rattle.filter.specs.Table.{hashes_of}
use Rattle.session.proofs.AskLaws.{Serving}
use Rattle.session.proofs.asking.serve_all.Given as goal

abbrev pub invariant-loop-hash : goal.invariant-loop-hash
invariant-loop-hash l = record {
  size : l.hash-iterator.size ≡ 64;
  walk : Serving l.tables.table.now l.tables.known.now l.initial.marks (hashes_of l.hashes) l.marks (hashes_of l.hash-iterator.rest.now);
}
