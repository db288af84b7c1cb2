-- `asking::ask_all` meets its contract. The invariant: the walk has the IDs left that the iterator has. Assumes nothing.
use mathlib.Core.Path.{◌≡◌}
use Prim.Native.Nat.{◌%◌}
use lib.ListN.{length}
use Rattle.session.proofs.ChunkLaws.{ids_in}
use Rattle.session.proofs.AskLaws.{Asking}
use Rattle.session.proofs.asking.ask_all.Given as goal

abbrev pub invariant-loop-id : goal.invariant-loop-id
invariant-loop-id l = record {
  size : l.id-iterator.size ≡ 8;
  whole : length l.id-iterator.rest.now % 8 ≡ 0;
  walk : Asking l.tables.table.now l.tables.known.now l.initial.marks l.initial.hashes (ids_in l.ids) l.marks l.hashes l.m (ids_in l.id-iterator.rest.now);
}
