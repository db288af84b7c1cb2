-- `filter::table::ids_ascend` meets its contract. The invariant: if there is an ID, those before e ascend, and last is the one before e. Assumes nothing.
use Prim.Native.Nat.{◌<◌}
use lib.ListN.{length}
use Rattle.filter.specs.Table.{first_eight, ids_of}
use Rattle.filter.proofs.OrderLaws.{Rising}
use Rattle.filter.proofs.table.ids_ascend.Given as goal

abbrev pub invariant-loop-e : goal.invariant-loop-e
invariant-loop-e l = 0 < length (ids_of first_eight l.table) → Rising (ids_of first_eight l.table) l.last l.e
