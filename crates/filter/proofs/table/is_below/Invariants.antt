-- `filter::table::is_below` meets its contract. The invariant: the first k bytes of both hashes are the same, so the bytes behind them tell.
-- Assumes nothing.
use Rattle.filter.proofs.CompareLaws.{Tied}
use Rattle.filter.proofs.table.is_below.Given as goal

abbrev pub invariant-loop-k : goal.invariant-loop-k
invariant-loop-k l = Tied l.ours l.theirs l.k
