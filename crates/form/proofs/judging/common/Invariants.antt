-- `judging::common` meets its contract: what was counted so far and the numbers from i and from j on give the whole count. The measure is what is left
-- of both lists. Assumes nothing.
use Prim.Native.Nat.{◌+◌, ◌-◌}
use lib.ListN.{length}
use Rattle.form.proofs.CommonLaws.{Merging}
use Rattle.form.proofs.judging.common.Given as goal

abbrev pub invariant-loop-i : goal.invariant-loop-i
invariant-loop-i l = Merging l.a l.b l.c l.i l.j

abbrev pub decreases-loop-i : goal.decreases-loop-i
decreases-loop-i l = (length l.a - l.i) + (length l.b - l.j)
