-- `Trees::new` meets its contract: where none is noted, nothing is asked of the arrays but their lengths. Assumes nothing.
use mathlib.Core.Path.{refl}
use native.Mathlib.Omega.{arith}
use Rattle.filter.proofs.RepeatLaws.{forest_none}
use Rattle.filter.proofs.repeats.Trees.new.Goals as goal

pub invariant_of-result : goal.invariant_of-result
invariant_of-result c = (omega arith, forest_none _ _ refl refl)
