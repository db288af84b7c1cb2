-- `Marks::new` meets its contract: words that are zero have no bit. Assumes nothing.
use Rattle.filter.proofs.MarkLaws.{topped_none, marks_none}
use Rattle.filter.proofs.marks.Marks.new.Goals as goal

pub invariant_of-result : goal.invariant_of-result
invariant_of-result c = topped_none

pub returns : goal.returns
returns c = marks_none
