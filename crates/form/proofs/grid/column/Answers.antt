-- `grid::column` meets its contract: the kinds stand in the order of the columns. Assumes nothing.
use Rattle.form.proofs.GridTie.{tag-column}
use Rattle.form.proofs.grid.column.Goals as goal

pub returns : goal.returns
returns c = tag-column c.args.kind
