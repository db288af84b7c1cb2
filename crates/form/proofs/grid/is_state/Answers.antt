-- `grid::is_state` meets its contract: a number is a state's exactly where it is converted. Assumes nothing.
use mathlib.Core.Path.{◌∙◌}
use Rattle.form.proofs.GridTie.{converted}
use Rattle.form.proofs.grid.is_state.Goals as goal

pub returns : goal.returns
returns c = c.is_ok.ensures.value ∙ converted c.args.state c.try_from.result c.try_from.ensures
