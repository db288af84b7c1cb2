-- `grid::admits` meets its contract: the code's constant is the definition's grid. Assumes nothing.
use mathlib.Core.Path.{sym, ap, ◌∙◌}
use mathlib.Core.Bool.{false}
use mathlib.Core.List.{[]}
use Prim.Native.Nat.{ℕ}
use lib.ListN.{get_or}
use Rattle.ledger.specs.Grid.{row_of, grid, entry}
use Rattle.ledger.proofs.GridLaws.{no_state, no_kind}
use Rattle.form.proofs.GridTie.{tag-row}
use Rattle.form.proofs.grid.admits.Goals as goal

pub returns-in_default : goal.returns-in_default
returns-in_default c = sym (no_state _ _ c.in_default.ensures)

pub returns-then-kind-ge7 : goal.returns-then-kind-ge7
returns-then-kind-ge7 c = sym (no_kind _ _ c.if-kind-ge7.true)

pub returns : goal.returns
unfolding entry
returns c = ap (λ (row : ℕ). get_or (get_or grid row []) c.args.kind false) (tag-row c.in-Ok.row ∙ ap row_of c.in-Ok.ensures)
