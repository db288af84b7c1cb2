-- `differ::report::is_input` meets its contract: its two tests are those of the definition. Assumes nothing.
use mathlib.Core.Path.{ap₂}
use mathlib.Core.Bool.{◌&&◌}
use Prim.Native.Nat.{ℕ, ◌+◌, ◌*◌}
use lib.Dec.{leb, eqb}
use lib.ListN.{length}
use Rattle.differ.specs.Report.{is_input}
use Rattle.differ.proofs.report.is_input.Goals as goal

pub returns : goal.returns
unfolding is_input
returns c = let input = c.args.input.now in
    ap₂ (λ (a b : ℕ). leb (a + b) 1000 && eqb (length input) (6 + 64 * (a + b))) c.field.ensures.0 c.field-2.ensures.0
