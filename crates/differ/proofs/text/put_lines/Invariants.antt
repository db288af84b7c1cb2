-- `differ::text::put_lines` meets its contract. The invariant: the lines of the IDs so far are written, and p is the position behind them.
-- Assumes nothing.
use lib.ListN.{take}
use Rattle.differ.specs.Text.{lines, Writes}
use Rattle.differ.proofs.text.put_lines.Given as goal

abbrev pub invariant-loop-id : goal.invariant-loop-id
invariant-loop-id l = Writes l.at (lines l.label (take l.id-index l.ids)) l.initial.out l.p l.out
