-- `filters::read_whole` meets its contract: the slice is laid, the filter read, and cleared where the session may not go on. Assumes nothing.
use mathlib.Core.Path.{◌≡◌, sym, ◌∙◌}
use native.Mathlib.Omega.{arith}
use Rattle.bucket.specs.Columns.{columns}
use Rattle.filter.specs.Calls.{clear_call, Read}
use Rattle.filter.specs.Answers.{answer_of}
use Rattle.filter.specs.Calls.{answered}
use Rattle.filter.proofs.TableLaws.{hashes-length, table-count}
use Rattle.session.specs.Turns.{wiped}
use Rattle.session.proofs.LayTurns.{laid_by, lay_goes}
use Rattle.session.proofs.LastTurns.{ends-kept, ends-wiped, wipes, wipes_goes}
use Rattle.session.proofs.filters.read_whole.Goals as goal
use Rattle.session.proofs.filters.read_whole.Goals.{After-clear}

pub unwrap-requires : goal.unwrap-requires
unwrap-requires c = lay_goes c.lay.result c.requires.lays c.lay.ensures

pub fate_of-fate-requires : goal.fate_of-fate-requires
fate_of-fate-requires c = omega (arith, c.count.ensures, hashes-length c.args.table.now, table-count c.args.table.now c.requires.table-good)

-- what was read, and that it is cleared where it is
abbrev read : After-clear → Read
read c = let r = c.read-reading in answered (answer_of r.result) (columns r.new.ids r.new.hashes r.new.counts) r.new.ours r.new.theirs

cleared : (c : After-clear) → clear_call c.args.slice.size (read c).columns (read c).ours (read c).theirs ≡ wiped c.args.slice.size (read c)
cleared c = let r = c.read-reading.auto in
    let l = c.lay.auto in
    wipes c.requires (read c) (r.ids ∙ l.ids) (r.hashes ∙ l.hashes) (r.counts ∙ l.counts) r.ours r.theirs

pub unwrap-requires-then-is_err : goal.unwrap-requires-then-is_err
unwrap-requires-then-is_err c =
    let k = (goal.at.unwrap-requires-then-is_err c).After-clear in
    wipes_goes c.args.slice.size (read k) c.clear.result c.clear.ensures (cleared k)

pub returns-then-is_err : goal.returns-then-is_err
returns-then-is_err c =
    ends-wiped c.requires (laid_by c.requires.lays c.lay.ensures) c.read-reading.ensures c.args.swaps c.count.ensures c.fate_of-fate.ensures
    (sym c.if-is_err.ensures.value) c.clear.ensures (cleared (goal.at.returns-then-is_err c).After-clear)

pub returns-else-is_err : goal.returns-else-is_err
returns-else-is_err c = ends-kept c.requires (laid_by c.requires.lays c.lay.ensures) c.read-reading.ensures c.args.swaps c.count.ensures c.fate_of-fate.ensures (sym c.if-is_err.ensures.value)
