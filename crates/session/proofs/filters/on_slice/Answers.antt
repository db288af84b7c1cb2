-- `filters::on_slice` meets its contract: a slice that the grid admits and that is placed is laid. Assumes nothing.
use mathlib.Core.Path.{ap, ap₂, ◌∙◌}
use Rattle.bucket.specs.Columns.{columns}
use Rattle.bucket.proofs.TestLaws.{test_refused, test_granted}
use Rattle.message.specs.declared.kinds.Message.TheVariants.{Ibf}
use Rattle.message.specs.Reading.{content}
use Rattle.ledger.specs.Calls.{answered}
use Rattle.form.specs.Answers.{admits_slice}
use Rattle.session.specs.Turns.{slice_turn'}
use Rattle.session.proofs.LayTurns.{laid_by, lay_goes, slice_untimely, slice_misplaced, slice-laid}
use mathlib.Core.Bool.{not}
use Rattle.session.proofs.filters.on_slice.Goals as goal

pub returns-then-not-admits_slice : goal.returns-then-not-admits_slice
returns-then-not-admits_slice c = let a = c.args in
    slice_untimely a.numbers (content (Ibf a.slice) a.message.now) a.slice (columns a.ids.now a.hashes.now a.counts.now) (test_refused (c.admits_slice.ensures ∙ ap (admits_slice c.args.numbers) c.column.ensures) (ap not c.if-not-admits_slice.true))

pub returns-then-not-is_placed : goal.returns-then-not-is_placed
returns-then-not-is_placed c = let a = c.args in
    slice_misplaced a.numbers (content (Ibf a.slice) a.message.now) a.slice (columns a.ids.now a.hashes.now a.counts.now)
    (test_granted (c.admits_slice.ensures ∙ ap (admits_slice c.args.numbers) c.column.ensures) (ap not c.if-not-admits_slice.false)) (test_refused c.is_placed.ensures (ap not c.if-not-is_placed.true))

pub unwrap-requires : goal.unwrap-requires
unwrap-requires c = lay_goes c.lay.result c.requires c.lay.ensures

pub returns : goal.returns
returns c = let a = c.args in
    ap₂ slice_turn'
    (c.answered.ensures ∙ ap (answered 0 0 0) c.sliced-next.ensures)
    (laid_by c.requires c.lay.ensures)
    ∙ slice-laid a.numbers (content (Ibf a.slice) a.message.now) a.slice (columns a.ids.now a.hashes.now a.counts.now)
    (test_granted (c.admits_slice.ensures ∙ ap (admits_slice c.args.numbers) c.column.ensures) (ap not c.if-not-admits_slice.false)) (test_granted c.is_placed.ensures (ap not c.if-not-is_placed.false))
