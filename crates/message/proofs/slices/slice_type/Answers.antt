-- `message::slices::slice_type` meets its contract: its test is that of the definition. Assumes nothing.
use Rattle.message.proofs.ReadLaws.{reaches_end, stops-before}
use Rattle.message.proofs.slices.slice_type.Goals as goal

pub returns-then-offset-in_slice : goal.returns-then-offset-in_slice
returns-then-offset-in_slice c = reaches_end _ _ c.in_slice.ensures c.if-offset-in_slice.true

pub returns-else-offset-in_slice : goal.returns-else-offset-in_slice
returns-else-offset-in_slice c = stops-before _ _ c.in_slice.ensures c.if-offset-in_slice.false
