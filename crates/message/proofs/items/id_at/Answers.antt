-- `items::id_at` meets its contract: the IDs are numbers of 8 bytes from position 8 on. Assumes nothing.
use Rattle.std.proofs.Common.{◌∙◌}
use Rattle.message.specs.Items.{id_at}
use Rattle.message.proofs.ReachLaws.{item-number}
use Rattle.message.proofs.items.id_at.Goals as goal

pub returns : goal.returns
unfolding id_at
returns c = let a = c.args in rw c.item.ensures at c.number_at.ensures ∙ item-number 8 8 a.s.now a.i
