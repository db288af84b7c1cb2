-- `items::hash_at` meets its contract: the hashes are items of 64 bytes from position 4 on. Assumes nothing.
use Rattle.message.specs.Items.{hash_part}
use Rattle.message.specs.Putting.{item_in}
use Rattle.message.proofs.items.hash_at.Goals as goal

pub returns : goal.returns
unfolding hash_part item_in
returns c = c.item.ensures
