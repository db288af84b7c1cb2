-- `items::idsum_at` meets its contract: the IDSUMs are numbers of 8 bytes from position 16 on, as many as there are buckets. Assumes nothing.
use Rattle.std.proofs.Common.{◌∙◌}
use borrow.Author.Tests.{le-ltb, lt-ltb}
use Rattle.message.specs.Items.{idsum_at}
use Rattle.message.proofs.ReachLaws.{item-number}
use Rattle.message.proofs.items.idsum_at.Goals as goal

pub returns-then-i-n : goal.returns-then-i-n
unfolding idsum_at
returns-then-i-n c = let a = c.args in
    rw (lt-ltb _ _ c.if-i-n.true) (rw c.item.ensures at c.number_at.ensures ∙ item-number 8 16 a.s.now a.i)

pub returns-else-i-n : goal.returns-else-i-n
unfolding idsum_at
returns-else-i-n c = rw (le-ltb _ _ c.if-i-n.false)
