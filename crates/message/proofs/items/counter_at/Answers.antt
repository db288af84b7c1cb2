-- `items::counter_at` meets its contract: the counters stand behind the HASHSUMs, packed. Assumes nothing.
use borrow.Author.Tests.{le-leb, lt-leb}
use Rattle.message.specs.Items.{counter_of}
use Rattle.message.proofs.items.counter_at.Goals as goal

pub returns-then-n : goal.returns-then-n
unfolding counter_of
returns-then-n c = rw (le-leb _ 2520 c.if-n.true) c.counter_at.ensures

pub returns-else-n : goal.returns-else-n
unfolding counter_of
returns-else-n c = rw (lt-leb _ 2520 c.if-n.false)
