-- `items::hashsum_at` meets its contract: the HASHSUMs are numbers of 4 bytes behind the IDSUMs. Assumes nothing.
use Rattle.std.proofs.Common.{◌+◌, ◌*◌, ◌∙◌}
use borrow.Author.Tests.{le-leb, lt-leb, le-ltb, lt-ltb}
use Rattle.message.specs.Items.{hashsum_at}
use Rattle.message.proofs.ReachLaws.{item-number}
use Rattle.message.proofs.items.hashsum_at.Goals as goal
use Rattle.message.proofs.items.hashsum_at.Goals.{else-n-via-then-n+else-i-n, else-n-via-else-n}

pub returns-then-i-n : goal.returns-then-i-n
unfolding hashsum_at
returns-then-i-n c = let a = c.args in
    rw (le-leb _ 2520 c.if-n.true, lt-ltb _ _ c.if-i-n.true) (rw c.item.ensures at c.word_at.ensures ∙ item-number 4 (16 + 8 * a.n) a.s.now a.i)

pub returns-else-n : goal.returns-else-n
unfolding hashsum_at
returns-else-n c =
    elim c.else-n.branch [
      | else-n-via-then-n+else-i-n w ↦ rw (le-leb _ 2520 w.if-n.true, le-ltb _ _ w.if-i-n.false)
      | else-n-via-else-n w ↦ rw (lt-leb _ 2520 w.if-n.false)
    ]
