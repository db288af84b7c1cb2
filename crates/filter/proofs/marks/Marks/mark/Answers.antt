-- `Marks::mark` meets its contract: the one word that holds b gets b's bit, and the top word says again whether that word is zero.
-- Assumes nothing.
use Rattle.filter.proofs.MarkLaws.{topped_but, mark_but}
use Rattle.filter.proofs.marks.Marks.mark.Goals as goal

pub invariant_of-self : goal.invariant_of-self
invariant_of-self c = let s = c.self.inside in
    topped_but s.bits s.top c.args.b c.with_bit-w.result c.with_bit-self-inside.result c.args.on c.requires c.with_bit-self-inside.ensures c.self.told c.self.invariant

pub returns : goal.returns
returns c = let s = c.self.inside in
    rw (← c.self.view_is) (mark_but s.bits c.args.b c.with_bit-w.result c.args.on c.requires c.with_bit-w.ensures c.self.told)
