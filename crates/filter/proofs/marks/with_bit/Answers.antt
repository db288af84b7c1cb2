-- `filter::marks::with_bit` meets its contract: `|` and `&` with a power of two change that bit alone. Assumes nothing.
use Rattle.filter.proofs.MarkLaws.{lit_on, lit_off}
use Rattle.filter.proofs.marks.with_bit.Goals as goal

pub returns-then-on : goal.returns-then-on
returns-then-on c i l = rw c.if-on.true (lit_on c.args.w c.args.j i c.requires)

pub returns-else-on : goal.returns-else-on
returns-else-on c i l = rw c.if-on.false (lit_off c.args.w c.args.j i c.requires l)
