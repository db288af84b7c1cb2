-- `strata::read_part` meets its contract: the peeling is the definition's, so the stratum is false where it was not in order, and is then
-- made zero; otherwise it is complete where all is zero, and as many IDs are listed as both lists hold. Assumes nothing.
use Rattle.filter.proofs.TallyLaws.{part_false, part-stuck, part-whole}
use Rattle.filter.proofs.strata.read_part.Goals as goal

pub returns-in_default-clause-left : goal.returns-in_default-clause-left
returns-in_default-clause-left c = (part_false c.peel-p.ensures.peels c.requires.wide c.in_default.is c.clear_columns.ensures).1

pub returns-then-not-all_zero-clause-listed : goal.returns-then-not-all_zero-clause-listed
returns-then-not-all_zero-clause-listed c =
    part-stuck c.peel-p.ensures.peels c.requires.wide c.in-Some.is c.all_zero.ensures c.if-not-all_zero.true

pub returns-clause-listed : goal.returns-clause-listed
returns-clause-listed c =
    part-whole c.peel-p.ensures.peels c.requires.wide c.in-Some.is c.all_zero.ensures c.if-not-all_zero.false
