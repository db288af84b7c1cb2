-- `strata::read_one` meets its contract: a reading goes by the 79 buckets of the stratum alone, and these are what is lent.
-- Assumes nothing.
use mathlib.Core.Path.{◌∙◌}
use Rattle.bucket.specs.Columns.{columns}
use Rattle.filter.proofs.LentLaws.{stratum-counted, stratum-left}
use Rattle.filter.proofs.strata.read_one.Goals as goal

pub returns-clause-listed : goal.returns-clause-listed
returns-clause-listed c = let a = c.args in
    c.read_part.ensures.listed ∙ stratum-counted a.salt a.s (columns a.ids.now a.hashes.now a.counts.now) c.requires.inside c.requires.wide

pub returns-clause-left : goal.returns-clause-left
returns-clause-left c = let a = c.args in
    let n = c.read_part.new in
    stratum-left a.salt a.s (columns a.ids.now a.hashes.now a.counts.now) c.requires.inside c.requires.wide
    (columns n.ids n.hashes n.counts) c.read_part.ensures.left
