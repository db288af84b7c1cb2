-- `message::laying::lay` meets its contract: of a message that was read as a slice the buckets are there, and any other is refused. Assumes nothing.
use Rattle.std.proofs.Common.{◌∙◌}
use Rattle.bucket.specs.Columns.{columns}
use Rattle.message.proofs.LayLaws.{lay_none, lay_some}
use Rattle.message.proofs.laying.lay.Goals as goal

pub returns-in_default : goal.returns-in_default
returns-in_default c = let a = c.args in
    lay_none a.s.now (columns a.ids.now a.hashes.now a.counts.now) c.read.result c.read.ensures c.and_then.ensures c.in_default.is

pub lay_slice-requires : goal.lay_slice-requires
lay_slice-requires c = let a = c.args in
    (lay_some a.s.now (columns a.ids.now a.hashes.now a.counts.now) c.read.result c.read.ensures c.and_then.ensures c.in-Some.is).asks

pub returns : goal.returns
returns c = let a = c.args in
    c.lay_slice.ensures ∙ (lay_some a.s.now (columns a.ids.now a.hashes.now a.counts.now) c.read.result c.read.ensures c.and_then.ensures c.in-Some.is).answers
