-- `frames::put_filter` meets its contract: the second slice, where there is one, is put behind the first. Assumes nothing.
use Rattle.bucket.specs.Columns.{columns}
use Rattle.message.proofs.SliceLaws.{second_put, one-slice, two_slices}
use Rattle.message.proofs.frames.put_filter.Goals as goal

pub put_slice-requires-clause-put : goal.put_slice-requires-clause-put
put_slice-requires-clause-put c = let a = c.args in
    let first = c.put_slice-next in
    second_put a.size a.salt a.width a.at (columns a.ids.now a.hashes.now a.counts.now) a.out.now c.requires first.ensures.next c.if-size-le-SECOND.false first.auto.out

pub returns-then-size-le-SECOND : goal.returns-then-size-le-SECOND
returns-then-size-le-SECOND c = let a = c.args in
    let first = c.put_slice-next.ensures in
    one-slice a.size a.salt a.width a.at (columns a.ids.now a.hashes.now a.counts.now) a.out.now c.requires first.next first.put c.if-size-le-SECOND.true

pub returns : goal.returns
returns c = let a = c.args in
    let first = c.put_slice-next.ensures in
    let second = c.put_slice.ensures in
    two_slices a.size a.salt a.width a.at (columns a.ids.now a.hashes.now a.counts.now) a.out.now c.requires first.next first.put c.if-size-le-SECOND.false second.next second.put
