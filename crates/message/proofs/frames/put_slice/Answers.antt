-- `frames::put_slice` meets its contract: head, IDSUMs, HASHSUMs and counters, one behind the other. Assumes nothing.
use Rattle.std.proofs.Common.{◌∙◌, arith}
use Rattle.std.proofs.Math.Nat.{add-sub_cancel_left}
use Rattle.std.proofs.lemmas.List.{map-id}
use Rattle.bucket.specs.Columns.{columns}
use Rattle.message.proofs.SliceLaws.{slice_writes, part_between, slice-ids, slice-hashes}
use Rattle.message.proofs.frames.put_slice.Goals as goal

pub returns : goal.returns
returns c = let a = c.args in
    let s = a.slice in
    let cols = columns a.ids.now a.hashes.now a.counts.now in
    let r = c.requires in
    let head = c.put_head-next in
    let ids = c.put_numbers-next in
    let hashes = c.put_numbers-next-2 in
    let i = rw (add-sub_cancel_left, slice-ids s a.at cols a.out.now r.put r.count, head.ensures.next) at ids.ensures.next in
    let h = rw (add-sub_cancel_left, slice-hashes s a.at cols a.out.now r.put r.count, i) at hashes.ensures.next in
    let writes = slice_writes s a.at cols a.out.now r.put r.count
    (part_between s.offset s.count a.counts.now)
    (hashes.auto.out ∙ ids.auto.out ∙ head.auto.out)
    head.ensures.put
    (rw (add-sub_cancel_left, map-id, head.ensures.next) at ids.ensures.put)
    (rw (add-sub_cancel_left, map-id, i) at hashes.ensures.put)
    (omega arith)
    c.pack.ensures in
    record { next = writes.0; put = writes.1 }
