-- `filters::filter` meets its contract: each early answer is the definition's at the test that failed, and behind them the slices are put.
-- Assumes nothing.
use mathlib.Core.Path.{◌≡◌, ◌∙◌}
use lib.ListN.{length}
use mathlib.Core.Bool.{true}
use Rattle.bucket.specs.Columns.{columns}
use Rattle.bucket.proofs.TestLaws.{test_granted}
use Rattle.filter.specs.Calls.{in_range, are_counts, has_room}
use Rattle.filter.proofs.FilledLaws.{wide_of}
use Rattle.filter.proofs.PartLaws.{range-sound}
use Rattle.message.specs.Writing.{write, width_for}
use Rattle.std.proofs.Math.Seq.{length-take-le}
use Rattle.message.proofs.FilterLaws.{filter_short_buffer, filter_put, filter_written}
use Rattle.message.proofs.WriteLaws.{handed-on, room-short, room-there}
use Rattle.std.proofs.Common.{Err, ap, sym}
use mathlib.Core.Bool.{not}
use Rattle.message.proofs.filters.filter.Goals as goal
use Rattle.message.proofs.filters.filter.Goals.{Else-not-are_counts, Else-not-has_room, Else-not-in_range}

-- what the tests before a place have shown
counted : (c : Else-not-are_counts) → let a = c.args in are_counts a.size a.counts.now ≡ true
counted c = test_granted c.are_counts.ensures (ap not c.if-not-are_counts.false)

ranged : (c : Else-not-in_range) → let a = c.args in in_range a.size a.salt ≡ true
ranged c = test_granted c.in_range.ensures (ap not c.if-not-in_range.false)

roomy : (c : Else-not-has_room) → let a = c.args in has_room a.size (columns a.ids.now a.hashes.now a.counts.now) ≡ true
roomy c = test_granted c.has_room.ensures (ap not c.if-not-has_room.false)

pub slice_bounds-width_for-end : goal.slice_bounds-width_for-end
slice_bounds-width_for-end c = let wide = wide_of _ _ (roomy (goal.at.slice_bounds-width_for-end c).Else-not-has_room) in
    sym (length-take-le c.args.size c.args.counts.now wide.counts)

pub width_for-width-requires : goal.width_for-width-requires
width_for-width-requires c = counted (goal.at.width_for-width-requires c).Else-not-are_counts

pub filter_bytes-requires : goal.filter_bytes-requires
filter_bytes-requires c = (range-sound _ _ (ranged (goal.at.filter_bytes-requires c).Else-not-in_range)).most

pub returns-in_err-room_for : goal.returns-in_err-room_for
unfolding width_for
returns-in_err-room_for c = let a = c.args in
    let cols = columns a.ids.now a.hashes.now a.counts.now in
    let p = goal.at.returns-in_err-room_for c in
    let short = room-short a.at c.filter_bytes.result (length a.out.now) c.room_for.ensures c.in_err-room_for.was in
    ap (λ r. write r a.out.now) (handed-on c.from_residual.ensures ∙ ap Err short.1)
    ∙ filter_short_buffer a.size a.salt cols a.at a.out.now (counted p.Else-not-are_counts) (ranged p.Else-not-in_range) (roomy p.Else-not-has_room)
    c.width_for-width.ensures c.filter_bytes.ensures short.0

pub put_filter-requires : goal.put_filter-requires
unfolding width_for
put_filter-requires c = let a = c.args in
    let cols = columns a.ids.now a.hashes.now a.counts.now in
    let p = goal.at.put_filter-requires c in
    let there = room-there a.at c.filter_bytes.result (length a.out.now) c.room_for.ensures c.in_ok-room_for.was in
    filter_put a.size a.salt cols a.at a.out.now (counted p.Else-not-are_counts) (ranged p.Else-not-in_range) (roomy p.Else-not-has_room)
    c.width_for-width.ensures c.filter_bytes.ensures there.0

pub returns : goal.returns
unfolding width_for
returns c = let a = c.args in
    let cols = columns a.ids.now a.hashes.now a.counts.now in
    let p = goal.at.returns c in
    let put = c.put_filter.ensures in
    let there = room-there a.at c.filter_bytes.result (length a.out.now) c.room_for.ensures c.in_ok-room_for.was in
    filter_written a.size a.salt cols a.at a.out.now (counted p.Else-not-are_counts) (ranged p.Else-not-in_range) (roomy p.Else-not-has_room)
    c.width_for-width.ensures c.filter_bytes.ensures there.0 put.0 put.1
