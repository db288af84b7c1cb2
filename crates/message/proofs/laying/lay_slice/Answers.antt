-- `message::laying::lay_slice` meets its contract: where each column has room, the three are laid one by one. Assumes nothing.
use Prim.Native.Nat.{ℕ, ◌+◌, ◌-◌, ◌*◌}
use native.Mathlib.Nat.{add-sub_cancel_left}
use native.Mathlib.Omega.{arith}
use Rattle.bucket.specs.Columns.{columns}
use Rattle.bucket.specs.Digits.{unpacked}
use Rattle.bucket.specs.Lists.{part}
use Rattle.bucket.proofs.OverLaws.{part_length}
use Rattle.bucket.proofs.PackedLaws.{unpacked-length}
use Rattle.bucket.proofs.TestLaws.{test_granted}
use Rattle.filter.specs.Steps.{Wide}
use Rattle.filter.proofs.FilledLaws.{wide_of}
use Rattle.message.proofs.LayLaws.{laid-part, buckets_laid_lem}
use Rattle.std.proofs.Common.{◌≡◌, ap, ap₂, ◌∙◌, length}
use mathlib.Core.Bool.{not}
use Rattle.message.proofs.laying.lay_slice.Goals as goal
use Rattle.message.proofs.laying.lay_slice.Goals.{Else-not-has_room}

-- where each column has room
wide : (c : Else-not-has_room) → Wide (c.args.slice.offset + c.args.slice.count)
    (columns c.args.ids.now c.args.hashes.now c.args.counts.now)
wide c = wide_of _ _ (test_granted c.has_room.ensures (ap not c.if-not-has_room.false))

pub slice_bounds-lay_numbers-end-2 : goal.slice_bounds-lay_numbers-end-2
slice_bounds-lay_numbers-end-2 c = omega (arith, (wide (goal.at.slice_bounds-lay_numbers-end-2 c).Else-not-has_room).idsums)

pub slice_bounds-lay_numbers-end-4 : goal.slice_bounds-lay_numbers-end-4
slice_bounds-lay_numbers-end-4 c = omega (arith, (wide (goal.at.slice_bounds-lay_numbers-end-4 c).Else-not-has_room).hashsums)

pub returns : goal.returns
returns c = let a = c.args in
    let b = a.slice in
    let room = wide (goal.at.returns c).Else-not-has_room in
    let lent : length (part b.offset (b.offset + b.count - b.offset) a.ids.now) ≡ b.count = rw add-sub_cancel_left (part_length b.offset a.ids.now b.count room.idsums) in
    let ids = c.lay_numbers.ensures ∙ ap₂ (λ (n k : ℕ). unpacked 64 n (part 16 k a.s.now)) lent (add-sub_cancel_left 16 (8 * b.count)) in
    let hashes = rw (add-sub_cancel_left b.offset b.count, part_length b.offset a.hashes.now b.count room.hashsums, add-sub_cancel_left) at c.lay_numbers-2.ensures in
    buckets_laid_lem b.offset b.width b.count a.s.now (columns a.ids.now a.hashes.now a.counts.now)
    (test_granted c.has_room.ensures (ap not c.if-not-has_room.false))
    c.requires.2
    (laid-part b.offset b.count _ _ a.ids.now room.idsums ids (unpacked-length 64 b.count _))
    (laid-part b.offset b.count _ _ a.hashes.now room.hashsums hashes (unpacked-length 32 b.count _))
    c.unpack.ensures.1
