-- The writing of a whole filter: each answer is the definition's at the test that failed, and behind them the slices are put, all of them good.
-- Assumes nothing.
use mathlib.Core.Path.{◌≡◌, refl, sym, ap, ◌∙◌}
use mathlib.Core.Bool.{Bool, true, false, ◌||◌, cond}
use mathlib.Core.List.{List, [], ◌∷◌}
use Prim.Native.Nat.{ℕ, ◌+◌, ◌≤◌, ◌<◌}
use native.Mathlib.Omega.{arith}
use borrow.Author.Tests.{leb-true, ltb-true, le-leb, lt-ltb}
use lib.Dec.{eqb, ltb, leb}
use lib.ListN.{length, take, length-map}
use Rattle.std.specs.Prelude.{Ok, Err}
use Rattle.bucket.specs.Columns.{Columns}
use Rattle.bucket.specs.Digits.{Below}
use Rattle.bucket.specs.Lists.{over, part}
use Rattle.bucket.specs.Packing.{number}
use Rattle.bucket.proofs.OverLaws.{part_length}
use Rattle.bucket.proofs.RoundLaws.{numbers-below}
use Rattle.bucket.proofs.TestLaws.{and_holds}
use Rattle.filter.specs.declared.answers.Refusal.TheVariants.{Room}
use Rattle.filter.specs.Calls.{in_range, are_counts, has_room}
use Rattle.filter.proofs.FilledLaws.{wide_of}
use Rattle.filter.proofs.PartLaws.{range-sound}
use Rattle.message.specs.Layout.{Good, in_slice}
use Rattle.message.specs.Writing.{layouts, width_for, slice_at, slices_of, write, wrote, filter_call}
use Rattle.message.specs.Putting.{filter_bytes, FilterPut}
use Rattle.message.proofs.BackLaws.{AllGoodContents}
use Rattle.message.proofs.SliceLaws.{fits-part, below-part, filter_length}
use Rattle.message.proofs.WidthLaws.{width-smallest}
use Rattle.message.proofs.WriteLaws.{room_tested, wrote-there}

-- ---- the answers

module _ (size salt : ℕ) (c : Columns) (at : ℕ) (out : List ℕ) where
  module _ (counts : are_counts size c.counts ≡ true) where
    module _ (range : in_range size salt ≡ true) where
      module _ (wide : has_room size c ≡ true) {w n : ℕ} (ew : w ≡ width_for size c.counts) (en : n ≡ filter_bytes w size) where
        bytes : length (layouts (slices_of size salt (width_for size c.counts) c)) ≡ n
        bytes =
            let k = wide_of size c wide in
            filter_length size salt (width_for size c.counts) c k.idsums k.hashsums k.counts
            ∙ sym (en ∙ ap (λ (v : ℕ). filter_bytes v size) ew)

        pub filter_short_buffer : leb (at + n) (length out) ≡ false → write (Err Room) out ≡ filter_call size salt c at out
        unfolding filter_call wrote
        filter_short_buffer e = rw (counts, range, wide, room_tested (slices_of size salt (width_for size c.counts) c) at out n bytes e)

        module _ (there : leb (at + n) (length out) ≡ true) where
          pub filter_put : FilterPut size w c out at
          filter_put =
              let k = wide_of size c wide in
              let s = range-sound size salt range in
              let least = width-smallest size c.counts counts in
              record {
                some = rw ew least.some;
                most = rw ew least.most;
                low = omega arith;
                high = s.most;
                ids-there = k.idsums;
                hashes-there = k.hashsums;
                counts-there = k.counts;
                counts-fit = rw ew least.holds;
                room = omega (arith, leb-true (at + n) (length out) there);
              }

          pub filter_written : {p : ℕ} {o : List ℕ} → p ≡ at + filter_bytes w size → o ≡ over at (layouts (slices_of size salt w c)) out
              → write (Ok p) o ≡ filter_call size salt c at out
          unfolding filter_call
          filter_written {p} {o} ep eo =
              let cs = slices_of size salt (width_for size c.counts) c in
              rw (counts, range, wide, room_tested cs at out n bytes there)
              (wrote-there cs at out n bytes refl (eo ∙ ap (λ (v : ℕ). over at (layouts (slices_of size salt v c)) out) ew) (ep ∙ ap (λ (m : ℕ). at + m) (sym en)))

-- ---- what was written

module _ (size salt : ℕ) (c : Columns) (counts : are_counts size c.counts ≡ true) (range : in_range size salt ≡ true) (wide : has_room size c ≡ true)
    (ids : Below 64 (take size c.idsums)) (hashes : Below 32 (take size c.hashsums)) where
  pub slice-good : (offset : ℕ) → (eqb offset 0 || eqb offset 2520) ≡ true → offset < size → Good (slice_at size offset salt (width_for size c.counts) c)
  slice-good offset known below =
      let k = wide_of size c wide in
      let s = range-sound size salt range in
      let least = width-smallest size c.counts counts in
      let w = width_for size c.counts in
      let n = in_slice size offset in
      let inside : offset + n ≤ size = omega arith in
      record {
        ranges =
            and_holds (and_holds (and_holds (and_holds (and_holds (and_holds
            (le-leb 37 size s.least) (le-leb size 4096 s.most)) known) (lt-ltb offset size below)) (lt-ltb salt 64 s.salt_in))
            (le-leb 1 w least.some)) (le-leb w 32 least.most);
        n-ids = part_length offset c.idsums n (omega arith);
        n-hashes = part_length offset c.hashsums n (omega arith);
        n-counts = length-map (part offset n c.counts) number ∙ part_length offset c.counts n (omega arith);
        ids-fit = below-part 64 offset n size inside c.idsums ids;
        hashes-fit = below-part 32 offset n size inside c.hashsums hashes;
        counts-fit = numbers-below w (part offset n c.counts) (fits-part w offset n size inside c.counts least.holds);
      }

  -- so what was written can be read back
  pub filter_good : AllGoodContents (slices_of size salt (width_for size c.counts) c)
  unfolding slices_of
  filter_good = (slice-good 0 refl (let s = range-sound size salt range in omega arith), second (ltb 2520 size) refl)
    where
      second : (t : Bool) → ltb 2520 size ≡ t → AllGoodContents (cond t (slice_at size 2520 salt (width_for size c.counts) c ∷ []) [])
      second true e = (slice-good 2520 refl (ltb-true 2520 size e), tt)
      second false e = tt
