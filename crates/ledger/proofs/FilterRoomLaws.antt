-- A session's own filter: its counts are counts, and its messages take at most 65,568 bytes, so it is written where there is room for them.
--
--   next_in_range            the filter after a swap has a size and a salt in range
--   own                      the columns of the filter made by the rules from IDs; own-counts, own_room: counts, and room
--   own_filter_room          the bytes of its messages
--   own_filter_writes        it is written
--   own_filter_sent          what building leaves is written
--
-- Assumes nothing.
use mathlib.Core.Path.{◌≡◌, refl, ap, ◌∙◌}
use mathlib.Core.Bool.{Bool, true, false, cond}
use mathlib.Core.List.{List}
use mathlib.Core.Logic.{◌≢◌}
use Prim.Native.Nat.{ℕ, ◌+◌, ◌*◌, ◌≤◌, ◌<◌}
use native.Mathlib.Nat.{mul-le-mul}
use native.Mathlib.Omega.{arith}
use borrow.Author.Tests.{eqb-false, ltb-true, le-leb, lt-ltb}
use lib.Dec.{eqb, ltb}
use lib.IntN.{ℤ, pos}
use lib.ListN.{length, replicate, length-replicate}
use Rattle.bucket.specs.Columns.{Columns, columns}
use Rattle.bucket.proofs.TestLaws.{and_holds}
use Rattle.filter.specs.Calls.{in_range, are_counts, has_room, filled, Build, built, build_refusal, build_call}
use Rattle.filter.specs.Filter.{filter_rule, filter_of}
use Rattle.filter.specs.Steps.{Wide}
use Rattle.filter.specs.Table.{first_eight, ids_of, is_table}
use Rattle.filter.proofs.TableLaws.{ids-length, table-count}
use Rattle.filter.proofs.MadeLaws.{made-counts, made-room}
use Rattle.filter.proofs.FilledLaws.{wide_of}
use Rattle.filter.proofs.PartLaws.{range-sound}
use Rattle.message.specs.Layout.{in_slice, slice_bytes}
use Rattle.message.specs.Putting.{filter_bytes}
use Rattle.message.specs.Writing.{layouts, width_for, Write, filter_call}
use Rattle.message.proofs.SliceLaws.{filter_length}
use Rattle.message.proofs.WidthLaws.{width-smallest}
use Rattle.ledger.specs.Session.{next_salt, next_size, own_filter}
use Rattle.ledger.proofs.SendLaws.{written, filter_writes}

-- ---- the next filter

pub next-salt : (n : ℕ) → n < 64 → next_salt n < 64
unfolding next_salt
next-salt n h = go (eqb n 63) refl
  where
    go : (b : Bool) → eqb n 63 ≡ b → cond b 0 (n + 1) < 64
    go true e = omega arith
    go false e = let ne : n ≢ 63 = eqb-false n 63 e in omega arith

pub next-size : (n : ℕ) → 37 ≤ n → (37 ≤ next_size n) × (next_size n ≤ 4096)
unfolding next_size
next-size n h = (omega arith, omega arith)

pub next_in_range : (size salt : ℕ) → 37 ≤ size → salt < 64 → in_range (next_size size) (next_salt salt) ≡ true
unfolding in_range
next_in_range size salt least small =
    let (low, high) = next-size size least in
    and_holds (le-leb 37 (next_size size) low) (and_holds (le-leb (next_size size) 4096 high) (lt-ltb (next_salt salt) 64 (next-salt salt small)))

-- ---- at width 32 a bucket takes 16 bytes

slice-most : (w n : ℕ) → w ≤ 32 → slice_bytes w n ≤ 16 + 16 * n
slice-most w n h = let k : w * n ≤ 32 * n = mul-le-mul h (omega arith) in omega arith

filter_most : (w size : ℕ) → w ≤ 32 → size ≤ 4096 → filter_bytes w size ≤ 65568
filter_most w size h k = go (ltb 2520 size) refl
  where
    go : (t : Bool) → ltb 2520 size ≡ t → slice_bytes w (in_slice size 0) + cond t (slice_bytes w (in_slice size 2520)) 0 ≤ 65568
    go true e = omega (arith, ltb-true 2520 size e, slice-most w (in_slice size 0) h, slice-most w (in_slice size 2520) h)
    go false e = omega (arith, slice-most w (in_slice size 0) h)

-- ---- the columns that it is built in

abbrev pub blank : Columns
blank = columns (replicate 4096 0) (replicate 4096 0) (replicate 4096 (pos 0))

pub blank-wide : (size : ℕ) → size ≤ 4096 → Wide size blank
blank-wide size h = record {
  idsums = omega (arith, length-replicate {A = ℕ} 4096 0);
  hashsums = omega (arith, length-replicate {A = ℕ} 4096 0);
  counts = omega (arith, length-replicate {A = ℤ} 4096 (pos 0));
}

module _ (ids : List ℕ) (size salt : ℕ) (few : length ids ≤ 4096) (range : in_range size salt ≡ true) where
  abbrev pub own : Columns
  own = filled size (filter_of (filter_rule size salt) ids) blank

  pub own-counts : are_counts size own.counts ≡ true
  own-counts = made-counts (filter_rule size salt) ids few size blank (blank-wide size (range-sound size salt range).most)

  pub own_room : has_room size own ≡ true
  own_room = made-room (filter_rule size salt) ids few size blank (blank-wide size (range-sound size salt range).most)

  pub own_filter_room : length (layouts (own_filter ids size salt)) ≤ 65568
  unfolding own_filter
  own_filter_room =
      let k = wide_of size own own_room in
      let w = width_for size own.counts in
      omega (
        arith,
        filter_length size salt w own k.idsums k.hashsums k.counts,
        filter_most w size (width-smallest size own.counts own-counts).most (range-sound size salt range).most,
      )

  pub own_filter_writes : (at : ℕ) (out : List ℕ) → at + 65568 ≤ length out → filter_call size salt own at out ≡ written (own_filter ids size salt) at out
  unfolding own_filter
  own_filter_writes at out h = filter_writes size salt own at out own-counts range own_room (omega (arith, own_filter_room))

-- ---- building and writing

-- a table's filter is built in columns that are wide enough
built-there : (t : List ℕ) (size salt : ℕ) (c : Columns) → is_table first_eight t ≡ true → in_range size salt ≡ true → Wide size c
    → (build_call first_eight size salt t c).columns ≡ filled size (filter_of (filter_rule size salt) (ids_of first_eight t)) c
unfolding build_call build_refusal has_room
built-there t size salt c h k w = rw (h, k, le-leb _ _ w.idsums, le-leb _ _ w.hashsums, le-leb _ _ w.counts)

-- what building leaves in blank columns is written whole
module _ (t : List ℕ) (size salt : ℕ) (out : List ℕ) (table : is_table first_eight t ≡ true) (range : in_range size salt ≡ true) (room : 65568 ≤ length out) where
  few : length (ids_of first_eight t) ≤ 4096
  few = omega (arith, ids-length first_eight t, table-count t table)

  pub own_filter_sent : {n : ℕ} {c : Columns} {w : Write} → built n c ≡ build_call first_eight size salt t blank → w ≡ filter_call size salt c 0 out
      → w ≡ written (own_filter (ids_of first_eight t) size salt) 0 out
  own_filter_sent b e =
      e
      ∙ ap (λ (d : Columns). filter_call size salt d 0 out)
      (ap (λ (d : Build). d.columns) b ∙ built-there t size salt blank table range (blank-wide size (range-sound size salt range).most))
      ∙ own_filter_writes (ids_of first_eight t) size salt few range 0 out (omega arith)
