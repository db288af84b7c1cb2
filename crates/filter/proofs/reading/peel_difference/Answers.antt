-- `reading::peel_difference` meets its contract: the columns hold the difference and the lists zeros, and the peeling is the definition's.
-- Assumes nothing.
use mathlib.Core.List.{[]}
use Prim.Native.Nat.{ℕ}
use native.Mathlib.Omega.{arith}
use Rattle.bucket.specs.Bucket.{Bucket}
use Rattle.bucket.specs.Columns.{Columns, columns, view}
use Rattle.bucket.specs.Places.{place_count}
use Rattle.filter.specs.Table.{first_eight, ids_of}
use Rattle.filter.specs.Filter.{filter_rule, difference}
use Rattle.filter.proofs.FilledLaws.{wide-filled}
use Rattle.filter.proofs.PartLaws.{range-sound, small-difference}
use Rattle.filter.proofs.TableLaws.{table-count, ids-length}
use Rattle.filter.proofs.CallLaws.{listed-length, peels_call, looked_call}
use Rattle.filter.proofs.reading.peel_difference.Goals as goal
use Rattle.filter.proofs.reading.peel_difference.Goals.{Start}

-- the columns that were given, and the difference
abbrev received : Start → Columns
received c = let a = c.args in
    columns a.ids.now a.hashes.now a.counts.now

abbrev minus : Start → ℕ → Bucket
minus c = let a = c.args in
    difference (filter_rule a.size a.salt) (ids_of first_eight a.table.now) (view (received c))

pub peel-requires : goal.peel-requires
peel-requires c = let a = c.args in
    let r = c.requires.received in
    let e = c.subtract.ensures in record {
      tables = c.tables-tab.ensures;
      sound = rw c.place_count-k.ensures (range-sound a.size a.salt r.range);
      wide = rw e (wide-filled a.size a.size (minus (goal.at.peel-requires c).Start) (received (goal.at.peel-requires c).Start) r.wide);
      small = rw e (small-difference (filter_rule a.size a.salt) (ids_of first_eight a.table.now) a.size (received (goal.at.peel-requires c).Start) r.wide r.counts
          (omega (arith, ids-length first_eight a.table.now, table-count a.table.now r.table)));
      ours_room = rw c.clear_list.ensures
          (omega (arith, listed-length a.size [] a.ours.now (omega arith) c.requires.ours-room, c.requires.ours-room));
      theirs_room = rw c.clear_list-2.ensures
          (omega (arith, listed-length a.size [] a.theirs.now (omega arith) c.requires.theirs-room, c.requires.theirs-room));
    }

pub returns : goal.returns
returns c = let a = c.args in
    let k = c.place_count-k in (
      peels_call a.size a.salt (place_count a.size) (minus (goal.at.returns c).Start) (received (goal.at.returns c).Start) c.requires.received.wide k.result k.ensures
          c.subtract.ensures c.clear_list.ensures c.clear_list-2.ensures c.peel.ensures.peels,
      looked_call a.size a.salt (place_count a.size) (minus (goal.at.returns c).Start) (received (goal.at.returns c).Start) c.requires.received.wide k.result k.ensures
          c.subtract.ensures c.peel.ensures.looked,
    )
