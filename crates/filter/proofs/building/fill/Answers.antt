-- `building::fill` meets its contract: the columns are cleared, and the table's filter is added to nothing. Assumes nothing.
use mathlib.Core.Path.{sym, ap, subst}
use Prim.Native.Nat.{ℕ, ◌^◌}
use native.Mathlib.Omega.{arith}
use Rattle.bucket.specs.Bucket.{Bucket, 𝟎}
use Rattle.bucket.specs.Columns.{Columns, columns}
use Rattle.bucket.specs.Places.{place_count}
use Rattle.filter.specs.Table.{first_eight, ids_of}
use Rattle.filter.specs.Filter.{rule, filter_of}
use Rattle.filter.specs.Steps.{Wide, Small}
use Rattle.filter.proofs.FilledLaws.{wide_of, wide-filled}
use Rattle.filter.proofs.PartLaws.{range-sound, small-cleared, built-after}
use Rattle.filter.proofs.TableLaws.{table-count}
use Rattle.filter.proofs.LayerLaws.{one-wide, one-small, added_filter}
use Rattle.filter.proofs.building.fill.Goals as goal
use Rattle.filter.proofs.building.fill.Goals.{Start}

-- the columns that were given
abbrev given : Start → Columns
given c = columns c.args.ids.now c.args.hashes.now c.args.counts.now

pub clear_columns-requires : goal.clear_columns-requires
clear_columns-requires c = wide_of _ _ c.requires.2

pub add_table-requires : goal.add_table-requires
add_table-requires c = let n = c.args.size in
    let w = wide_of n (given (goal.at.add_table-requires c).Start) c.requires.2 in
    let e = c.clear_columns.ensures in (
      c.tables-tab.ensures,
      rw c.place_count-k.ensures (range-sound n c.args.salt c.requires.1),
      omega arith,
      table-count c.args.table.now c.requires.0,
      one-wide n _ (subst (Wide n) (sym e) (wide-filled n n (λ i. 𝟎) (given (goal.at.add_table-requires c).Start) w)),
      one-small n (2 ^ 33) _ (subst (Small n (2 ^ 33)) (sym e) (small-cleared n (given (goal.at.add_table-requires c).Start) w)),
    )

pub returns : goal.returns
returns c = let n = c.args.size in
    let ids = ids_of first_eight c.args.table.now in
    let filter : ℕ → ℕ → Bucket = λ k. filter_of (rule k n c.args.salt) ids in
    let k = c.place_count-k in
    built-after n (filter (place_count n)) (given (goal.at.returns c).Start) (wide_of n (given (goal.at.returns c).Start) c.requires.2)
    c.clear_columns.ensures (ap filter k.ensures) (added_filter k.result n c.args.salt ids _ _ c.add_table.ensures)
