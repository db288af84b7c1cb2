-- `estimator::fill` meets its contract: the columns are cleared, and the table's estimator is added to nothing. Assumes nothing.
use mathlib.Core.Path.{refl, sym, subst}
use Prim.Native.Nat.{◌^◌}
use native.Mathlib.Omega.{arith}
use Rattle.bucket.specs.Bucket.{𝟎}
use Rattle.bucket.specs.Columns.{columns}
use Rattle.filter.specs.Table.{first_eight, ids_of}
use Rattle.filter.specs.Filter.{filter_of}
use Rattle.filter.specs.Estimator.{estimator_rule}
use Rattle.filter.specs.Steps.{Wide, Small}
use Rattle.filter.proofs.FilledLaws.{wide_of, wide-filled}
use Rattle.filter.proofs.PartLaws.{small-cleared, built-after}
use Rattle.filter.proofs.TableLaws.{table-count}
use Rattle.filter.proofs.LayerLaws.{added_estimator}
use Rattle.filter.proofs.estimator.fill.Goals as goal

pub clear_columns-requires : goal.clear_columns-requires
clear_columns-requires c = wide_of _ _ c.requires.1

pub add_table-requires : goal.add_table-requires
add_table-requires c = let c₀ = columns c.args.ids.now c.args.hashes.now c.args.counts.now in
    let w = wide_of 2528 c₀ c.requires.1 in
    let e = c.clear_columns.ensures in (
      c.tables-tab.ensures,
      record { least = omega arith; most = omega arith; some = omega arith; few = omega arith; salt_in = omega arith },
      omega arith,
      table-count c.args.table.now c.requires.0,
      subst (Wide 2528) (sym e) (wide-filled 2528 2528 (λ i. 𝟎) c₀ w),
      subst (Small 2528 (2 ^ 33)) (sym e) (small-cleared 2528 c₀ w),
    )

pub returns : goal.returns
returns c = let c₀ = columns c.args.ids.now c.args.hashes.now c.args.counts.now in
    built-after 2528 (filter_of (estimator_rule 0) (ids_of first_eight c.args.table.now)) c₀ (wide_of 2528 c₀ c.requires.1)
    c.clear_columns.ensures refl (added_estimator 0 (ids_of first_eight c.args.table.now) _ _ c.add_table.ensures)
