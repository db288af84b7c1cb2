-- `reading::subtract` meets its contract: turned signs make the received filter's opposite, and our filter is added to it. Assumes nothing.
use mathlib.Core.Path.{sym, ap, ◌∙◌, subst}
use Prim.Native.Nat.{ℕ, ◌^◌}
use native.Mathlib.Omega.{arith}
use Rattle.bucket.specs.Bucket.{Bucket, neg}
use Rattle.bucket.specs.Columns.{columns, view}
use Rattle.bucket.specs.Places.{place_count}
use Rattle.filter.specs.Table.{first_eight, ids_of}
use Rattle.filter.specs.Filter.{rule, filter_of, difference}
use Rattle.filter.specs.Steps.{Wide, Small}
use Rattle.filter.proofs.FilledLaws.{wide-filled}
use Rattle.filter.proofs.FormLaws.{counts-small}
use Rattle.filter.proofs.NegatedLaws.{negated-filled, negated-small}
use Rattle.filter.proofs.SpreadLaws.{small-more}
use Rattle.filter.proofs.PartLaws.{range-sound, subtracted-after}
use Rattle.filter.proofs.TableLaws.{table-count}
use Rattle.filter.proofs.LayerLaws.{one-wide, one-small, added_filter}
use Rattle.filter.proofs.reading.subtract.Goals as goal

pub negate-requires : goal.negate-requires
negate-requires c = let r = c.requires.1 in
    (r.wide.counts, λ i h. let k = (counts-small c.args.size (columns c.args.ids.now c.args.hashes.now c.args.counts.now) r.wide r.counts).all i h in omega arith)

pub add_table-requires : goal.add_table-requires
add_table-requires c = let r = c.requires.1 in (
  c.requires.0,
  rw c.place_count-k.ensures (range-sound c.args.size c.args.salt r.range),
  omega arith,
  table-count c.args.table.now r.table,
  one-wide c.args.size _ (subst (Wide c.args.size) (sym (ap (columns c.args.ids.now c.args.hashes.now) c.negate.ensures ∙ negated-filled c.args.size c.args.ids.now c.args.hashes.now c.args.counts.now)) (wide-filled c.args.size c.args.size (λ i. neg (view (columns c.args.ids.now c.args.hashes.now c.args.counts.now) i)) (columns c.args.ids.now c.args.hashes.now c.args.counts.now) r.wide)),
  one-small c.args.size (2 ^ 33) _ (subst (λ cs. Small c.args.size (2 ^ 33) (columns c.args.ids.now c.args.hashes.now cs)) (sym c.negate.ensures)
      (small-more c.args.size (2 ^ 32) (2 ^ 33) _ (omega arith)
      (negated-small c.args.size (2 ^ 32) c.args.ids.now c.args.hashes.now c.args.counts.now r.wide.counts
      (counts-small c.args.size (columns c.args.ids.now c.args.hashes.now c.args.counts.now) r.wide r.counts)))),
)

pub returns : goal.returns
unfolding difference
returns c = let r = c.requires.1 in
    let c₀ = columns c.args.ids.now c.args.hashes.now c.args.counts.now in
    let filter : ℕ → ℕ → Bucket = λ k. filter_of (rule k c.args.size c.args.salt) (ids_of first_eight c.args.table.now) in
    subtracted-after c.args.size (filter (place_count c.args.size)) c₀ r.wide
    (ap (columns c.args.ids.now c.args.hashes.now) c.negate.ensures
    ∙ negated-filled c.args.size c.args.ids.now c.args.hashes.now c.args.counts.now)
    (ap filter c.place_count-k.ensures) (added_filter c.place_count-k.result c.args.size c.args.salt (ids_of first_eight c.args.table.now) _ _ c.add_table.ensures)
