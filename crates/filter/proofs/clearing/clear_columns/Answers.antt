use mathlib.Core.Path.{◌≡◌, ap, ◌∙◌}
use Prim.Native.Nat.{ℕ}
use native.Mathlib.Omega.{arith}
use Rattle.bucket.specs.Bucket.{𝟎}
use Rattle.bucket.specs.Columns.{Columns, columns, place}
use Rattle.bucket.proofs.ColumnLaws.{SameLengths}
use Rattle.filter.specs.Calls.{filled}
use Rattle.filter.specs.Steps.{Wide}
use Rattle.filter.proofs.FilledLaws.{filled_none, filled_next, filled_is_lengths, wide-same}
use Rattle.filter.proofs.clearing.clear_columns.Goals as goal
use Rattle.filter.proofs.clearing.clear_columns.Goals.{At-loop-i}

lengths : (c : At-loop-i)
    → SameLengths (columns c.loop-i.ids c.loop-i.hashes c.loop-i.counts) (columns c.args.ids.now c.args.hashes.now c.args.counts.now)
lengths c = let w = c.loop-i in
    let a = c.args in
    filled_is_lengths w.i (λ _. 𝟎) (columns a.ids.now a.hashes.now a.counts.now) (columns w.ids w.hashes w.counts)
    w.invariant

inside : (c : At-loop-i) → Wide c.args.n (columns c.loop-i.ids c.loop-i.hashes c.loop-i.counts)
inside c = wide-same _ _ _ (lengths c) c.requires

pub loop-i-init : goal.loop-i-init
loop-i-init c = filled_none (λ _. 𝟎) (columns c.args.ids.now c.args.hashes.now c.args.counts.now)

pub offset_bounds-ids-i : goal.offset_bounds-ids-i
offset_bounds-ids-i c = let w = inside (goal.at.offset_bounds-ids-i c).At-loop-i in omega arith

pub bounds-ids-i : goal.bounds-ids-i
bounds-ids-i c = let w = inside (goal.at.bounds-ids-i c).At-loop-i in omega arith

pub offset_bounds-hashes-i : goal.offset_bounds-hashes-i
offset_bounds-hashes-i c = let w = inside (goal.at.offset_bounds-hashes-i c).At-loop-i in omega arith

pub bounds-hashes-i : goal.bounds-hashes-i
bounds-hashes-i c = let w = inside (goal.at.bounds-hashes-i c).At-loop-i in omega arith

pub offset_bounds-counts-i : goal.offset_bounds-counts-i
offset_bounds-counts-i c = let w = inside (goal.at.offset_bounds-counts-i c).At-loop-i in omega arith

pub slice_set_of-counts : goal.slice_set_of-counts
slice_set_of-counts c = let w = inside (goal.at.slice_set_of-counts c).At-loop-i in omega arith

pub loop-i-preserved : goal.loop-i-preserved
unfolding place 𝟎
loop-i-preserved c = let w = c.loop-i in
    let a = c.args in
    ap (λ (d : Columns). place d w.i 𝟎) w.invariant ∙ filled_next w.i (λ _. 𝟎) (columns a.ids.now a.hashes.now a.counts.now)

pub shape_of-ids : goal.shape_of-ids
shape_of-ids c = (lengths (goal.at.shape_of-ids c).At-loop-i).0

pub shape_of-hashes : goal.shape_of-hashes
shape_of-hashes c = (lengths (goal.at.shape_of-hashes c).At-loop-i).1

pub shape_of-counts : goal.shape_of-counts
shape_of-counts c = (lengths (goal.at.shape_of-counts c).At-loop-i).2

pub returns : goal.returns
returns c = let w = c.loop-i in
    let a = c.args in
    let e : w.i ≡ a.n = omega arith in
    w.invariant ∙ ap (λ (m : ℕ). filled m (λ _. 𝟎) (columns a.ids.now a.hashes.now a.counts.now)) e
