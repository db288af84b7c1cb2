-- `clearing::clear_columns` meets its contract: the three stores place the zero bucket, and the invariant is that the first i buckets are filled with it.
-- Assumes nothing.
use mathlib.Core.Path.{◌≡◌}
use Rattle.bucket.specs.Bucket.{𝟎}
use Rattle.bucket.specs.Columns.{columns}
use Rattle.filter.specs.Calls.{filled}
use Rattle.filter.proofs.clearing.clear_columns.Given as goal

abbrev pub invariant-loop-i : goal.invariant-loop-i
invariant-loop-i l = columns l.ids l.hashes l.counts ≡ filled l.i (λ _. 𝟎) (columns l.initial.ids l.initial.hashes l.initial.counts)
