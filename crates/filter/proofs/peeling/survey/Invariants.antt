-- The buckets are tested one after the other: after b of them those below b that look pure are marked. Assumes nothing.
use mathlib.Core.Path.{◌≡◌}
use Rattle.bucket.specs.Columns.{columns, view}
use Rattle.filter.specs.Filter.{rule}
use Rattle.filter.specs.Marks.{marks}
use Rattle.filter.proofs.ShowLaws.{shows_below}
use Rattle.filter.proofs.peeling.survey.Given as goal

abbrev pub invariant-loop-b : goal.invariant-loop-b
invariant-loop-b l = l.shown ≡ marks (shows_below (rule l.k l.size 0) (view (columns l.ids l.hashes l.counts)) l.b)
