-- `judging::all_zero` meets its contract: from the last bucket down, each is zero. Assumes nothing.
use mathlib.Core.Path.{◌∙◌}
use Rattle.std.proofs.Common.{rules, tests}
use Rattle.std.proofs.lemmas.Iterator.Search.{all_from_yields_List}
use Rattle.bucket.specs.Columns.{columns, view}
use Rattle.bucket.specs.Bucket.{is_zero}
use Rattle.filter.proofs.JudgeLaws.{yields_down, zero-down}
use Rattle.filter.proofs.judging.all_zero.Goals as goal

pub returns : goal.returns
unfolding view
returns c = let a = c.args in
    let f = view (columns a.ids.now a.hashes.now a.counts.now) in
    all_from_yields_List (λ i. is_zero (f i)) _ _ _ c.all.ensures.ran (yields_down a.n c.rev.ensures.source) (λ x b q k. search (rules, tests))
    ∙ zero-down f a.n
