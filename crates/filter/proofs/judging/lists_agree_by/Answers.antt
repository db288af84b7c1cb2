-- `judging::lists_agree_by` meets its contract: each ID of a list is looked for. Assumes nothing.
use mathlib.Core.Path.{◌≡◌, sym, ap, ◌∙◌}
use mathlib.Core.Bool.{true, not}
use Rattle.std.proofs.Common.{rules, tests}
use Rattle.std.proofs.lemmas.Iterator.{YieldsList-from_slice}
use Rattle.std.proofs.lemmas.Iterator.Search.{all_from_yields_List, any_from_yields_List}
use Rattle.bucket.specs.Lists.{elem}
use Rattle.filter.specs.Steps.{every}
use Rattle.filter.specs.Table.{first_eight, ids_of}
use Rattle.filter.proofs.JudgeLaws.{every-held, every_missing}
use Rattle.filter.proofs.judging.lists_agree_by.Goals as goal
use Rattle.filter.proofs.judging.lists_agree_by.Goals.{After-all}

ours : (c : After-all) → c.all.result ≡ every true (ids_of first_eight c.args.table.bytes.now) c.args.ours.now
ours c = let ids = ids_of first_eight c.args.table.bytes.now in
    all_from_yields_List (λ a. elem a ids) _ _ _ c.all.ensures.ran (YieldsList-from_slice c.args.ours.now cc) (λ x b q k. search (rules, tests))
    ∙ every-held ids c.args.ours.now

pub returns-then-all : goal.returns-then-all
returns-then-all c = let ids = ids_of first_eight c.args.table.bytes.now in
    rw (sym (ours (goal.at.returns-then-all c).After-all) ∙ c.if-all.true)
    (ap not (any_from_yields_List (λ a. elem a ids) _ _ _ c.any.ensures.ran (YieldsList-from_slice c.args.theirs.now cc) (λ x b q k. search (rules, tests)))
    ∙ every_missing ids c.args.theirs.now)

pub returns-else-all : goal.returns-else-all
returns-else-all c = rw (sym (ours (goal.at.returns-else-all c).After-all) ∙ c.if-all.false) c.if-all.false
