-- The bucket is open to the element, so it loses it; its new look is the code's test, and no other bucket has changed. Assumes nothing.
use mathlib.Core.Path.{◌≡◌, ap, ◌∙◌}
use mathlib.Core.Bool.{true}
use native.Mathlib.Omega.{arith}
use Rattle.bucket.specs.Bucket.{bucket, ◌⊕◌, neg}
use Rattle.bucket.specs.Columns.{Columns, columns, view, place, is_small}
use Rattle.bucket.proofs.SmallLaws.{small-minus, small-minus-fits}
use Rattle.filter.specs.Filter.{rule}
use Rattle.filter.specs.Peeling.{is_pure}
use Rattle.filter.proofs.ShowLaws.{shows-place}
use Rattle.filter.proofs.SpreadLaws.{abs_small}
use Rattle.filter.proofs.TakingLaws.{taking_open}
use Rattle.filter.proofs.peeling.settle.Goals as goal
use Rattle.filter.proofs.peeling.settle.Goals.{After-put_at, Start}

small-here : (c : Start) → is_small c.args.s ≡ true
small-here c = abs_small c.args.s (omega (arith, c.requires.one))

-- what the bucket lost
gone : (c : After-put_at) → let a = c.args in
    let was : Columns = columns a.ids.now a.hashes.now a.counts.now in
    let t = c.put_at in
    columns t.new.ids t.new.hashes t.new.counts ≡ place was a.b (view was a.b ⊕ neg (bucket a.x a.h a.s))
unfolding neg
gone c = rw (small-minus c.args.s (abs_small c.args.s (omega (arith, c.requires.one)))) at c.put_at.ensures

pub overflow_sub-s : goal.overflow_sub-s
overflow_sub-s c = small-minus-fits c.args.s (small-here (goal.at.overflow_sub-s c).Start)

pub put_at-requires : goal.put_at-requires
unfolding neg
put_at-requires c = let a = c.args in
    rw (small-minus a.s (small-here (goal.at.put_at-requires c).Start))
    (taking_open (columns a.ids.now a.hashes.now a.counts.now) a.size a.b (bucket a.x a.h a.s)
    c.requires.wide c.requires.small c.requires.inside c.requires.one)

pub returns-clause-taken : goal.returns-clause-taken
returns-clause-taken c = gone (goal.at.returns-clause-taken c).After-put_at

pub returns-clause-shown : goal.returns-clause-shown
returns-clause-shown c = let a = c.args in
    let was : Columns = columns a.ids.now a.hashes.now a.counts.now in
    let done = gone (goal.at.returns-clause-shown c).After-put_at in
    rw (c.mark.ensures, c.requires.shown, done)
    (shows-place (rule a.k a.size 0) a.b was (view was a.b ⊕ neg (bucket a.x a.h a.s)) c.looks_pure.result c.requires.inside
    (c.looks_pure.ensures ∙ ap (λ (q : Columns). is_pure (rule a.k a.size 0) a.b (view q a.b)) done))
