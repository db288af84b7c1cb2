use native.Mathlib.Omega.{arith}
use Rattle.filter.specs.Repeats.{Placed}
use Rattle.filter.proofs.RepeatLaws.{elem_some, search-none, search-start, search_on, search-end}
use Rattle.filter.proofs.repeats.find.Goals as goal

pub returns-in_default : goal.returns-in_default
unfolding Placed
returns-in_default c = let dead = c.root.ensures.none c.in_default.is in
    (search-none c.args.v c.requires.forest dead, dead)

pub loop-k-init : goal.loop-k-init
loop-k-init c = search-start c.args.v c.requires.forest (c.root.ensures.live c.in-Some.k c.in-Some.is)

pub bounds-links-at : goal.bounds-links-at
bounds-links-at c = omega (arith, c.loop-k.invariant.inside, c.requires.few)

pub returns-in_default-checked_sub : goal.returns-in_default-checked_sub
unfolding Placed
returns-in_default-checked_sub c = let none = c.in_default-checked_sub.ensures in
    search-end c.args.v c.requires.forest c.loop-k.invariant c.loop-k-test.true (omega arith)

pub loop-k-preserved : goal.loop-k-preserved
loop-k-preserved c = let (some, is) = rw c.from.ensures at c.in-Some-checked_sub.ensures in
    rw is (search_on c.args.v c.requires.forest c.loop-k.invariant c.loop-k-test.true some)

pub returns : goal.returns
unfolding Placed
returns c = elem_some c.args.v c.args.seen.now c.loop-k.k c.loop-k.invariant.inside c.loop-k-test.false
