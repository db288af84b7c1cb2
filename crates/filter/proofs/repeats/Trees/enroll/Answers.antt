-- `Trees::enroll` meets its contract: a new number is noted at the empty place where the search for it ends. Assumes nothing.
use mathlib.Core.Path.{◌≡◌, sym, ap}
use mathlib.Core.Bool.{not}
use Prim.Native.Nat.{◌<◌}
use native.Mathlib.Omega.{arith}
use lib.ListN.{length, take, length-take}
use Rattle.std.proofs.lemmas.List.{take_more_set}
use Rattle.filter.specs.Repeats.{Placed}
use Rattle.filter.proofs.RepeatLaws.{grown_head, grown_link}
use Rattle.filter.proofs.repeats.Trees.enroll.Goals as goal
use Rattle.filter.proofs.repeats.Trees.enroll.Goals.{After-find, in-Head, in-Link}

-- how many are noted, and that there is room for one more
many : (c : After-find) → length (take c.self.inside.n c.self.inside.seen) ≡ c.self.inside.n
many c = omega (arith, length-take c.self.inside.n c.self.inside.seen, c.self.invariant.0)

room : (c : After-find) → c.self.inside.n < 4096
room c = omega (arith, many c, ap length c.self.view_is)

pub returns-in-Noted-clause-fresh : goal.returns-in-Noted-clause-fresh
unfolding Placed
returns-in-Noted-clause-fresh c = rw (← c.self.view_is) (sym (ap not c.in-Noted.ensures))

pub offset_bounds-self-inside-at : goal.offset_bounds-self-inside-at
unfolding Placed
offset_bounds-self-inside-at c = omega (arith, c.in-Link.ensures.1.inside, room (goal.at.offset_bounds-self-inside-at c).After-find)

pub bounds-self-inside-at : goal.bounds-self-inside-at
unfolding Placed
bounds-self-inside-at c = omega (arith, c.in-Link.ensures.1.inside, many (goal.at.bounds-self-inside-at c).After-find, room (goal.at.bounds-self-inside-at c).After-find)

pub invariant_of-self : goal.invariant_of-self
unfolding Placed
invariant_of-self c = let s = c.self.inside in
    let k = many (goal.at.invariant_of-self c).After-find in
    let r = room (goal.at.invariant_of-self c).After-find in
    let more = take_more_set s.seen s.n c.args.v (omega (arith, r)) in
    elim c.match-find.branch [
      | in-Head w ↦ rw (w.self-inside-is, more) (omega (arith, r), grown_head s.n c.args.v k r c.self.invariant.1 w.in-Head.ensures.1)
      | in-Link w ↦ rw (w.self-inside-is, more) (omega (arith, r), grown_link s.n c.args.v k r c.self.invariant.1 w.in-Link.ensures.1)
    ]

pub returns-clause-fresh : goal.returns-clause-fresh
unfolding Placed
returns-clause-fresh c = elim c.match-find.branch [
  | in-Head w ↦ rw (← c.self.view_is) (sym (ap not w.in-Head.ensures.0))
  | in-Link w ↦ rw (← c.self.view_is) (sym (ap not w.in-Link.ensures.0))
]
