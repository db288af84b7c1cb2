-- `Marks::least` meets its contract: the top word's lowest bit names the first word that is not zero, and that word's lowest bit the first
-- mark in it that is on. Assumes nothing.
use native.Mathlib.Omega.{arith}
use Rattle.filter.specs.Marks.{mark_in}
use Rattle.filter.proofs.MarkLaws.{first_none, first_some, all_out, least_on}
use Rattle.filter.proofs.marks.Marks.least.Goals as goal

pub returns-then-self-eq0 : goal.returns-then-self-eq0
returns-then-self-eq0 c = let s = c.self.inside in
    rw (← c.self.view_is) (first_none (mark_in s.bits) (all_out s.bits s.top c.self.invariant c.if-self-eq0.true))

pub returns : goal.returns
returns c = let s = c.self.inside in
    rw (← c.self.view_is) (first_some (mark_in s.bits) (least_on s.bits s.top c.self.invariant (omega arith) (omega arith) (omega arith)))
