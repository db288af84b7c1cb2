-- The sign of the count says the side: the ID goes behind those of that side, and that side's length grows by one. Assumes nothing.
use native.Mathlib.Omega.{arith}
use Rattle.std.proofs.Common.{rules}
use Rattle.filter.proofs.ListedLaws.{listed-ours, listed-theirs}
use Rattle.filter.proofs.peeling.Lengths.enter.Goals as goal

pub returns-then-s-eq1 : goal.returns-then-s-eq1
returns-then-s-eq1 c = let a = c.args in
    λ o₀ t₀ acc lo lt l.
    listed-ours o₀ t₀ acc a.ours.now a.theirs.now a.self.now.ours a.self.now.theirs a.id a.s c.if-s-eq1.true c.ranges.s.sfits (omega (arith, lo, c.requires.ours_room)) l

pub returns-else-s-eq1 : goal.returns-else-s-eq1
returns-else-s-eq1 c = let a = c.args in
    λ o₀ t₀ acc lo lt l.
    listed-theirs o₀ t₀ acc a.ours.now a.theirs.now a.self.now.ours a.self.now.theirs a.id a.s c.if-s-eq1.false (search rules) (omega (arith, lt, c.requires.theirs_room)) l
