-- `places::is_held` meets its contract. Assumes nothing.
use mathlib.Core.Path.{◌∙◌}
use borrow.Author.Tests.{lt-ltb}
use Rattle.session.proofs.PlaceLaws.{held_first, held_second}
use Rattle.session.proofs.places.is_held.Goals as goal

pub returns-then-p-lt-RECORDS : goal.returns-then-p-lt-RECORDS
returns-then-p-lt-RECORDS c = let l = c.if-p-lt-RECORDS.true in
    lt-ltb c.args.p 4096 l ∙ held_first c.args.marks.now c.args.p l

pub returns-else-p-lt-RECORDS : goal.returns-else-p-lt-RECORDS
returns-else-p-lt-RECORDS c = let a = c.args in
    c.is_met.ensures ∙ held_second a.marks.now a.p c.if-p-lt-RECORDS.false c.requires.0
