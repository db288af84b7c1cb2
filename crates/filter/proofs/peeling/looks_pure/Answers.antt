-- `filter::peeling::looks_pure` meets its contract: the code's test is the definition's, and a count that is not one settles it.
-- Assumes nothing.
use mathlib.Core.Path.{◌∙◌}
use Rattle.std.proofs.Common.{rules}
use Rattle.filter.proofs.ShowLaws.{pure_read, impure_read}
use Rattle.filter.proofs.peeling.looks_pure.Goals as goal

pub returns-then-is_one : goal.returns-then-is_one
returns-then-is_one c = let a = c.args in
    pure_read a.k a.size a.tab.now 0 a.b a.ids.now a.hashes.now a.counts.now c.looks_pure.result c.requires.tables c.requires.sound.few (search rules) c.looks_pure.ensures

pub returns-else-is_one : goal.returns-else-is_one
returns-else-is_one c = let a = c.args in
    c.if-is_one.false
    ∙ impure_read a.k a.size 0 a.b a.ids.now a.hashes.now a.counts.now c.is_one.result (search rules) c.is_one.ensures c.if-is_one.false
