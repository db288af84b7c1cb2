-- `filter::table::hash_position` meets its contract: the search asks of each position whether its hash is below the one sought. Where there is
-- no hash to look for, none is below it. Assumes nothing.
use mathlib.Core.Path.{sym, ap, ◌∙◌}
use native.Mathlib.Omega.{arith}
use lib.Dec.{ltb}
use lib.ListN.{get_or}
use Rattle.std.proofs.Common.{rules}
use Rattle.filter.specs.Table.{hashes_of, position}
use Rattle.filter.proofs.BisectLaws.{position_asked, position_zero}
use Rattle.filter.proofs.TableLaws.{hash-past}
use Rattle.filter.proofs.table.hash_position.Goals as goal

pub returns-then-hash-lt64 : goal.returns-then-hash-lt64
returns-then-hash-lt64 c = let a = c.args in
    sym (ap (position (hashes_of a.table.now)) (hash-past a.hash.now 0 (omega arith)) ∙ position_zero (hashes_of a.table.now))

pub returns : goal.returns
returns c = let a = c.args in
    let l = hashes_of a.table.now in
    let h = get_or (hashes_of a.hash.now) 0 0 in
    position_asked l h c.count.ensures (c.bisect.ensures (λ i. ltb (get_or l i 0) h) (λ i t k e. search rules))
