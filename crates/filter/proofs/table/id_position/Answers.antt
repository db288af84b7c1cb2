-- `filter::table::id_position` meets its contract: the search asks of each position whether its ID is below the one sought. Assumes nothing.
use mathlib.Core.Path.{sym, ◌∙◌}
use lib.Dec.{ltb}
use lib.ListN.{get_or}
use Rattle.std.proofs.Common.{rules}
use Rattle.filter.specs.Table.{first_eight, ids_of}
use Rattle.filter.proofs.BisectLaws.{position_asked}
use Rattle.filter.proofs.TableLaws.{hashes-length, ids-length}
use Rattle.filter.proofs.table.id_position.Goals as goal

pub returns : goal.returns
returns c = let a = c.args in
    let t = a.table.now in
    let l = ids_of first_eight t in
    position_asked l a.id (c.count.ensures ∙ hashes-length t ∙ sym (ids-length first_eight t))
    (c.bisect.ensures (λ i. ltb (get_or l i 0) a.id) (λ i t h e. search rules))
