-- `filter::table::holds_id` meets its contract: what stands where the search ends decides. Assumes nothing.
use mathlib.Core.Path.{ap, ◌∙◌}
use Prim.Native.Nat.{ℕ}
use native.Mathlib.Omega.{arith}
use borrow.Author.Tests.{le-ltb}
use lib.Dec.{eqb}
use Rattle.filter.specs.Table.{first_eight, ids_of}
use Rattle.filter.proofs.BisectLaws.{holds-past, holds-there}
use Rattle.filter.proofs.TableLaws.{hashes-length, ids-length}
use Rattle.filter.proofs.table.holds_id.Goals as goal

pub returns-then-at-count : goal.returns-then-at-count
returns-then-at-count c = let a = c.args in
    let t = a.table.now in
    ap (λ (v : ℕ). eqb v a.id) c.element_id.ensures
    ∙ holds-there (ids_of first_eight t) a.id c.id_position-at.ensures (omega (arith, hashes-length t, ids-length first_eight t))

pub returns-else-at-count : goal.returns-else-at-count
returns-else-at-count c = let a = c.args in
    let t = a.table.now in
    le-ltb c.id_position-at.result c.count.result (omega arith)
    ∙ holds-past (ids_of first_eight t) a.id c.id_position-at.ensures (omega (arith, hashes-length t, ids-length first_eight t))
