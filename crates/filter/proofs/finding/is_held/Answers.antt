-- `finding::is_held` meets its contract: where two neighbours have the ID between them, a search ends there; elsewhere one is made. Assumes nothing.
use mathlib.Core.Path.{ap, ◌∙◌}
use Prim.Native.Nat.{ℕ}
use native.Mathlib.Omega.{arith}
use lib.Dec.{eqb}
use Rattle.filter.specs.Table.{first_eight, ids_of}
use Rattle.filter.proofs.BisectLaws.{holds_between}
use Rattle.filter.proofs.TableLaws.{ids-ascending, held-id}
use Rattle.filter.proofs.finding.is_held.Goals as goal

pub returns-then-id-next : goal.returns-then-id-next
returns-then-id-next c = let t = c.args.table in
    ap (λ (v : ℕ). eqb v c.args.id) c.element_id-next.ensures
    ∙ holds_between (ids_of first_eight t.bytes.now) c.args.id c.place_before-p.result (ids-ascending t.bytes.now t.well_formed)
    (omega (arith, c.element_id.ensures, c.if-element_id-id.true))
    (omega (arith, c.element_id-next.ensures, c.if-id-next.true))
    ∙ held-id t.bytes.now t.well_formed c.args.id
