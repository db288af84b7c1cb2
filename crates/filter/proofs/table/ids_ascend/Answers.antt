use mathlib.Core.Path.{◌≡◌, sym, ◌∙◌}
use native.Mathlib.Omega.{arith}
use lib.ListN.{length}
use Rattle.filter.specs.Table.{first_eight, ids_of}
use Rattle.filter.proofs.OrderLaws.{rising-start, rising-next, rising-stops, rising-all}
use Rattle.filter.proofs.TableLaws.{hashes-length, ids-length}
use Rattle.filter.proofs.table.ids_ascend.Goals as goal
use Rattle.filter.proofs.table.ids_ascend.Goals.{After-count-e-end}

all : (c : After-count-e-end) → c.count-e-end.result ≡ length (ids_of first_eight c.args.table.now)
all c = let t = c.args.table.now in
    c.count-e-end.ensures ∙ hashes-length t ∙ sym (ids-length first_eight t)

pub loop-e-init : goal.loop-e-init
loop-e-init c = λ h. rising-start (ids_of first_eight c.args.table.now) c.element_id-last.result h c.element_id-last.ensures

pub returns-then-id-last : goal.returns-then-id-last
returns-then-id-last c = let at = c.loop-e in
    let n = all (goal.at.returns-then-id-last c).After-count-e-end in
    rising-stops (ids_of first_eight c.args.table.now) at.last at.e c.element_id-id.result (at.invariant (omega arith)) (omega arith) c.element_id-id.ensures c.if-id-last.true

pub loop-e-preserved : goal.loop-e-preserved
loop-e-preserved c = let at = c.loop-e in
    let n = all (goal.at.loop-e-preserved c).After-count-e-end in
    λ h. rising-next (ids_of first_eight c.args.table.now) at.last at.e c.element_id-id.result (at.invariant h) (omega arith) c.element_id-id.ensures c.if-id-last.false

pub returns : goal.returns
returns c = let at = c.loop-e in
    let n = all (goal.at.returns c).After-count-e-end in
    rising-all (ids_of first_eight c.args.table.now) at.last at.e at.invariant (omega arith)
