-- `places::unmet_place` meets its contract: each test that fails makes the place none. Assumes nothing.
use mathlib.Core.Path.{sym, ap, ◌∙◌}
use Rattle.session.specs.Moves.{unmet_at}
use Rattle.session.proofs.PlaceLaws.{unmet_outside, unmet_nowhere, unmet-met, unmet-there}
use Rattle.session.proofs.places.unmet_place.Goals as goal
use Rattle.session.proofs.places.unmet_place.Goals.{then-p-lt-RECORDS-via-then-p-lt-RECORDS, then-p-lt-RECORDS-via-else-p-lt-RECORDS+then-is_met}

pub returns-in_err-p : goal.returns-in_err-p
returns-in_err-p c = rw c.from_residual.ensures (unmet_nowhere c.args.marks.now _ c.in_err-p.ensures)

pub returns-then-p-lt-RECORDS : goal.returns-then-p-lt-RECORDS
returns-then-p-lt-RECORDS c = let M = c.args.marks.now in
    let p = c.in_ok-p.p in
    sym (ap (unmet_at M) c.in_ok-p.ensures.0)
    ∙ elim c.then-p-lt-RECORDS.branch [
      | then-p-lt-RECORDS-via-then-p-lt-RECORDS w ↦ unmet_outside M p w.if-p-lt-RECORDS.true
      | then-p-lt-RECORDS-via-else-p-lt-RECORDS+then-is_met w ↦ unmet-met M p (sym w.is_met.ensures ∙ w.if-is_met.true)
    ]

pub returns : goal.returns
returns c = let M = c.args.marks.now in
    let (is, inside) = c.in_ok-p.ensures in
    (unmet-there M c.in_ok-p.p c.if-p-lt-RECORDS.false inside (sym c.is_met.ensures ∙ c.if-is_met.false) ∙ ap (unmet_at M) is, inside)
