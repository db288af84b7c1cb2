use mathlib.Core.Path.{sym, ap, ◌∙◌}
use mathlib.Core.Bool.{true}
use native.Mathlib.Omega.{arith}
use lib.ListN.{set}
use Rattle.bucket.specs.Columns.{columns, view}
use Rattle.filter.specs.Filter.{rule}
use Rattle.filter.proofs.ShowLaws.{shows_on, shows_no}
use Rattle.filter.proofs.peeling.survey.Goals as goal
use Rattle.filter.proofs.peeling.survey.Goals.{then-looks_pure, else-looks_pure}

pub loop-b-preserved : goal.loop-b-preserved
loop-b-preserved c = let a = c.args in
    let b = c.loop-b.b in
    let R = rule a.k a.size 0 in
    let f = view (columns a.ids.now a.hashes.now a.counts.now) in
    elim c.if-looks_pure.branch [
      | then-looks_pure w ↦ w.shown-is ∙ w.mark.ensures ∙ ap (λ m. set m b true) c.loop-b.invariant
          ∙ shows_on R f b (omega (arith, c.requires.sound.most)) (sym c.looks_pure.ensures ∙ w.if-looks_pure.true)
      | else-looks_pure w ↦ w.shown-is ∙ c.loop-b.invariant ∙ shows_no R f b (sym c.looks_pure.ensures ∙ w.if-looks_pure.false)
    ]
