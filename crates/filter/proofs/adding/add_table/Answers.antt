use mathlib.Core.Path.{◌≡◌, refl, sym, ◌∙◌}
use native.Mathlib.Omega.{arith}
use lib.ListN.{length}
use Rattle.bucket.specs.Columns.{columns}
use Rattle.bucket.specs.Crc.{crc_of}
use Rattle.filter.specs.Table.{first_eight, ids_of}
use Rattle.filter.specs.Steps.{layered}
use Rattle.filter.proofs.SpreadLaws.{sound_any}
use Rattle.filter.proofs.TableLaws.{hashes-length, ids-length}
use Rattle.filter.proofs.GatherLaws.{gathered-start, gathered-wide, gathered-small, gathered_next, gathered-end}
use Rattle.filter.proofs.adding.add_table.Goals as goal
use Rattle.filter.proofs.adding.add_table.Goals.{After-count-e-end}

counted : (c : After-count-e-end) → c.count-e-end.result ≡ length (ids_of first_eight c.args.table.now)
counted c = let t = c.args.table.now in
    c.count-e-end.ensures ∙ hashes-length t ∙ sym (ids-length first_eight t)

pub loop-e-init : goal.loop-e-init
loop-e-init c = let a = c.args in
    gathered-start (layered a.top a.k a.size a.salt) (ids_of first_eight a.table.now) (columns a.ids.now a.hashes.now a.counts.now) c.requires.5

pub add_element-requires : goal.add_element-requires
add_element-requires c = let w = c.loop-e in
    let a = c.args in
    let t = a.table.now in
    let c₀ = columns a.ids.now a.hashes.now a.counts.now in
    let c₁ = columns w.ids w.hashes w.counts in (
      c.requires.0,
      sound_any a.size a.k a.salt c.requires.1,
      c.requires.2,
      gathered-wide (layered a.top a.k a.size a.salt) (ids_of first_eight t) c₀ c₁ w.e c.requires.4 w.invariant,
      gathered-small (layered a.top a.k a.size a.salt) (ids_of first_eight t) c₀ c₁ w.e c.requires.4 w.invariant
          (omega (arith, c.requires.3, ids-length first_eight t)),
    )

pub loop-e-preserved : goal.loop-e-preserved
loop-e-preserved c = let t = c.add_element in
    let w = c.loop-e in
    let a = c.args in
    gathered_next (layered a.top a.k a.size a.salt) (ids_of first_eight a.table.now)
    (columns a.ids.now a.hashes.now a.counts.now) (columns w.ids w.hashes w.counts) w.e
    c.requires.4 w.invariant c.element_id-id.result c.salt-x.result (crc_of c.salt-x.result)
    ((layered a.top a.k a.size 0).places c.salt-x.result) (columns t.new.ids t.new.hashes t.new.counts)
    (omega (arith, counted (goal.at.loop-e-preserved c).After-count-e-end, c.loop-e-test.true)) c.element_id-id.ensures c.salt-x.ensures
    refl refl t.ensures

pub returns : goal.returns
returns c = let w = c.loop-e in
    let a = c.args in
    gathered-end (layered a.top a.k a.size a.salt) (ids_of first_eight a.table.now)
    (columns a.ids.now a.hashes.now a.counts.now) (columns w.ids w.hashes w.counts) w.e
    c.requires.4 w.invariant (omega (arith, counted (goal.at.returns c).After-count-e-end, c.loop-e-test.false))
