-- `places::index_of` meets its contract: the search's end is tested as the definition does. Assumes nothing.
use Rattle.session.proofs.PlaceLaws.{found, not_found, not_found-past}
use Rattle.session.proofs.places.index_of.Goals as goal
use Rattle.session.proofs.places.index_of.Goals.{else-i-count-via-then-i-count+else-element_id-id, else-i-count-via-else-i-count}

pub returns-then-element_id-id : goal.returns-then-element_id-id
returns-then-element_id-id c = let a = c.args in
    let s = c.id_position-i in
    (s.ensures, found a.hashes.now a.id s.ensures c.count.ensures c.if-i-count.true c.element_id.ensures c.if-element_id-id.true)

pub returns : goal.returns
returns c = let a = c.args in
    let s = c.id_position-i in
    elim c.else-i-count.branch [
      | else-i-count-via-then-i-count+else-element_id-id w ↦ not_found a.hashes.now a.id s.ensures c.count.ensures w.if-i-count.true w.element_id.ensures w.if-element_id-id.false
      | else-i-count-via-else-i-count w ↦ not_found-past a.hashes.now a.id s.ensures c.count.ensures w.if-i-count.false
    ]
