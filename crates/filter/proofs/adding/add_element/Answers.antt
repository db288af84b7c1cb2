-- `adding::add_element` meets its contract: the element's places lie in its stratum, so adding it to the stratum lent alone adds it to all of them.
-- Assumes nothing.
use Prim.Native.Nat.{◌+◌, ◌*◌, ◌^◌, ◌≤◌}
use native.Mathlib.Omega.{arith}
use Rattle.bucket.specs.Columns.{columns}
use Rattle.bucket.specs.Counts.{stratum_of}
use Rattle.filter.proofs.GatherLaws.{crc_given}
use Rattle.filter.proofs.LayerLaws.{stratum-low, stratum-fits, element-wide, element-small, element_added}
use Rattle.filter.proofs.adding.add_element.Goals as goal
use Rattle.filter.proofs.adding.add_element.Goals.{After-start-a}

-- the stratum begins low, and ends within the columns
low : (c : After-start-a) → c.start-a.result ≤ 126976
low c = omega (arith, c.start-a.ensures, stratum-low c.args.size c.args.top (stratum_of c.args.x) c.requires.1.most c.requires.2)

fits : (c : After-start-a) → c.start-a.result + c.args.size
    ≤ (c.args.top + 1) * c.args.size
fits c = omega (arith, c.start-a.ensures, stratum-fits c.args.size c.args.top (stratum_of c.args.x))

pub start-a-requires : goal.start-a-requires
start-a-requires c = (c.requires.1.most, c.requires.2)

pub overflow_add-e : goal.overflow_add-e
overflow_add-e c = omega (arith, low c, c.requires.1.most)

pub offset_bounds-ids-a : goal.offset_bounds-ids-a
offset_bounds-ids-a c = omega (arith, low c)

pub slice_bounds-add_to_places-end : goal.slice_bounds-add_to_places-end
slice_bounds-add_to_places-end c = omega (arith, fits c, c.requires.3.idsums)

pub offset_bounds-hashes-a : goal.offset_bounds-hashes-a
offset_bounds-hashes-a c = omega (arith, low (goal.at.offset_bounds-hashes-a c).After-start-a)

pub slice_bounds-add_to_places-end-2 : goal.slice_bounds-add_to_places-end-2
slice_bounds-add_to_places-end-2 c = omega (arith, fits (goal.at.slice_bounds-add_to_places-end-2 c).After-start-a, c.requires.3.hashsums)

pub offset_bounds-counts-a : goal.offset_bounds-counts-a
offset_bounds-counts-a c = omega (arith, low (goal.at.offset_bounds-counts-a c).After-start-a)

pub slice_bounds-add_to_places-end-3 : goal.slice_bounds-add_to_places-end-3
slice_bounds-add_to_places-end-3 c = omega (arith, fits (goal.at.slice_bounds-add_to_places-end-3 c).After-start-a, c.requires.3.counts)

pub add_to_places-requires : goal.add_to_places-requires
add_to_places-requires c = let a = c.args in
    let c₀ = columns a.ids.now a.hashes.now a.counts.now in (
      c.requires.0,
      c.requires.1,
      element-wide a.top a.size c.start-a.result c₀ c.requires.3 (fits (goal.at.add_to_places-requires c).After-start-a),
      element-small a.top a.size c.start-a.result c₀ c.requires.3 (fits (goal.at.add_to_places-requires c).After-start-a) (2 ^ 60) c.requires.4,
    )

pub returns : goal.returns
returns c = let p = c.add_to_places in
    let a = c.args in
    let h = c.crc_by-h in
    element_added a.top a.k a.size a.x c.start-a.result h.result (columns a.ids.now a.hashes.now a.counts.now)
    (columns p.new.ids p.new.hashes p.new.counts)
    c.requires.3 c.start-a.ensures (crc_given a.tab.now a.x h.result c.requires.0 h.ensures) p.ensures
