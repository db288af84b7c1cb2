use mathlib.Core.Path.{◌≡◌}
use native.Mathlib.Omega.{arith}
use lib.IntN.{pos}
use lib.ListN.{length, take}
use lib.Seq.{get_or-take, length-take-le}
use Rattle.bucket.specs.Bucket.{bucket}
use Rattle.bucket.specs.Columns.{columns}
use Rattle.bucket.specs.Lists.{pad}
use Rattle.bucket.specs.Places.{places}
use Rattle.filter.proofs.SpreadLaws.{added_start, added_open, added_next, added_end, places-given}
use Rattle.filter.proofs.adding.add_to_places.Goals as goal
use Rattle.filter.proofs.adding.add_to_places.Goals.{After-places-p}

given : (c : After-places-p) → let a = c.args in c.places-p.result ≡ pad 4 (places a.k a.size a.h)
given c = let a = c.args in
    places-given a.k a.size a.h a.tab.now c.places-p.result c.requires.0 c.requires.1.few c.places-p.ensures

-- the loop goes over k places
all : (c : After-places-p) → length (take c.args.k c.places-p.result) ≡ c.args.k
all c = length-take-le c.args.k c.places-p.result (omega (arith, c.requires.1.few))

pub loop-b-init : goal.loop-b-init
loop-b-init c = let a = c.args in
    added_start a.k a.size a.h (bucket a.x a.h (pos 1)) (columns a.ids.now a.hashes.now a.counts.now) c.requires.3

pub put_at-requires : goal.put_at-requires
put_at-requires c = let w = c.loop-b in
    let a = c.args in
    let p = (goal.at.put_at-requires c).After-places-p in
    let l = rw (all p) at c.loop-b-test.true in
    rw (get_or-take a.k c.places-p.result w.b-index 0 l)
    (added_open a.k a.size a.h (bucket a.x a.h (pos 1))
    (columns a.ids.now a.hashes.now a.counts.now) (columns w.ids w.hashes w.counts) w.b-index
    c.requires.1 c.requires.2 w.invariant c.places-p.result (omega arith) (given p) l)

pub loop-b-preserved : goal.loop-b-preserved
loop-b-preserved c = let t = c.put_at in
    let w = c.loop-b in
    let a = c.args in
    let p = (goal.at.loop-b-preserved c).After-places-p in
    let l = rw (all p) at c.loop-b-test.true in
    added_next a.k a.size a.h (bucket a.x a.h (pos 1))
    (columns a.ids.now a.hashes.now a.counts.now) (columns w.ids w.hashes w.counts) w.b-index
    c.requires.1 c.requires.2 w.invariant c.places-p.result (omega arith) (given p) l
    (columns t.new.ids t.new.hashes t.new.counts) (rw (get_or-take a.k c.places-p.result w.b-index 0 l) at t.ensures)

pub returns : goal.returns
returns c = let w = c.loop-b in
    let a = c.args in
    added_end a.k a.size a.h (bucket a.x a.h (pos 1))
    (columns a.ids.now a.hashes.now a.counts.now) (columns w.ids w.hashes w.counts) w.b-index
    c.requires.1 c.requires.2 w.invariant (omega (arith, all (goal.at.returns c).After-places-p))
