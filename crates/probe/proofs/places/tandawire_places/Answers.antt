-- `probe::places::tandawire_places` meets its contract: the tables are the CRC's, and four stores write the four places. Assumes nothing.
use Rattle.std.proofs.Common.{◌≡◌, ℕ, min, List, length, get_or, set, ap, ◌∙◌, arith, length-set, le-leb}
use borrow.Author.Tests.{lt-leb}
use Rattle.bucket.specs.Crc.{next_by}
use Rattle.bucket.specs.Lists.{over, pad}
use Rattle.bucket.specs.Places.{crc_next, places, places_by}
use Rattle.bucket.proofs.ListLaws.{pad-length}
use Rattle.bucket.proofs.TestLaws.{cond-kept, cond-made}
use Rattle.bucket.proofs.PlaceLaws.{places-length, places_by_tables}
use Rattle.probe.proofs.FourLaws.{four_over}
use Rattle.probe.proofs.places.tandawire_places.Goals as goal

pub returns-then-out-lt4 : goal.returns-then-out-lt4
returns-then-out-lt4 c = let out = c.args.out.now in cond-kept _ out (lt-leb 4 (length out) c.if-out-lt4.true)

pub bounds-out-1 : goal.bounds-out-1
bounds-out-1 c = omega (arith, length-set c.args.out.now 0 (get_or c.places-p.result 0 0))

pub bounds-out-2 : goal.bounds-out-2
bounds-out-2 c = let one = set c.args.out.now 0 (get_or c.places-p.result 0 0) in
    omega (arith, length-set c.args.out.now 0 (get_or c.places-p.result 0 0), length-set one 1 (get_or c.places-p.result 1 0))

pub returns : goal.returns
returns c = let out = c.args.out.now in
    let k = min 4 c.args.k in
    let size = c.args.size in
    let d = c.args.d in
    let p = c.places-p.result in
    let found : p ≡ pad 4 (places k size d) =
    c.places-p.ensures
    ∙ ap (λ (t : List ℕ). pad 4 (places_by (next_by t) k size d)) c.tables-tab.ensures
    ∙ ap (pad 4) (places_by_tables k size d) in
    four_over p out (ap length found ∙ pad-length 4 (places k size d) (omega (arith, places-length crc_next k size d))) c.if-out-lt4.false
    ∙ ap (λ (q : List ℕ). over 0 q out) found
    ∙ cond-made _ out (le-leb 4 (length out) c.if-out-lt4.false)
