-- `bucket::packing::spare_is_zero` meets its contract: each of the bits behind the counters is looked at. Assumes nothing.
use Rattle.std.proofs.Common.{refl, rules, length, ◌≡◌, ◌*◌, ◌∙◌}
use lib.Dec.{eqb}
use borrow.Author.Tests.{tests}
use Rattle.std.proofs.lemmas.Iterator.{YieldsList-from_range}
use Rattle.std.proofs.lemmas.Iterator.Search.{all_from_yields_List}
use Rattle.bucket.specs.Digits.{bytes_for, bit_at}
use Rattle.bucket.proofs.OverLaws.{part_length}
use Rattle.bucket.proofs.ReadLaws.{spare-tested, bare-here}
use Rattle.bucket.proofs.RoomLaws.{takes-room}
use Rattle.bucket.proofs.packing.spare_is_zero.Goals as goal

pub returns : goal.returns
returns c = let a = c.args in
    let there = c.in-Some.ensures in
    let bs = c.in-Some.bytes.now in
    let long : length bs ≡ bytes_for (a.w * a.n) = rw there.1 (part_length a.at a.s.now (bytes_for (a.w * a.n)) (takes-room a.w a.n a.at _ there.0).inside) in
    all_from_yields_List (λ j. eqb (bit_at 8 bs j) 0) _ _ _ c.all.ensures.ran (YieldsList-from_range (a.w * a.n) (8 * length bs) _ (cc) refl) (λ x b q k. search (rules, tests))
    ∙ spare-tested a.w a.n bs long
    ∙ rw there.1 (bare-here a.s.now a.at a.n a.w there.0)
