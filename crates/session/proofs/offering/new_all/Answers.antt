use mathlib.Core.Path.{◌≡◌, refl, sym, ap, ◌∙◌}
use mathlib.Core.List.{List, ◌∷◌}
use Prim.Native.Nat.{ℕ, ◌+◌, ◌*◌, ◌≤◌, ◌<◌}
use native.Mathlib.Omega.{arith}
use lib.ListN.{length, length-take}
use lib.Seq.{length-take-le}
use Rattle.bucket.specs.Digits.{joined}
use Rattle.bucket.specs.Lists.{over}
use Rattle.bucket.proofs.DigitLaws.{joined_lt, groups-joined}
use Rattle.filter.specs.Table.{hashes_of}
use Rattle.filter.proofs.TableLaws.{hashes-length}
use Rattle.session.proofs.ChunkLaws.{front-below, rest-below, hashes-cons, hashes_none, lent_over}
use Rattle.session.proofs.OfferLaws.{offering_start, offering_known, offering_bad, offering_new, offering_end}
use Rattle.session.proofs.offering.new_all.Goals as goal
use Rattle.session.proofs.offering.new_all.Goals.{In-Some}

size : (c : In-Some) → length c.in-Some.hash.now ≡ 64
size c = c.in-Some.ensures.steps.1.1 ∙ c.loop-hash.invariant.size

-- the hash is the first of those that were left
left : (c : In-Some) → hashes_of c.loop-hash.hash-iterator.rest.now ≡ joined 8 c.in-Some.hash.now ∷ hashes_of c.next.new.self.rest.now
left c = hashes-cons c.in-Some.hash.now c.next.new.self.rest.now c.in-Some.ensures.steps.1.0 (size c)

many : (c : In-Some) → length (hashes_of c.args.offered.now) ≤ 1023
many c = omega (arith, hashes-length c.args.offered.now, c.requires.1)

few : (c : In-Some) → c.loop-hash.m < 1023
few c = omega (arith, c.loop-hash.invariant.walk.few, ap length (left c), many c)

room : (c : In-Some) → 64 * c.loop-hash.m + 64 ≤ length c.loop-hash.fresh
room c = omega (arith, few c, c.loop-hash.invariant.walk.same, c.requires.2)

pub loop-hash-init : goal.loop-hash-init
loop-hash-init c = let a = c.args in
    rw (c.into_iter-hash-iterator.ensures.into_iter_gives, c.chunks_exact-hash-items.ensures.rest, c.chunks_exact-hash-items.ensures.size) record {
      size = refl;
      bytes = λ i. (c.type_inv.offered i).fits;
      walk = offering_start a.tables.table.now a.tables.known.now a.inquired.now a.active (hashes_of a.offered.now) a.fresh.now a.hashes.now;
    }

pub slice_bounds-judge_item-end : goal.slice_bounds-judge_item-end
slice_bounds-judge_item-end c = omega (arith, room (goal.at.slice_bounds-judge_item-end c).In-Some)

pub slice_bounds-judge_item-end-in-loop-hash : goal.slice_bounds-judge_item-end-in-loop-hash
slice_bounds-judge_item-end-in-loop-hash c = let at = c.loop-hash in
    sym (length-take-le (64 * at.m) at.fresh (omega (arith, room (goal.at.slice_bounds-judge_item-end-in-loop-hash c).In-Some)))

pub judge_item-requires : goal.judge_item-requires
judge_item-requires c = let at = (goal.at.judge_item-requires c).In-Some in (
  omega (arith, few at, length-take (64 * c.loop-hash.m) c.loop-hash.fresh),
  c.requires.0,
  size at,
)

pub returns-in-Bad-clause-walked : goal.returns-in-Bad-clause-walked
returns-in-Bad-clause-walked c = let at = (goal.at.returns-in-Bad-clause-walked c).In-Some in
    (refl, offering_bad c.loop-hash.invariant.walk (left at) (many at) c.requires.2 c.judge_item.ensures c.in-Bad.is)

pub insert_hash-requires : goal.insert_hash-requires
insert_hash-requires c = let at = (goal.at.insert_hash-requires c).In-Some in
    (room at, size at, omega (arith, few at))

pub slice_bounds-copy_from_slice-end : goal.slice_bounds-copy_from_slice-end
slice_bounds-copy_from_slice-end c = omega (arith, few (goal.at.slice_bounds-copy_from_slice-end c).In-Some, c.loop-hash.invariant.walk.gathering.same, c.requires.3)

pub loop-hash-preserved-in-New : goal.loop-hash-preserved-in-New
loop-hash-preserved-in-New c = let at = (goal.at.loop-hash-preserved-in-New c).In-Some in
    let step = c.in-Some.ensures.steps in
    let h = c.in-Some.hash.now in
    let rest = c.next.new.self.rest.now in
    let put = c.insert_hash.ensures in
    record {
      size = step.0 ∙ c.loop-hash.invariant.size;
      bytes = rest-below h rest step.1.0 c.loop-hash.invariant.bytes;
      walk =
          offering_new c.loop-hash.invariant.walk (left at) (many at) c.requires.2 c.judge_item.ensures c.in-New.is c.requires.3
          (rw (size at) at (joined_lt 8 h)) (rw (size at) at (groups-joined 8 h (front-below h rest step.1.0 c.loop-hash.invariant.bytes))) put.0 put.2 c.insert_hash.auto.hashes
          (lent_over (64 * c.loop-hash.m) 64 c.loop-hash.hashes c.copy_from_slice.new.self (ap length c.copy_from_slice.ensures.after ∙ size at)
          ∙ ap (λ (bs : List ℕ). over (64 * c.loop-hash.m) bs c.loop-hash.hashes) c.copy_from_slice.ensures.after);
    }

pub loop-hash-preserved : goal.loop-hash-preserved
loop-hash-preserved c = let at = (goal.at.loop-hash-preserved c).In-Some in
    let step = c.in-Some.ensures.steps in
    let h = c.in-Some.hash.now in
    let rest = c.next.new.self.rest.now in
    record {
      size = step.0 ∙ c.loop-hash.invariant.size;
      bytes = rest-below h rest step.1.0 c.loop-hash.invariant.bytes;
      walk = offering_known c.loop-hash.invariant.walk (left at) (many at) c.requires.2 c.judge_item.ensures c.in-Known.is;
    }

pub returns-clause-walked : goal.returns-clause-walked
returns-clause-walked c = offering_end c.loop-hash.invariant.walk (hashes_none c.loop-hash.hash-iterator.rest.now (omega (arith, c.in-None.ensures.steps.1.0, c.loop-hash.invariant.size)))

pub returns-clause-few : goal.returns-clause-few
returns-clause-few c = omega (arith, c.loop-hash.invariant.walk.few, hashes-length c.args.offered.now)
