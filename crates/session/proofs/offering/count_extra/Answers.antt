use mathlib.Core.Path.{◌≡◌, sym, ap, ◌∙◌}
use mathlib.Core.List.{◌∷◌}
use native.Mathlib.Omega.{arith}
use lib.ListN.{length}
use Rattle.bucket.specs.Digits.{joined}
use Rattle.filter.specs.Table.{first_eight, hashes_of, holds}
use Rattle.filter.proofs.TableLaws.{hashes-length}
use Rattle.session.proofs.ChunkLaws.{hashes-cons, hashes_none}
use Rattle.session.proofs.PlaceLaws.{id_of_hash}
use Rattle.session.proofs.GatheredLaws.{counting_yes, counting_no, counting-end}
use Rattle.session.proofs.offering.count_extra.Goals as goal
use Rattle.session.proofs.offering.count_extra.Goals.{After-holds_id}

size : (c : After-holds_id) → length c.in-Some.hash.now ≡ 64
size c = c.in-Some.ensures.steps.1.1 ∙ c.loop-hash.invariant.size

-- the hash is the first of those that were left
left : (c : After-holds_id) → hashes_of c.loop-hash.hash-iterator.rest.now ≡ joined 8 c.in-Some.hash.now ∷ hashes_of c.next.new.self.rest.now
left c = hashes-cons c.in-Some.hash.now c.next.new.self.rest.now c.in-Some.ensures.steps.1.0 (size c)

judged : (c : After-holds_id) → holds c.args.inquired.now (first_eight (joined 8 c.in-Some.hash.now)) ≡ c.holds_id.result
judged c = ap (holds c.args.inquired.now) (sym (id_of_hash c.in-Some.hash.now (size c) c.number_at.ensures)) ∙ sym c.holds_id.ensures

pub overflow_add-n : goal.overflow_add-n
overflow_add-n c = omega (arith, c.loop-hash.invariant.counted.most, hashes-length c.args.hashes.now)

pub loop-hash-preserved-then-not-holds_id : goal.loop-hash-preserved-then-not-holds_id
loop-hash-preserved-then-not-holds_id c = let at = (goal.at.loop-hash-preserved-then-not-holds_id c).After-holds_id in
    record {
      size = c.in-Some.ensures.steps.0 ∙ c.loop-hash.invariant.size;
      counted = counting_yes c.loop-hash.invariant.counted (left at) (judged at ∙ c.if-not-holds_id.true);
    }

pub loop-hash-preserved : goal.loop-hash-preserved
loop-hash-preserved c = let at = (goal.at.loop-hash-preserved c).After-holds_id in
    record {
      size = c.in-Some.ensures.steps.0 ∙ c.loop-hash.invariant.size;
      counted = counting_no c.loop-hash.invariant.counted (left at) (judged at ∙ c.if-not-holds_id.false);
    }

pub returns : goal.returns
returns c = let e = counting-end c.loop-hash.invariant.counted (hashes_none c.loop-hash.hash-iterator.rest.now (omega (arith, c.in-None.ensures.steps.1.0, c.loop-hash.invariant.size))) in
    (e.0, omega (arith, e.1, hashes-length c.args.hashes.now))
