use mathlib.Core.Path.{◌≡◌, refl, sym, ap, ◌∙◌}
use mathlib.Core.Bool.{Bool, false, not, ◌&&◌}
use mathlib.Core.List.{◌∷◌}
use native.Mathlib.Omega.{arith}
use lib.ListN.{get_or}
use Rattle.bucket.specs.Digits.{joined}
use Rattle.bucket.proofs.TestLaws.{and_fails, and_holds}
use Rattle.filter.specs.Table.{hashes_of}
use Rattle.ledger.specs.Memory.{is_served}
use Rattle.session.proofs.ChunkLaws.{hashes-cons, hashes_none}
use Rattle.session.proofs.AskLaws.{serving-start, serving-nowhere, serving_unfit, serving-next, serving-end, unserved_room}
use Rattle.session.proofs.asking.serve_all.Goals as goal
use Rattle.session.proofs.asking.serve_all.Goals.{In-Some, Else-is_served, then-not-is_offered-via-then-not-is_offered, then-not-is_offered-via-else-not-is_offered+then-is_served}

-- the hash is the first of those that were left
left : (c : In-Some) → hashes_of c.loop-hash.hash-iterator.rest.now ≡ joined 8 c.in-Some.hash.now ∷ hashes_of c.next.new.self.rest.now
left c = let step = c.in-Some.ensures.steps in
    hashes-cons c.in-Some.hash.now c.next.new.self.rest.now step.1.0 (step.1.1 ∙ c.loop-hash.invariant.size)

unserved : (c : Else-is_served) → is_served (get_or c.loop-hash.marks c.in-Some-place_of_hash.p 0) ≡ false
unserved c = sym c.is_served.ensures ∙ c.if-is_served.false

pub loop-hash-init : goal.loop-hash-init
loop-hash-init c = let a = c.args in
    rw (c.into_iter-hash-iterator.ensures.into_iter_gives, c.chunks_exact-hash-items.ensures.rest, c.chunks_exact-hash-items.ensures.size) record {
      size = refl;
      walk = serving-start a.tables.table.now a.tables.known.now a.marks.now (hashes_of a.hashes.now);
    }

pub place_of_hash-requires : goal.place_of_hash-requires
place_of_hash-requires c = c.in-Some.ensures.steps.1.1 ∙ c.loop-hash.invariant.size

pub returns-in_default : goal.returns-in_default
returns-in_default c = (refl, serving-nowhere c.loop-hash.invariant.walk (left (goal.at.returns-in_default c).In-Some) (sym c.in_default.ensures) refl)

pub returns-then-not-is_offered : goal.returns-then-not-is_offered
returns-then-not-is_offered c = (
  refl,
  serving_unfit c.loop-hash.invariant.walk (left (goal.at.returns-then-not-is_offered c).In-Some) c.in-Some-place_of_hash.ensures.0
      (elim c.then-not-is_offered.branch [
        | then-not-is_offered-via-then-not-is_offered w ↦
            ap (λ (t : Bool). t && not (is_served (get_or c.loop-hash.marks c.in-Some-place_of_hash.p 0))) (sym c.is_offered.ensures ∙ w.if-not-is_offered.true)
        | then-not-is_offered-via-else-not-is_offered+then-is_served w ↦ and_fails _ (ap not (sym w.is_served.ensures ∙ w.if-is_served.true))
      ]),
)

pub overflow_add-marks : goal.overflow_add-marks
overflow_add-marks c = let p = c.in-Some-place_of_hash.p in
    omega (arith, unserved_room (get_or c.loop-hash.marks p 0) (omega arith) (unserved (goal.at.overflow_add-marks c).Else-is_served))

pub loop-hash-preserved : goal.loop-hash-preserved
loop-hash-preserved c = let place = c.in-Some-place_of_hash.ensures in
    record {
      size = c.in-Some.ensures.steps.0 ∙ c.loop-hash.invariant.size;
      walk =
          serving-next c.loop-hash.invariant.walk (left (goal.at.loop-hash-preserved c).In-Some) place.0 place.1
          (and_holds (sym c.is_offered.ensures ∙ c.if-not-is_offered.false) (ap not (unserved (goal.at.loop-hash-preserved c).Else-is_served)));
    }

pub returns : goal.returns
returns c = serving-end c.loop-hash.invariant.walk (hashes_none c.loop-hash.hash-iterator.rest.now (omega (arith, c.in-None.ensures.steps.1.0, c.loop-hash.invariant.size)))
