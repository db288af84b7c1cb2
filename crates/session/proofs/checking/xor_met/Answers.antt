use mathlib.Core.Path.{◌≡◌, sym, ap₂, ◌∙◌}
use mathlib.Core.Logic.{inl, inr}
use mathlib.Core.List.{◌∷◌}
use native.Mathlib.Omega.{arith}
use Rattle.std.proofs.lemmas.List.{nil_from_length}
use Rattle.bucket.specs.Digits.{joined}
use Rattle.filter.specs.Table.{hashes_of}
use Rattle.session.proofs.ChunkLaws.{hashes-cons, hashes_none}
use Rattle.session.proofs.XorSumLaws.{met_sum, left_next, left_none, left_end, met_first, met_passed, met_none}
use Rattle.session.proofs.checking.xor_met.Goals as goal
use Rattle.session.proofs.checking.xor_met.Goals.{After-is_met}

-- the hash and its mark are the first of those that were left
first : (c : After-is_met) → met_sum (hashes_of c.loop-hash.hash-iterator.a.rest.now) c.loop-hash.hash-iterator.b.rest.now
    ≡ met_sum (joined 8 c.in-Some.hash.now ∷ hashes_of c.next.new.self.a.rest.now) (c.in-Some.mark.now ∷ c.next.new.self.b.rest.now)
first c = let (hashes, marks) = c.in-Some.ensures.steps in
    ap₂ met_sum (hashes-cons c.in-Some.hash.now c.next.new.self.a.rest.now hashes.1.0 (hashes.1.1 ∙ c.loop-hash.invariant.size)) marks

pub xor_into-requires : goal.xor_into-requires
xor_into-requires c = c.in-Some.ensures.steps.0.1.1 ∙ c.loop-hash.invariant.size

pub loop-hash-preserved-then-is_met : goal.loop-hash-preserved-then-is_met
loop-hash-preserved-then-is_met c = let at = c.loop-hash.invariant in
    let h = joined 8 c.in-Some.hash.now in
    let hs = hashes_of c.next.new.self.a.rest.now in
    let ms = c.next.new.self.b.rest.now in
    record {
      size = c.in-Some.ensures.steps.0.0 ∙ at.size;
      sum =
          left_next at.sum h (met_sum hs ms)
          (first (goal.at.loop-hash-preserved-then-is_met c).After-is_met ∙ met_first h c.in-Some.mark.now hs ms (sym c.is_met.ensures ∙ c.if-is_met.true))
          c.xor_into.ensures;
    }

pub loop-hash-preserved : goal.loop-hash-preserved
loop-hash-preserved c = let at = c.loop-hash.invariant in
    let h = joined 8 c.in-Some.hash.now in
    let hs = hashes_of c.next.new.self.a.rest.now in
    let ms = c.next.new.self.b.rest.now in
    record {
      size = c.in-Some.ensures.steps.0.0 ∙ at.size;
      sum =
          left_none at.sum (first (goal.at.loop-hash-preserved c).After-is_met ∙ met_passed h c.in-Some.mark.now hs ms (sym c.is_met.ensures ∙ c.if-is_met.false));
    }

pub returns : goal.returns
returns c = let at = c.loop-hash.invariant in
    let hs = c.loop-hash.hash-iterator.a.rest.now in
    let ms = c.loop-hash.hash-iterator.b.rest.now in
    left_end at.sum
    (met_none (hashes_of hs) ms
    (elim c.in-None.ensures.steps [
      | inl q ↦ inl (hashes_none hs (omega (arith, q.1.1.0, at.size)))
      | inr q ↦ inr (nil_from_length ms q.1.0)
    ]))
