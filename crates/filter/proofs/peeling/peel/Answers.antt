use mathlib.Core.Path.{◌≡◌, refl, sym, ◌∙◌}
use mathlib.Core.Logic.{◌⊎◌, inl, inr}
use mathlib.Core.Bool.{true}
use Prim.Native.Nat.{◌<◌}
use native.Mathlib.Omega.{arith}
use lib.IntN.{pos}
use lib.ListN.{length, get_or}
use mir.Syntax.{w64}
use mir.Val.{SFits, to_z, of_z}
use mir.ValLaws.{to_z-of_z}
use borrow.Author.Tests.{not-true, not-false}
use Rattle.bucket.specs.Columns.{columns}
use Rattle.bucket.specs.Lists.{elem}
use Rattle.std.proofs.Common.{rules}
use Rattle.filter.proofs.StepLaws.{Input, State, Found, peeling_start, peeling_wide, peeling_noted, peeling_count, peeling_looked, peeling_ours, peeling_theirs, peeling_done, least_in, found-one, found_abs, peeling_stopped, peeling_next, bucket-read}
use Rattle.filter.proofs.peeling.peel.Goals as goal
use Rattle.filter.proofs.peeling.peel.Goals.{In-Some, After-unsalt-id, After-len, Joined-then-len-n, then-len-n-via-then-len-n, then-len-n-via-else-len-n+then-not-enroll}

inside : (c : In-Some) → c.in-Some.b < c.args.size
inside c = least_in c.loop-b.invariant c.in-Some.ensures

few : (c : In-Some) → c.in-Some.b < 4096
few c = omega (arith, inside c, c.requires.sound.most)

count-fits : (c : After-unsalt-id) → SFits w64 (get_or c.loop-b.counts c.in-Some.b (pos 0))
count-fits c = search rules

-- the bucket, once its ID is known; the count goes through its bits
abbrev input : After-unsalt-id → Input
input c = let a = c.args in
    record { size = a.size; k = a.k; salt = a.salt; columns = columns a.ids.now a.hashes.now a.counts.now; ours = a.ours.now; theirs = a.theirs.now }

abbrev state : After-unsalt-id → State
state c = let w = c.loop-b in
    record { columns = columns w.ids w.hashes w.counts; ours = w.ours; theirs = w.theirs; shown = w.shown; noted = w.trees; listed = w.listed; looked = w.looked }

abbrev found : (c : After-unsalt-id) → Found (input c) (state c)
found c = let w = c.loop-b in
    let b = c.in-Some.b in
    let z = to_z w64 (of_z w64 (get_or w.counts b (pos 0))) in
    record {
      b = b;
      x = get_or w.ids b 0;
      h = get_or w.hashes b 0;
      z = z;
      id = c.unsalt-id.result;
      lowest = c.in-Some.ensures;
      here = bucket-read w.ids w.hashes w.counts b z (to_z-of_z w64 (get_or w.counts b (pos 0)) (count-fits c));
      fits = omega arith;
      un = c.unsalt-id.ensures;
    }

pub loop-b-init : goal.loop-b-init
loop-b-init c = let a = c.args in
    let r = c.requires in
    let given : Input = record { size = a.size; k = a.k; salt = a.salt; columns = columns a.ids.now a.hashes.now a.counts.now; ours = a.ours.now; theirs = a.theirs.now } in
    rw c.clear.ensures
    (peeling_start given (record { sound = r.sound; wide = r.wide; ours = r.ours_room; theirs = r.theirs_room; small = r.small }) c.survey.ensures)

pub overflow_add-looked : goal.overflow_add-looked
overflow_add-looked c = omega (arith, few c)

-- the sum of looks is far from the end of its type
pub overflow_add-looked-in-Some : goal.overflow_add-looked-in-Some
overflow_add-looked-in-Some c = omega (arith, few (goal.at.overflow_add-looked-in-Some c).In-Some, peeling_looked c.loop-b.invariant)

pub offset_bounds-ids-b : goal.offset_bounds-ids-b
offset_bounds-ids-b c = omega (arith, few (goal.at.offset_bounds-ids-b c).In-Some)

pub bounds-ids-b : goal.bounds-ids-b
bounds-ids-b c = omega (arith, inside (goal.at.bounds-ids-b c).In-Some, (peeling_wide c.loop-b.invariant).idsums)

pub offset_bounds-hashes-b : goal.offset_bounds-hashes-b
offset_bounds-hashes-b c = omega (arith, few (goal.at.offset_bounds-hashes-b c).In-Some)

pub bounds-hashes-b : goal.bounds-hashes-b
bounds-hashes-b c = omega (arith, inside (goal.at.bounds-hashes-b c).In-Some, (peeling_wide c.loop-b.invariant).hashsums)

pub offset_bounds-counts-b : goal.offset_bounds-counts-b
offset_bounds-counts-b c = omega (arith, few (goal.at.offset_bounds-counts-b c).In-Some)

pub slice_copy_out-s : goal.slice_copy_out-s
slice_copy_out-s c = omega (arith, inside (goal.at.slice_copy_out-s c).In-Some, (peeling_wide c.loop-b.invariant).counts)

-- one peel more than there are buckets, or a repeated ID
why : (c : Joined-then-len-n) → (length c.loop-b.trees ≡ c.args.size) ⊎ (elem c.unsalt-id.result c.loop-b.trees ≡ true)
why c = elim c.then-len-n.branch [
  | then-len-n-via-then-len-n w ↦ inl (sym c.len.ensures ∙ w.if-len-n.true)
  | then-len-n-via-else-len-n+then-not-enroll w ↦ inr (not-false (elem c.unsalt-id.result c.loop-b.trees) (sym w.if-not-enroll.ensures.fresh))
]

pub returns-then-len-n-clause-peels : goal.returns-then-len-n-clause-peels
returns-then-len-n-clause-peels c = let at = goal.at.returns-then-len-n-clause-peels c in
    (peeling_stopped c.loop-b.invariant (found at.After-unsalt-id) (why at.Joined-then-len-n)).peels

pub returns-then-len-n-clause-looked : goal.returns-then-len-n-clause-looked
returns-then-len-n-clause-looked c = let at = goal.at.returns-then-len-n-clause-looked c in
    (peeling_stopped c.loop-b.invariant (found at.After-unsalt-id) (why at.Joined-then-len-n)).looked

-- there is room for one more
more : (c : After-len) → (c.len.result ≡ c.args.size → ⊥) → length c.loop-b.trees < c.args.size
more c ne = let p = c.loop-b.invariant in omega (arith, p.few, peeling_noted p, ne, c.len.ensures)

pub enter-requires : goal.enter-requires
enter-requires c = let p = c.loop-b.invariant in
    let room = more (goal.at.enter-requires c).After-len c.if-len-n.false in
    let count = peeling_count p in record {
      ours_room = omega (arith, peeling_ours p, peeling_noted p, p.fit.ours, room, count);
      theirs_room = omega (arith, peeling_theirs p, peeling_noted p, p.fit.theirs, room, count);
      one = found-one p (found (goal.at.enter-requires c).After-unsalt-id);
    }

pub take_out-requires-clause-one : goal.take_out-requires-clause-one
take_out-requires-clause-one c = found_abs c.loop-b.invariant (found (goal.at.take_out-requires-clause-one c).After-unsalt-id)

pub loop-b-preserved : goal.loop-b-preserved
loop-b-preserved c = let p = c.loop-b.invariant in
    let t = c.take_out.ensures in
    let e = c.if-not-enroll.ensures in
    peeling_next p (found (goal.at.loop-b-preserved c).After-unsalt-id) (λ q. c.if-len-n.false (c.len.ensures ∙ q)) refl
    (not-true (elem c.unsalt-id.result c.loop-b.trees) (sym e.fresh)) e.noted t.taken t.shown
    (c.enter.ensures c.args.ours.now c.args.theirs.now p.acc (peeling_ours p) (peeling_theirs p) p.listed)

pub overflow_add-looked-2 : goal.overflow_add-looked-2
overflow_add-looked-2 c = omega (arith, c.requires.sound.most, peeling_looked c.loop-b.invariant)

pub returns-clause-peels : goal.returns-clause-peels
returns-clause-peels c = (peeling_done c.loop-b.invariant c.in_default.ensures).peels

pub returns-clause-looked : goal.returns-clause-looked
returns-clause-looked c = (peeling_done c.loop-b.invariant c.in_default.ensures).looked
