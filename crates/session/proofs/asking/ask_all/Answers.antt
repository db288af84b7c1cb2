use mathlib.Core.Path.{◌≡◌, refl, sym, ap, ap₂, ◌∙◌}
use mathlib.Core.Bool.{Bool, ◌||◌}
use mathlib.Core.List.{List, ◌∷◌}
use Prim.Native.Nat.{ℕ, ◌+◌, ◌*◌, ◌%◌, ◌≤◌}
use native.Mathlib.Omega.{arith}
use borrow.Author.Tests.{le-leb, lt-leb}
use lib.Dec.{leb}
use lib.ListN.{length, length-append}
use Rattle.bucket.specs.Lists.{over}
use Rattle.session.proofs.ChunkLaws.{ids_in, ids-cons, ids_none, lent-length, lent_over}
use Rattle.session.proofs.PlaceLaws.{held_none, place-placed, place-short, hash-size, table-short}
use Rattle.session.proofs.AskLaws.{asking-start, asking_passes, asking-stops, asking-next, asking-end}
use Rattle.session.proofs.asking.ask_all.Goals as goal
use Rattle.session.proofs.asking.ask_all.Goals.{After-number_at, After-hash_at, then-is_asked-via-then-is_asked, then-is_asked-via-else-is_asked+then-m-ge4096}

-- the ID is the first of those that were left
left : (c : After-number_at) → ids_in c.loop-id.id-iterator.rest.now ≡ c.number_at.result ∷ ids_in c.next.new.self.rest.now
left c = let step = c.in-Some.ensures.steps in
    ids-cons c.in-Some.id.now c.next.new.self.rest.now step.1.0 (step.1.1 ∙ c.loop-id.invariant.size) c.loop-id.invariant.whole c.number_at.ensures

whole : (c : After-number_at) → length c.next.new.self.rest.now % 8 ≡ 0
whole c = let step = c.in-Some.ensures.steps in
    omega (arith, ap length step.1.0, length-append c.in-Some.id.now c.next.new.self.rest.now, step.1.1, c.loop-id.invariant.size, c.loop-id.invariant.whole)

room : (c : After-hash_at) → 64 * c.loop-id.m + 64 ≤ length c.loop-id.hashes
room c = omega (arith, c.if-m-ge4096.false, c.requires.2, c.loop-id.invariant.walk.gathering.same)

pub loop-id-init : goal.loop-id-init
loop-id-init c = let a = c.args in
    rw (c.into_iter-id-iterator.ensures.into_iter_gives, c.chunks_exact-id-items.ensures.rest, c.chunks_exact-id-items.ensures.size) record {
      size = refl;
      whole = c.requires.1;
      walk = asking-start a.tables.table.now a.tables.known.now a.marks.now a.hashes.now (ids_in a.ids.now);
    }

pub loop-id-preserved-in_default : goal.loop-id-preserved-in_default
loop-id-preserved-in_default c = let at = (goal.at.loop-id-preserved-in_default c).After-number_at in
    record {
      size = c.in-Some.ensures.steps.0 ∙ c.loop-id.invariant.size;
      whole = whole at;
      walk = asking_passes c.loop-id.invariant.walk (left at) (sym c.in_default.ensures) (sym (held_none c.loop-id.marks 8192 (omega arith) (omega arith)));
    }

pub loop-id-preserved-then-not-is_held : goal.loop-id-preserved-then-not-is_held
loop-id-preserved-then-not-is_held c = let at = (goal.at.loop-id-preserved-then-not-is_held c).After-number_at in
    record {
      size = c.in-Some.ensures.steps.0 ∙ c.loop-id.invariant.size;
      whole = whole at;
      walk = asking_passes c.loop-id.invariant.walk (left at) c.in-Some-place_of.ensures.0 (sym c.is_held.ensures ∙ c.if-not-is_held.true);
    }

pub returns-then-is_asked : goal.returns-then-is_asked
returns-then-is_asked c = (
  refl,
  asking-stops c.loop-id.invariant.walk (left (goal.at.returns-then-is_asked c).After-number_at) c.in-Some-place_of.ensures.0
      (sym c.is_held.ensures ∙ c.if-not-is_held.false)
      (elim c.then-is_asked.branch [
        | then-is_asked-via-then-is_asked w ↦ ap (λ (t : Bool). t || leb 4096 c.loop-id.m) (sym c.is_asked.ensures ∙ w.if-is_asked.true)
        | then-is_asked-via-else-is_asked+then-m-ge4096 w ↦ ap₂ ◌||◌ (sym c.is_asked.ensures ∙ w.if-is_asked.false) (le-leb 4096 c.loop-id.m w.if-m-ge4096.true)
      ]),
)

pub hash_at-requires : goal.hash_at-requires
hash_at-requires c = let place = c.in-Some-place_of.ensures in
    place-placed c.args.tables.table.now c.args.tables.known.now c.number_at.result
    (table-short c.args.tables.table.now c.args.tables.table_good) (table-short c.args.tables.known.now c.args.tables.known_good) place.0 place.1

pub copy_from_slice-requires : goal.copy_from_slice-requires
copy_from_slice-requires c =
    lent-length (64 * c.loop-id.m) 64 c.loop-id.hashes (room (goal.at.copy_from_slice-requires c).After-hash_at)
    ∙ sym (hash-size _ (place-short c.args.tables.table.now c.args.tables.known.now c.in-Some-place_of.p) c.hash_at.ensures)

pub loop-id-preserved : goal.loop-id-preserved
loop-id-preserved c = let at = (goal.at.loop-id-preserved c).After-number_at in
    let a = c.args in
    let p = c.in-Some-place_of.p in
    let copied = c.copy_from_slice.ensures.after ∙ c.hash_at.ensures in
    record {
      size = c.in-Some.ensures.steps.0 ∙ c.loop-id.invariant.size;
      whole = whole at;
      walk =
          asking-next c.loop-id.invariant.walk (left at) c.in-Some-place_of.ensures.0 (sym c.is_held.ensures ∙ c.if-not-is_held.false)
          (ap₂ ◌||◌ (sym c.is_asked.ensures ∙ c.if-is_asked.false) (lt-leb 4096 c.loop-id.m c.if-m-ge4096.false)) c.requires.2
          (lent_over (64 * c.loop-id.m) 64 c.loop-id.hashes c.copy_from_slice.new.self (hash-size _ (place-short a.tables.table.now a.tables.known.now p) copied)
          ∙ ap (λ (bs : List ℕ). over (64 * c.loop-id.m) bs c.loop-id.hashes) copied);
    }

pub returns : goal.returns
returns c = asking-end c.loop-id.invariant.walk (ids_none c.loop-id.id-iterator.rest.now (omega (arith, c.in-None.ensures.steps.1.0, c.loop-id.invariant.size)))
