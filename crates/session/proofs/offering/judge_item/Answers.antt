-- `offering::judge_item` meets its contract: its tests are the definition's, one after the other. Assumes nothing.
use mathlib.Core.Path.{refl, sym, ap, ◌∙◌}
use mathlib.Core.Bool.{Bool, not, ◌&&◌}
use Prim.Native.Nat.{ℕ}
use native.Mathlib.Omega.{arith}
use Rattle.std.proofs.Common.{rules}
use borrow.Author.Tests.{lt-ltb, le-ltb}
use lib.Dec.{eqb}
use Rattle.bucket.specs.Digits.{joined}
use Rattle.bucket.proofs.TestLaws.{and_fails, and_holds}
use lib.ListN.{get_or}
use Rattle.filter.specs.Table.{hashes_of, holds}
use Rattle.message.proofs.RoundLaws.{hashes-below}
use Rattle.session.proofs.PlaceLaws.{table-short, id_of_hash, index-within, place-placed, place-short, hash-same}
use Rattle.session.proofs.OfferLaws.{item_judged}
use Rattle.session.proofs.offering.judge_item.Goals as goal
use Rattle.session.proofs.offering.judge_item.Goals.{else-active-via-then-active+else-not-holds_id, else-active-via-else-active}

pub hash_at-requires : goal.hash_at-requires
hash_at-requires c = let f = c.in-Some.ensures in
    place-placed c.args.tables.table.now c.args.tables.known.now c.number_at-id.result
    (table-short c.args.tables.table.now c.args.tables.table_good) (table-short c.args.tables.known.now c.args.tables.known_good) f.0 f.1

pub returns-in-Some : goal.returns-in-Some
returns-in-Some c = let a = c.args in
    let f = c.in-Some.ensures in
    c.known_if.ensures
    ∙ item_judged a.tables.table.now a.tables.known.now a.fresh.now a.inquired.now a.active (joined 8 a.hash.now) (id_of_hash a.hash.now c.requires.2 c.number_at-id.ensures) f.0
    (lt-ltb c.in-Some.p 8192 f.1)
    (sym (hash-same _ (place-short a.tables.table.now a.tables.known.now c.in-Some.p) c.hash_at.ensures a.hash.now c.requires.2 (λ n. search rules)) ∙ sym c.eq.ensures)
    refl refl refl

pub nth_hash-requires : goal.nth_hash-requires
nth_hash-requires c = omega (arith, index-within c.args.fresh.now c.number_at-id.result c.in-Some-index_of.ensures)

pub returns-in-Some-index_of : goal.returns-in-Some-index_of
returns-in-Some-index_of c = let a = c.args in
    let t = hashes_of a.fresh.now in
    let f = c.in-Some-index_of.ensures in
    c.known_if-in-Some-index_of.ensures
    ∙ item_judged a.tables.table.now a.tables.known.now a.fresh.now a.inquired.now a.active (joined 8 a.hash.now) (id_of_hash a.hash.now c.requires.2 c.number_at-id.ensures) (sym c.in_default.ensures)
    (le-ltb 8192 8192 (omega arith)) refl f.1
    (ap (λ (k : ℕ). eqb (get_or t k 0) (joined 8 a.hash.now)) (sym f.0)
    ∙ sym (c.eq-in-Some-index_of.ensures ∙ hash-same _ (hashes-below a.fresh.now c.in-Some-index_of.i) c.nth_hash.ensures a.hash.now c.requires.2 (λ n. search rules)))
    refl

pub returns-then-not-holds_id : goal.returns-then-not-holds_id
returns-then-not-holds_id c = let a = c.args in
    item_judged a.tables.table.now a.tables.known.now a.fresh.now a.inquired.now a.active (joined 8 a.hash.now) (id_of_hash a.hash.now c.requires.2 c.number_at-id.ensures) (sym c.in_default.ensures)
    (le-ltb 8192 8192 (omega arith)) refl c.in_default-index_of.ensures refl
    (and_holds c.if-active.true (ap not (sym c.holds_id.ensures ∙ c.if-not-holds_id.true)))

pub returns : goal.returns
returns c = let a = c.args in
    item_judged a.tables.table.now a.tables.known.now a.fresh.now a.inquired.now a.active (joined 8 a.hash.now) (id_of_hash a.hash.now c.requires.2 c.number_at-id.ensures) (sym c.in_default.ensures)
    (le-ltb 8192 8192 (omega arith)) refl c.in_default-index_of.ensures refl
    (elim c.else-active.branch [
      | else-active-via-then-active+else-not-holds_id w ↦ and_fails a.active (ap not (sym w.holds_id.ensures ∙ w.if-not-holds_id.false))
      | else-active-via-else-active w ↦ ap (λ (t : Bool). t && not (holds a.inquired.now c.number_at-id.result)) w.if-active.false
    ])
