-- A writer's answer, read back: where a writer answers a next position, the walk from the position that it was given finds the messages that it was asked
-- for, each saying what it was, up to the next position.
--
--   ReadBack cs at next out     the walk of out from at on finds the messages cs and comes to next
--   inquiry-back, offer-back, demand-back, element-back, done-back, filter_back     for each writer
--   hashes-below                the hashes that stand in bytes are in range
--
-- Assumes nothing.
use mathlib.Core.Path.{◌≡◌, refl, sym, ap, ◌∙◌, subst}
use mathlib.Core.Bool.{Bool, true, false, ◌&&◌}
use mathlib.Core.List.{List, [], ◌∷◌}
use Prim.Native.Nat.{ℕ, ◌+◌, ◌*◌, ◌/◌, ◌%◌, ◌^◌, ◌<◌}
use borrow.Author.Tests.{ltb-true, ltb-false, leb-true}
use lib.Dec.{eqb, ltb, leb}
use lib.ListN.{length, take, get_or}
use lib.Pow.{pow_pos}
use Rattle.std.specs.Prelude.{Option, None, Some, Ok, Err}
use Rattle.bucket.specs.Columns.{Columns}
use Rattle.bucket.specs.Digits.{joined, Below}
use Rattle.bucket.specs.Lists.{over}
use Rattle.filter.specs.declared.answers.Refusal.{Refusal}
use Rattle.filter.specs.declared.answers.Refusal.TheVariants.{Form, Room, Range, Malformed}
use Rattle.filter.specs.Answers.{first_of}
use Rattle.filter.specs.Calls.{in_range, are_counts, has_room}
use Rattle.filter.specs.Table.{hashes_of}
use Rattle.filter.proofs.TableLaws.{hash_at_lem, hash-past}
use Rattle.message.specs.Layout.{Content, element, done}
use Rattle.message.specs.Writing.{layouts, inquiries_of, offers_of, demands_of, width_for, slices_of, have_room, Write, write, wrote, inquiry_call, hashes_call, element_call, done_call, filter_call}
use Rattle.message.proofs.BackLaws.{AllGoodContents, Walks, walked-back}
use Rattle.message.proofs.FilterLaws.{filter_good}
use Rattle.message.proofs.PieceLaws.{inquiries_good, offers-good, demands-good}
use Rattle.message.proofs.ReadLaws.{both, field_lt}
use Rattle.message.proofs.WholeLaws.{take_below}

pub record ReadBack (cs : List Content) (at next : ℕ) (out : List ℕ) : Type 0 where
  pub behind : next ≡ at + length (layouts cs)
  pub walks : Walks out at cs

-- tests that did not refuse hold
first_holds : (r : Refusal) (b : Bool) (ts : List (Refusal × Bool)) → first_of ((r, b) ∷ ts) ≡ None → (b ≡ true) × (first_of ts ≡ None)
first_holds r true ts e = (refl, e)
first_holds r false ts e = cc

both_hold : (p q : Refusal) (a b : Bool) → first_of ((p, a) ∷ (q, b) ∷ []) ≡ None → (a ≡ true) × (b ≡ true)
both_hold p q a b e = let one = first_holds p a ((q, b) ∷ []) e in (one.0, (first_holds q b [] one.1).0)

module _ (r : Option Refusal) (cs : List Content) (at next : ℕ) (out out' : List ℕ) (e : wrote r cs at out ≡ write (Ok next) out') where
  pub wrote_none : r ≡ None
  unfolding wrote
  wrote_none = go r e
    where
      go : (r : Option Refusal) → wrote r cs at out ≡ write (Ok next) out' → r ≡ None
      go None e = refl
      go (Some why) e = let q : Err why ≡ Ok next = ap (λ (w : Write). w.answer) e in cc

  wrote-all : write (Ok (at + length (layouts cs))) (over at (layouts cs) out) ≡ write (Ok next) out'
  unfolding wrote
  wrote-all = ap (λ (q : Option Refusal). wrote q cs at out) (sym wrote_none) ∙ e

  wrote-back : have_room cs at out ≡ true → AllGoodContents cs → ReadBack cs at next out'
  unfolding have_room
  wrote-back room good =
      let q : Ok (at + length (layouts cs)) ≡ Ok next = ap (λ (w : Write). w.answer) wrote-all in
      record {
        behind = cc;
        walks = subst (λ (o : List ℕ). Walks o at cs) (ap (λ (w : Write). w.out) wrote-all) (walked-back out at cs good (leb-true (at + length (layouts cs)) (length out) room));
      }

-- the hashes that stand in bytes
pub hashes-below : (bytes : List ℕ) → Below 512 (hashes_of bytes)
hashes-below bytes i = go (ltb i (length bytes / 64)) refl
  where
    go : (t : Bool) → ltb i (length bytes / 64) ≡ t → get_or (hashes_of bytes) i 0 < 2 ^ 512
    go true h = rw (hash_at_lem bytes i (ltb-true i (length bytes / 64) h)) (field_lt 64 (64 * i) bytes)
    go false h = rw (hash-past bytes i (ltb-false i (length bytes / 64) h)) (pow_pos 512)

module _ (at next : ℕ) (out out' : List ℕ) where
  pub inquiry-back : (salt : ℕ) (ids : List ℕ) → Below 64 ids → inquiry_call salt ids at out ≡ write (Ok next) out' → ReadBack (inquiries_of salt ids) at next out'
  unfolding inquiry_call
  inquiry-back salt ids below e =
      let cs = inquiries_of salt ids in
      let t = both_hold Range Room (ltb salt 64) (have_room cs at out) (wrote_none _ cs at next out out' e) in
      wrote-back _ cs at next out out' e t.1 (inquiries_good salt ids t.0 below)

  hashes-back : (say : List ℕ → List Content) (bytes : List ℕ) → AllGoodContents (say (hashes_of bytes)) → hashes_call say bytes at out ≡ write (Ok next) out'
      → ReadBack (say (hashes_of bytes)) at next out'
  unfolding hashes_call
  hashes-back say bytes good e =
      let cs = say (hashes_of bytes) in
      let t = both_hold Form Room (eqb (length bytes % 64) 0) (have_room cs at out) (wrote_none _ cs at next out out' e) in
      wrote-back _ cs at next out out' e t.1 good

  pub offer-back : (bytes : List ℕ) → hashes_call offers_of bytes at out ≡ write (Ok next) out' → ReadBack (offers_of (hashes_of bytes)) at next out'
  offer-back bytes = hashes-back offers_of bytes (offers-good (hashes_of bytes) (hashes-below bytes))

  pub demand-back : (bytes : List ℕ) → hashes_call demands_of bytes at out ≡ write (Ok next) out' → ReadBack (demands_of (hashes_of bytes)) at next out'
  demand-back bytes = hashes-back demands_of bytes (demands-good (hashes_of bytes) (hashes-below bytes))

  pub element-back : (bytes : List ℕ) → Below 8 bytes → element_call bytes at out ≡ write (Ok next) out' → ReadBack (element bytes ∷ []) at next out'
  unfolding element_call
  element-back bytes below e =
      let cs = element bytes ∷ [] in
      let t = both_hold Room Malformed (have_room cs at out) (leb 1 (length bytes) && leb (length bytes) 65531) (wrote_none _ cs at next out out' e) in
      wrote-back _ cs at next out out' e t.0 (record { number = t.1; fit = below }, tt)

  pub done-back : (check : List ℕ) → done_call check at out ≡ write (Ok next) out' → ReadBack (done (joined 8 (take 64 check)) ∷ []) at next out'
  unfolding done_call
  done-back check e =
      let cs = done (joined 8 (take 64 check)) ∷ [] in
      let t = first_holds Room (leb 64 (length check) && have_room cs at out) [] (wrote_none _ cs at next out out' e) in
      wrote-back _ cs at next out out' e (both (leb 64 (length check)) (have_room cs at out) t.0).1 (field_lt 64 0 check, tt)

pub filter_back : (at next : ℕ) (out out' : List ℕ) (size salt : ℕ) (c : Columns) → Below 64 c.idsums → Below 32 c.hashsums
    → filter_call size salt c at out ≡ write (Ok next) out' → ReadBack (slices_of size salt (width_for size c.counts) c) at next out'
unfolding filter_call
filter_back at next out out' size salt c ids hashes e =
    let width = width_for size c.counts in
    let cs = slices_of size salt width c in
    let one = first_holds Form (are_counts size c.counts) ((Range, in_range size salt) ∷ (Room, has_room size c && have_room cs at out) ∷ []) (wrote_none _ cs at next out out' e) in
    let two = both_hold Range Room (in_range size salt) (has_room size c && have_room cs at out) one.1 in
    let three = both (has_room size c) (have_room cs at out) two.1 in
    wrote-back _ cs at next out out' e three.1
    (filter_good size salt c one.0 two.0 three.0 (take_below 64 size c.idsums ids) (take_below 32 size c.hashsums hashes))
