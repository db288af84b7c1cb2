-- What a step sends, and the hashes that it hands out, fit the outgoing buffer: at most 295,008 bytes (4,096 IDs inquired, 4,096 hashes offered, and
-- a DONE, after a reading).
--
--   Fits o       the messages of an outcome and its hashes fit, the hashes have 512 bits, and there are none where there are messages
--   step_fits    those of a step do
--
-- Assumes nothing.
use mathlib.Core.Path.{◌≡◌, refl, sym, ap, subst, ◌∙◌}
use mathlib.Core.Logic.{◌⊎◌, inl, inr}
use mathlib.Core.Bool.{Bool, true, false, not, ◌&&◌, cond, false≢true}
use mathlib.Core.List.{List, [], ◌++◌}
use Prim.Native.Nat.{ℕ, ◌+◌, ◌*◌, ◌≤◌}
use native.Mathlib.Omega.{arith}
use lib.Dec.{eqb, leb}
use lib.ListN.{length, length-append, length-map}
use borrow.Author.Tests.{leb-true, le-leb, lt-ltb, ltb-false, not-true}
use Rattle.bucket.specs.Lists.{elem}
use Rattle.bucket.proofs.TestLaws.{and_holds}
use Rattle.filter.specs.Calls.{in_range, Read}
use Rattle.filter.specs.Sets.{is_nil, once, count, implies}
use Rattle.filter.proofs.ListLaws.{implies_of, once-distinct, news-distinct, news_in, count_le, count-length, count-distinct}
use Rattle.filter.proofs.SetLaws.{clash, and_r, not_in_nil, in_append-r, select_in}
use Rattle.message.specs.Layout.{Content, slice, inquiry, offer, demand, element, done, Good, Many}
use Rattle.message.specs.Writing.{layouts, inquiries_of, offers_of, demands_of}
use Rattle.ledger.specs.Grid.{PASSIVE, is_last}
use Rattle.ledger.specs.Session.{Ledger, Session, Outcome, «in», is_slice, unmet, gaining, changed, next_salt, next_size, is_complete, ours_in, theirs_in, own_filter, ids_of, held, held_ids, checksum, hashes_for, asks, new, says_done, read_of, too_many, tests, own_done, swapped, decoded, on_slice, change, act, step}
use Rattle.ledger.proofs.BookLaws.{Table, Form}
use Rattle.ledger.proofs.FaultLaws.{by_kind, Passed, by_reading, by_step}
use Rattle.ledger.proofs.FilterRoomLaws.{own_filter_room}
use Rattle.ledger.proofs.GridLaws.{slice-kind}
use Rattle.ledger.proofs.HeldLaws.{in_concerned}
use Rattle.ledger.proofs.ReadingLaws.{ReadLaw, read-law}
use Rattle.ledger.proofs.RoomLaws.{layouts-append, inquiries_room, offers-room, demands-room, done-length}
use Rattle.ledger.proofs.Theorems.{form-kept}
use Rattle.ledger.proofs.BelowLaws.{Fit, fit_of}
use Rattle.union.proofs.CallGiven.{concerned-few}

-- messages and hashes that fit
abbrev Fitting : List Content → List ℕ → Type 0
Fitting cs hs = (length (layouts cs) + 64 * length hs ≤ 295008) × Fit 512 hs × ((hs ≡ []) ⊎ (cs ≡ []))

abbrev pub Fits : Outcome → Type 0
Fits o = Fitting o.sent o.due

sent-alone : (cs : List Content) → length (layouts cs) ≤ 295008 → Fitting cs []
sent-alone cs h = (omega (arith, h), λ x e. absurd (not_in_nil x e), inl refl)

nothing-long : length (layouts []) ≡ 0
unfolding layouts
nothing-long = refl

module _ (derive : ℕ → ℕ) (t : List ℕ) where
  -- our DONE, or nothing
  done-room : (b : Bool) (L : Ledger) → length (layouts (cond b (own_done derive t L) [])) ≤ 68
  done-room true L = omega (arith, done-length (checksum derive t L))
  done-room false L = omega (arith, nothing-long)

  own-done : (b : Bool) (L : Ledger) → Fitting (cond b (own_done derive t L) []) []
  own-done b L = sent-alone (cond b (own_done derive t L) []) (omega (arith, done-room b L))

  hashes-many : (L : Ledger) (xs : List ℕ) → length (hashes_for derive t L xs) ≡ length xs
  unfolding hashes_for
  hashes-many L xs = length-map xs _

  -- ---- after a reading

  module _ (table : Table derive t) (s : Session) (r : Read) (size salt : ℕ) where
    ids-long : length (ids_of derive t) ≤ 4096
    unfolding ids_of
    ids-long = omega (arith, length-map t derive, table.few)

    decoded-fits : ReadLaw (ids_of derive t) r → count (ids_of derive t ++ theirs_in r) ≤ 4096 → Fits (decoded derive t s r size salt)
    unfolding decoded
    decoded-fits law few =
        sent-alone (asked ++ (offered ++ last))
        (omega (
          arith,
          ap length (layouts-append asked (offered ++ last)) ∙ length-append (layouts asked) (layouts (offered ++ last)),
          ap length (layouts-append offered last) ∙ length-append (layouts offered) (layouts last),
          inquiries_room salt (theirs_in r) theirs-few,
          offers-room (hashes_for derive t s.ledger (ours_in r)) (omega (arith, hashes-many s.ledger (ours_in r), ours-few)),
          done-room (is_nil (theirs_in r)) s.ledger,
        ))
      where
        asked : List Content
        asked = inquiries_of salt (theirs_in r)

        offered : List Content
        offered = offers_of (hashes_for derive t s.ledger (ours_in r))

        last : List Content
        last = cond (is_nil (theirs_in r)) (own_done derive t s.ledger) []

        theirs-few : length (theirs_in r) ≤ 4096
        theirs-few =
            omega (
              arith,
              few,
              count-distinct (theirs_in r) law.theirs_once,
              count_le (theirs_in r) (ids_of derive t ++ theirs_in r) (λ x e. in_append-r x (ids_of derive t) (theirs_in r) e),
            )

        ours-few : length (ours_in r) ≤ 4096
        ours-few =
            omega (
              arith,
              ids-long,
              count-distinct (ours_in r) law.ours_once,
              count_le (ours_in r) (ids_of derive t) law.ours_held,
              count-length (ids_of derive t),
            )

    -- the size and the salt of a swap are in range, as those of the session after it
    swapped_fits : Form derive t (swapped derive t s r size salt).session → Fits (swapped derive t s r size salt)
    unfolding swapped in_range
    swapped_fits f =
        sent-alone (own_filter (ids_of derive t) (next_size size) (next_salt salt))
        (omega (
          arith,
          own_filter_room (ids_of derive t) (next_size size) (next_salt salt) ids-long
              (and_holds (le-leb 37 (next_size size) f.size_low)
              (and_holds (le-leb (next_size size) 4096 f.size_high) (lt-ltb (next_salt salt) 64 f.salt))),
        ))

  slice_fits_lem : Table derive t → (s : Session) (c : Content) (size offset salt width : ℕ)
      → implies (is_last size offset) (not (too_many derive t (read_of derive t s c size salt))) ≡ true
      → Form derive t (on_slice derive t s c size offset salt width).session → Fits (on_slice derive t s c size offset salt width)
  unfolding too_many
  slice_fits_lem table s c size offset salt width many =
      let r : Read = read_of derive t s c size salt in
      by_reading derive t (λ (o : Outcome). Form derive t o.session → Fits o) s c size offset salt width
      (λ whole yes f. decoded-fits table s r size salt (read-law derive t size salt _ s.ours s.theirs yes)
      (ltb-false 4096 (count (ids_of derive t ++ theirs_in r)) (few (is_complete r) _ (implies_of (is_last size offset) _ many whole) yes)))
      (λ whole no f. swapped_fits table s r size salt f)
      (λ f. sent-alone [] (omega (arith, nothing-long)))
    where
      few : (a b : Bool) → not (a && b) ≡ true → a ≡ true → b ≡ false
      few true b e k = not-true b e
      few false b e k = absurd (false≢true k)

  -- ---- every other message

  module _ (h : ℕ) (s : Session) (f : Form derive t s) where
    -- IDs held that were asked for, each once
    asked-few : (xs : List ℕ) → once s.ledger.asked (asks derive t s.ledger xs) ≡ true → length (asks derive t s.ledger xs) ≤ 4096
    unfolding asks
    asked-few xs e =
        concerned-few derive t s.ledger f.books (asks derive t s.ledger xs) (once-distinct s.ledger.asked (asks derive t s.ledger xs) e)
        (λ x k. in_concerned derive t s.ledger x (inl (select_in (λ z. elem z (held_ids derive t s.ledger)) xs x k).0))

    new-few : (hs : List ℕ) → length (new derive t s.ledger hs) ≤ length hs
    unfolding new
    new-few hs =
        let seen : List ℕ = held derive t s.ledger ++ s.ledger.demanded in
        omega (
          arith,
          count-distinct (new derive t s.ledger hs) (news-distinct seen hs),
          count_le (new derive t s.ledger hs) hs (news_in seen hs),
          count-length hs,
        )

    many : (hs : List ℕ) → Many 512 1023 hs → length hs ≤ 1023
    many hs g = leb-true (length hs) 1023 (and_r (leb 1 (length hs)) _ g.number)

    change-fits : (c : Content) → is_slice c ≡ false → Good c → Passed (tests derive t h s c) → Fits (changed s (change derive t h s c))
    unfolding change tests
    change-fits (slice size offset salt width ids hashes counts) k g fs = absurd (clash (slice-kind (is_last size offset)) k)
    change-fits (inquiry salt xs) k g fs =
        let ys : List ℕ = asks derive t s.ledger xs in
        let few : length ys ≤ 4096 = asked-few xs (and_r (eqb salt s.salt) _ fs.0) in
        sent-alone (offers_of (hashes_for derive t s.ledger ys))
        (omega (arith, offers-room (hashes_for derive t s.ledger ys) (omega (arith, hashes-many s.ledger ys, few))))
    change-fits (offer hs) k g fs =
        sent-alone (demands_of (new derive t s.ledger hs))
        (omega (arith, demands-room (new derive t s.ledger hs) (omega (arith, new-few hs, many hs g))))
    change-fits (demand hs) k g fs = (omega (arith, nothing-long, many hs g), fit_of 512 hs g.fit, inr refl)
    change-fits (element bytes) k g fs = own-done (says_done derive t s (gaining h s.ledger)) (gaining h s.ledger)
    change-fits (done check) k g fs = own-done («in» s PASSIVE && is_nil (unmet s.ledger)) s.ledger

  -- ---- a step

  pub step_fits : Table derive t → (h : ℕ) (s : Session) (c : Content) → Form derive t s → Good c → Fits (step derive t h s c)
  unfolding act tests
  step_fits table h s c f g =
      by_step derive t (λ (o : Outcome). Form derive t o.session → Fits o) h s c
      (λ ad fs. by_kind (λ (o : Outcome). Form derive t o.session → Fits o) c _ _
      (λ size offset salt width ids hashes counts q.
      slice_fits_lem table s c size offset salt width
      (subst
      (λ (d : Content). Passed (tests derive t h s d) → implies (is_last size offset) (not (too_many derive t (read_of derive t s d size salt))) ≡ true)
      (sym q) (λ ps. ps.1.0) fs))
      (λ k after. change-fits h s f c k g fs))
      (λ after. sent-alone [] (omega (arith, nothing-long)))
      (form-kept derive t table h s c g f)
