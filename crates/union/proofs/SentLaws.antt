-- What a step sends is in range: with hashes of 512 bits and columns of 64, each INQUIRY, OFFER and DEMAND, each slice of a swap's filter and each
-- DONE is good; so laid out end to end they are walked one by one, each found at its place with what it says.
--
--   Narrow s          the session's columns have IDSUMs of 64 bits, its demands are hashes of 512 bits
--   sent-good         every message that a step sends is good
--   narrow_kept       every step keeps a session narrow
--   sent-good-after   so it is after any messages
--   own-good          every message of a filter made by the rules is good
--   good-read         good messages are read back
--
-- The derivation of IDs is any that keeps to 64 bits (filter's first_eight_below: document 01's does).
-- Assumes nothing.
use mathlib.Core.Path.{◌≡◌, sym, ap, subst, ◌∙◌}
use mathlib.Core.Logic.{◌⊎◌, inl, inr}
use mathlib.Core.Bool.{Bool, true, false, cond}
use mathlib.Core.List.{List, [], ◌∷◌, ◌++◌, append-nil}
use Prim.Native.Nat.{ℕ, ◌^◌, ◌≤◌, ◌<◌}
use native.Mathlib.Nat.{zero-add}
use native.Mathlib.Omega.{arith}
use borrow.Author.Tests.{lt-ltb}
use lib.ListN.{length, drop, length-map}
use lib.Seq.{drop-length}
use Rattle.bucket.specs.Digits.{Below}
use Rattle.bucket.specs.Lists.{elem, over}
use Rattle.bucket.specs.Places.{place_count}
use Rattle.filter.specs.Calls.{in_range, Read}
use Rattle.filter.specs.Filter.{filter_rule, filter_of}
use Rattle.message.specs.Layout.{Content, slice, inquiry, offer, demand, element, done, Good}
use Rattle.message.specs.Laying.{laid}
use Rattle.message.specs.Writing.{layouts, inquiries_of, offers_of}
use Rattle.message.proofs.BackLaws.{AllGoodContents, Walks, walked-back}
use Rattle.message.proofs.FilterLaws.{filter_good}
use Rattle.message.proofs.PieceLaws.{inquiries_good, offers-good, demands-good}
use Rattle.message.proofs.WholeLaws.{take_below}
use Rattle.filter.specs.Sets.{is_nil}
use Rattle.ledger.specs.Session.{Ledger, Session, Outcome, Change, admitted, next_salt, next_size, is_complete, ours_in, theirs_in, own_filter, sliced, clears, ids_of, held, held_ids, checksum, hashes_for, read_of, tests, refusal, own_done, swapped, decoded, on_slice, change, act, cleared, halted, refused, step}
use Rattle.filter.proofs.SetLaws.{◌∈◌, ◌⊆◌, not_in_nil, or_cases}
use Rattle.bucket.proofs.ListLaws.{elem-append}
use Rattle.ledger.proofs.BookLaws.{Table, Form}
use Rattle.ledger.proofs.HeldLaws.{ids_in_lem, ids-part, held_in, table-held, hashes-held}
use Rattle.ledger.proofs.ReadingLaws.{read-law}
use Rattle.ledger.proofs.FaultLaws.{Ranges, ranges, by_kind, Passed, by_reading, by_step}
use Rattle.ledger.proofs.Lawful.{hashes_in, Says, nothing, ending, offers, demands, Lawful, lawful}
use Rattle.ledger.proofs.Theorems.{after, AllGood, form-kept}
use Rattle.ledger.proofs.FilterRoomLaws.{blank, next_in_range, own, own-counts, own_room}
use Rattle.ledger.proofs.BelowLaws.{Fit, below_of, fit_of, fit-part, over_below, zeros-below, xor_fit}
use Rattle.union.proofs.NarrowLaws.{filter_ids, filter_hashes, filled-ids, filled-hashes, cleared-ids, theirs-fit, reading-columns}

-- ---- messages

pub good-append : (a b : List Content) → AllGoodContents a → AllGoodContents b → AllGoodContents (a ++ b)
good-append [] b f g = g
good-append (c ∷ a) b f g = (f.0, good-append a b f.1 g)

over_self : (xs : List ℕ) → over 0 xs xs ≡ xs
unfolding over
over_self xs = ap (λ (n : ℕ). xs ++ drop n xs) (zero-add (length xs)) ∙ ap (λ (l : List ℕ). xs ++ l) (drop-length xs) ∙ append-nil xs

pub good-read : (cs : List Content) → AllGoodContents cs → Walks (layouts cs) 0 cs
good-read cs g = subst (λ (l : List ℕ). Walks l 0 cs) (over_self (layouts cs)) (walked-back (layouts cs) 0 cs g (omega arith))

-- the filter made by the rules from IDs of 64 bits
pub own-good : (ids : List ℕ) (size salt : ℕ) → length ids ≤ 4096 → in_range size salt ≡ true → Fit 64 ids → AllGoodContents (own_filter ids size salt)
unfolding own_filter
own-good ids size salt few range f =
    let R = filter_rule size salt in
    filter_good size salt (own ids size salt few range) (own-counts ids size salt few range) range (own_room ids size salt few range)
    (take_below 64 size _ (filled-ids size (filter_of R ids) blank (filter_ids (place_count size) size salt ids f) (zeros-below 64 4096)))
    (take_below 32 size _ (filled-hashes size (filter_of R ids) blank (filter_hashes (place_count size) size salt ids) (zeros-below 32 4096)))

-- ---- sessions

pub record Narrow (s : Session) : Type 0 where
  pub columns : Below 64 s.columns.idsums
  pub demanded : Fit 512 s.ledger.demanded

laid-ids : (size offset salt width : ℕ) (ids hashes counts : List ℕ) (s : Session) → Good (slice size offset salt width ids hashes counts) → Narrow s
    → Below 64 (laid (slice size offset salt width ids hashes counts) s.columns).idsums
unfolding laid
laid-ids size offset salt width ids hashes counts s g n = over_below 64 offset ids s.columns.idsums g.ids-fit n.columns

module _ (derive : ℕ → ℕ) (bound : (h : ℕ) → h < 2 ^ 512 → derive h < 2 ^ 64) (t : List ℕ) (table : Table derive t) (short : Fit 512 t) where
  pub ids-fit : Fit 64 (ids_of derive t)
  ids-fit x e = let (h, m, q) = ids_in_lem derive x t e in subst (λ (n : ℕ). n < 2 ^ 64) q (bound h (short h m))

  pub ids-few : length (ids_of derive t) ≤ 4096
  unfolding ids_of
  ids-few = omega (arith, length-map t derive, table.few)

  held-fit : (L : Ledger) → Fit 512 L.gained → Fit 512 (held derive t L)
  held-fit L f h e = go (held_in derive t L h e)
    where
      go : (h ∈ L.gained) ⊎ (h ∈ t) → h < 2 ^ 512
      go (inl m) = f h m
      go (inr m) = short h m

  gained-fit : (s : Session) → Form derive t s → Narrow s → Fit 512 s.ledger.gained
  gained-fit s f n = fit-part 512 s.ledger.gained s.ledger.demanded f.books.gained_demanded n.demanded

  -- DONE
  done-good : (L : Ledger) → Fit 512 L.gained → AllGoodContents (own_done derive t L)
  unfolding checksum
  done-good L f = (xor_fit 512 (held derive t L) (held-fit L f), tt)

  -- OFFER for IDs that are held
  offered-good : (s : Session) (xs : List ℕ) → Form derive t s → Narrow s → xs ⊆ held_ids derive t s.ledger
      → AllGoodContents (offers_of (hashes_for derive t s.ledger xs))
  offered-good s xs f n h =
      let hs : List ℕ = hashes_for derive t s.ledger xs in
      offers-good hs (below_of 512 hs
      (fit-part 512 hs (held derive t s.ledger) (hashes-held derive t s.ledger xs h) (held-fit s.ledger (gained-fit s f n))))

  -- ---- after a reading

  module _ (s : Session) (c : Content) (size salt : ℕ) (f : Form derive t s) (n : Narrow s) (in_range_lem : Ranges size salt)
      (b : Below 64 (laid c s.columns).idsums) where
    abbrev r : Read
    r = read_of derive t s c size salt

    decoded-good : is_complete r ≡ true → AllGoodContents (decoded derive t s r size salt).sent
    unfolding decoded
    decoded-good whole =
        good-append (inquiries_of salt (theirs_in r)) _
        (inquiries_good salt (theirs_in r) (lt-ltb salt 64 in_range_lem.small)
        (below_of 64 (theirs_in r) (theirs-fit derive t size salt (laid c s.columns) s.ours s.theirs ids-fit b whole)))
        (good-append (offers_of (hashes_for derive t s.ledger (ours_in r))) _
        (offered-good s (ours_in r) f n
        (λ x e. ids-part derive t (held derive t s.ledger) (table-held derive t s.ledger) x
        ((read-law derive t size salt (laid c s.columns) s.ours s.theirs whole).ours_held x e)))
        (last (is_nil (theirs_in r))))
      where
        last : (d : Bool) → AllGoodContents (cond d (own_done derive t s.ledger) [])
        last true = done-good s.ledger (gained-fit s f n)
        last false = tt

    swapped-good : AllGoodContents (swapped derive t s r size salt).sent
    unfolding swapped
    swapped-good = own-good (ids_of derive t) (next_size size) (next_salt salt) ids-few (next_in_range size salt in_range_lem.low in_range_lem.small) ids-fit

    slice-good : (offset width : ℕ) → AllGoodContents (on_slice derive t s c size offset salt width).sent
    slice-good offset width =
        by_reading derive t (λ o. AllGoodContents o.sent) s c size offset salt width (λ whole yes. decoded-good yes) (λ whole no. swapped-good) tt

  -- ---- a message that is acted on

  -- what a lawful change keeps, and what it sends
  module _ (h : ℕ) (s : Session) (c : Content) (ch : Change) (l : Lawful derive t h s c ch) (f : Form derive t s) (n : Narrow s)
      (g : Fit 512 (hashes_in c)) where
    demanded-fit : Fit 512 ch.ledger.demanded
    demanded-fit x e =
        go (or_cases (elem x (hashes_in c)) (elem x s.ledger.demanded) (sym (elem-append x (hashes_in c) s.ledger.demanded) ∙ l.demanded x e))
      where
        go : (x ∈ hashes_in c) ⊎ (x ∈ s.ledger.demanded) → x < 2 ^ 512
        go (inl m) = g x m
        go (inr m) = n.demanded x m

    change-good : AllGoodContents ch.sent
    change-good = go l.says
      where
        go : Says derive t s.ledger c ch → AllGoodContents ch.sent
        go (nothing e) = subst AllGoodContents (sym e) tt
        go (ending e) =
            subst AllGoodContents (sym e) (done-good ch.ledger (fit-part 512 ch.ledger.gained ch.ledger.demanded l.books.gained_demanded demanded-fit))
        go (offers xs p e) = subst AllGoodContents (sym e) (offered-good s xs f n p)
        go (demands hs p e) = subst AllGoodContents (sym e) (demands-good hs (below_of 512 hs (fit-part 512 hs (hashes_in c) p g)))

  hashes-fit : (c : Content) → Good c → Fit 512 (hashes_in c)
  hashes-fit (offer hs) g = fit_of 512 hs g.fit
  hashes-fit (slice size offset salt width ids hashes counts) g = λ x e. absurd (not_in_nil x e)
  hashes-fit (inquiry salt xs) g = λ x e. absurd (not_in_nil x e)
  hashes-fit (demand hs) g = λ x e. absurd (not_in_nil x e)
  hashes-fit (element bytes) g = λ x e. absurd (not_in_nil x e)
  hashes-fit (done check) g = λ x e. absurd (not_in_nil x e)

  slice-fit : (s : Session) (c : Content) (size offset salt width : ℕ) (ids hashes counts : List ℕ) → c ≡ slice size offset salt width ids hashes counts
      → Good c → Narrow s
      → Ranges size salt × Below 64 (laid c s.columns).idsums
  slice-fit s c size offset salt width ids hashes counts e g n =
      subst (λ (d : Content). Good d → Ranges size salt × Below 64 (laid d s.columns).idsums) (sym e)
      (λ g. (ranges size offset salt width g.ranges, laid-ids size offset salt width ids hashes counts s g n)) g

  narrow_slice : (s : Session) (c : Content) (size offset salt width : ℕ) → Narrow s → Below 64 (laid c s.columns).idsums
      → Narrow (on_slice derive t s c size offset salt width).session
  unfolding decoded swapped sliced
  narrow_slice s c size offset salt width n b =
      let left = reading-columns derive t size salt (laid c s.columns) s.ours s.theirs ids-fit b in
      by_reading derive t (λ o. Narrow o.session) s c size offset salt width
      (λ whole yes. record { columns = left; demanded = n.demanded }) (λ whole no. record { columns = left; demanded = n.demanded })
      (record { columns = b; demanded = n.demanded })

  act-good : (h : ℕ) (s : Session) (c : Content) → Form derive t s → Narrow s → Good c → admitted s c ≡ true → Passed (tests derive t h s c)
      → AllGoodContents (act derive t h s c).sent × Narrow (act derive t h s c).session
  unfolding act
  act-good h s c f n g ad fs =
      by_kind (λ (o : Outcome). AllGoodContents o.sent × Narrow o.session) c _ _
      (λ size offset salt width ids hashes counts e.
      let (ra, b) = slice-fit s c size offset salt width ids hashes counts e g n in
      (slice-good s c size salt f n ra b offset width, narrow_slice s c size offset salt width n b))
      (λ k. let l = lawful derive t h s c k f ad fs in (
        change-good h s c (change derive t h s c) l f n (hashes-fit c g),
        record { columns = n.columns; demanded = demanded-fit h s c (change derive t h s c) l f n (hashes-fit c g) },
      ))

  pub sent-good : (h : ℕ) (s : Session) (c : Content) → Form derive t s → Narrow s → Good c → AllGoodContents (step derive t h s c).sent
  sent-good h s c f n g = by_step derive t (λ o. AllGoodContents o.sent) h s c (λ ad fs. (act-good h s c f n g ad fs).0) tt

  -- ---- a step keeps the session narrow

  narrow_refused : (m : ℕ) (s : Session) (c : Content) → Narrow s → Good c → Narrow (refused derive t m s c)
  unfolding refused cleared
  narrow_refused m s c n g =
      by_kind Narrow c _ _
      (λ size offset salt width ids hashes counts e. go (clears m) size salt (slice-fit s c size offset salt width ids hashes counts e g n).1)
      (λ k. record { columns = n.columns; demanded = n.demanded })
    where
      go : (b : Bool) (size salt : ℕ) → Below 64 (laid c s.columns).idsums
          → Narrow (cond b (cleared derive t s (read_of derive t s c size salt) size) (halted derive t s))
      go true size salt b = record {
        columns =
            cleared-ids size (read_of derive t s c size salt).columns
            (reading-columns derive t size salt (laid c s.columns) s.ours s.theirs ids-fit b);
        demanded = n.demanded;
      }
      go false size salt b = record { columns = n.columns; demanded = n.demanded }

  pub narrow_kept : (h : ℕ) (s : Session) (c : Content) → Form derive t s → Narrow s → Good c → Narrow (step derive t h s c).session
  narrow_kept h s c f n g =
      by_step derive t (λ o. Narrow o.session) h s c (λ ad fs. (act-good h s c f n g ad fs).1) (narrow_refused (refusal derive t h s c) s c n g)

  -- so it is for every step of a session
  pub sent-good-after : (s : Session) (ms : List (ℕ × Content)) → Form derive t s → Narrow s → AllGood derive t ms
      → (h : ℕ) (c : Content) → Good c → AllGoodContents (step derive t h (after derive t s ms) c).sent
  unfolding after
  sent-good-after s [] f n a h c g = sent-good h s c f n g
  sent-good-after s (m ∷ ms) f n a h c g =
      sent-good-after (step derive t m.0 s m.1).session ms (form-kept derive t table m.0 s m.1 a.0 f) (narrow_kept m.0 s m.1 f n a.0)
      a.1 h c g
