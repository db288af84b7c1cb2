-- The first filter, read as complete (document 02, Req 14): "made by the rules from its sender's table".
--
--   read_all        the reading of a whole filter, in one slice or two
--   opening        what the reader of a complete filter sends: INQUIRY, OFFER, and DONE if nothing is theirs
--   begun          its session then
--   read_filter    it hears the filter and begins so
--
-- Assumes nothing.
use mathlib.Core.Path.{◌≡◌, refl}
use mathlib.Core.Bool.{Bool, true, false, cond}
use mathlib.Core.List.{List, [], ◌∷◌, ◌++◌, map, append-nil}
use Prim.Native.Nat.{ℕ, ◌+◌, ◌≤◌}
use native.Mathlib.Omega.{arith}
use lib.Dec.{ltb}
use borrow.Author.Tests.{eq-eqb, ne_eqb, ltb-true, ltb-false, le-ltb}
use Rattle.bucket.specs.Columns.{Columns}
use Rattle.bucket.proofs.ListLaws.{eqb_self}
use Rattle.filter.specs.Calls.{Read}
use Rattle.message.specs.Layout.{Content, slice, done, in_slice}
use Rattle.message.specs.Laying.{laid}
use Rattle.message.specs.Writing.{inquiries_of, offers_of, slices_of, slice_at}
use Rattle.filter.specs.Sets.{◌∪◌, is_nil, count}
use Rattle.ledger.specs.Grid.{EXPECTING, EXPECTING_LAST, ACTIVE, is_last, place_in, entry}
use Rattle.ledger.specs.Session.{Session, no_ledger, by_slice, admitted, placed, is_complete, ours_in, theirs_in, own_filter, sliced, ids_of, hash_of, held, checksum, hashes_for, reading_at, too_many, tests, decoded, on_slice, act}
use Rattle.ledger.proofs.ReadingLaws.{complete-clean}
use Rattle.union.proofs.Net.{hears_then}
use Rattle.union.proofs.Ends.{Rules, end, next, says, put, led, sum, Hear, hear}

-- columns with slices laid into them
unfoldable pub laid_all : List Content → Columns → Columns
laid_all [] c = c
laid_all (m ∷ ms) c = laid_all ms (laid m c)

-- the reading of a whole filter of a size at a salt by a session that holds the table B
abbrev pub read_all : Rules → List ℕ → Session → (size salt : ℕ) → List Content → Read
read_all R B s size salt first = reading_at R.id_of B size salt (laid_all first s.columns) s.ours s.theirs

-- what the reader of a complete filter sends, and its session then
abbrev pub opening : Rules → List ℕ → List ℕ → List ℕ → ℕ → List Content
opening R B ours theirs salt = inquiries_of salt theirs ++ (offers_of (map (hash_of R.id_of B) ours) ++ cond (is_nil theirs) (done (sum B) ∷ []) [])

abbrev pub begun : Rules → List ℕ → List ℕ → List ℕ → Session → Session
begun R B ours theirs s = put s ACTIVE false (led theirs [] (map (hash_of R.id_of B) ours) [] [] [] (is_nil theirs))

module _ (R : Rules) (B : List ℕ) (size salt : ℕ) where
  -- it hears messages, reads them as r, and begins
  abbrev pub Begins : Session → List Content → Read → Type 0
  Begins s ms r = (s' : Session) × Hear R (end B s) ms (end B (begun R B (ours_in r) (theirs_in r) s')) (opening R B (ours_in r) (theirs_in r) salt)

  abbrev pub Fits : Read → Type 0
  Fits r = count (ids_of R.id_of B ++ theirs_in r) ≤ 4096

  read_last : (q : ℕ) (s : Session) (offset width : ℕ) (is hs cs : List ℕ)
      → let c = slice size offset salt width is hs cs in
      let r = reading_at R.id_of B size salt (laid c s.columns) s.ours s.theirs in
      is_last size offset ≡ true → admitted (put s q false no_ledger) c ≡ true → placed (put s q false no_ledger) size offset salt width ≡ true
      → is_complete r ≡ true → Fits r → Begins (put s q false no_ledger) (c ∷ []) r
  unfolding tests by_slice act on_slice decoded hashes_for held ◌∪◌ checksum too_many
  read_last q s offset width is hs cs whole ad pl full fits =
      let c : Content = slice size offset salt width is hs cs in
      let s1 : Session = put s q false no_ledger in
      let r : Read = reading_at R.id_of B size salt (laid c s.columns) s.ours s.theirs in
      let clean : r.answer.refusal ≡ 0 = complete-clean R.id_of B size salt (laid c s.columns) s.ours s.theirs full in
      let few : ltb 4096 (count (ids_of R.id_of B ++ theirs_in r)) ≡ false = le-ltb 4096 _ fits in (
        (decoded R.id_of B s1 r size salt).session,
        rw (whole, full, append-nil) at (hear R B s1 c 0 refl ad (pl, (rw (whole, full, few) refl, (rw (whole, full) refl, (rw (whole, clean) refl, tt))))),
      )

  read_slices : (made : Columns) (width : ℕ) → size ≤ 4096 → (s : Session) → let r = read_all R B s size salt (slices_of size salt width made) in
      is_complete r ≡ true → Fits r → Begins (put s EXPECTING false no_ledger) (slices_of size salt width made) r
  unfolding slices_of laid_all tests admitted entry place_in placed by_slice act on_slice sliced
  read_slices made width most s full fits = go (ltb 2520 size) refl full fits
    where
      head : Content
      head = slice_at size 0 salt width made

      tail : Content
      tail = slice_at size 2520 salt width made

      sent : Bool → List Content
      sent b = head ∷ cond b (tail ∷ []) []

      at : Bool → Read
      at b = read_all R B s size salt (sent b)

      go : (b : Bool) → ltb 2520 size ≡ b → is_complete (at b) ≡ true → Fits (at b) → Begins (put s EXPECTING false no_ledger) (sent b) (at b)
      go false e f g =
          let l = ltb-false 2520 size e in
          let whole : is_last size 0 ≡ true = rw (eq-eqb (0 + in_slice size 0) size (omega arith)) refl in
          read_last EXPECTING s 0 width _ _ _ whole (rw whole refl) refl f g
      go true e f g =
          let l = ltb-true 2520 size e in
          let s1 : Session = put s EXPECTING false no_ledger in
          let part : is_last size 0 ≡ false = rw (ne_eqb (0 + in_slice size 0) size (λ q. absurd (omega arith))) refl in
          let last : is_last size 2520 ≡ true = rw (eq-eqb (2520 + in_slice size 2520) size (omega arith)) refl in
          let begins : Hear R (end B s1) (head ∷ []) (end B (sliced s1 head size salt width)) [] =
          rw part at (hear R B s1 head 0 refl (rw part refl) (refl, (rw part refl, (rw part refl, (rw part refl, tt))))) in
          let (s', hr) = read_last EXPECTING_LAST (sliced s1 head size salt width) 2520 width _ _ _ last (rw last refl)
          (rw (eqb_self size, eqb_self salt, eqb_self width) refl) f g in
          (s', hears_then (next R) (says R) {a'' = end B (begun R B (ours_in (at true)) (theirs_in (at true)) s')} begins hr)

  -- the filter made by the rules from IDs
  pub read_filter : (ids : List ℕ) → size ≤ 4096 → (s : Session) → let r = read_all R B s size salt (own_filter ids size salt) in
      is_complete r ≡ true → Fits r → Begins (put s EXPECTING false no_ledger) (own_filter ids size salt) r
  unfolding own_filter
  read_filter ids most s full fits = read_slices _ _ most s full fits
