-- A call on a good form leaves a good form, whatever bytes were its message: so refusal 1 never meets memory that came back as it was left.
--
--   counted-act    in state 1 the columns hold counts, as refusal 1 tests them
--   form_call      what a call leaves, handed back, is in form
--   ids_call       its IDSUMs keep to 64 bits
--
-- Assumes nothing.
use mathlib.Core.Path.{◌≡◌, refl, sym, ap, ap₂, subst, ◌∙◌}
use mathlib.Core.Bool.{Bool, true, false, ◌&&◌, ◌||◌, cond}
use mathlib.Core.List.{List, [], ◌∷◌, map}
use Prim.Native.Nat.{ℕ, suc, ◌+◌, ◌^◌, ◌≤◌, ◌<◌}
use native.Mathlib.Nat.{lt_of_lt_of_le}
use native.Mathlib.Omega.{arith}
use lib.Dec.{eqb, leb}
use lib.IntN.{ℤ, pos}
use lib.ListN.{length, take, length-map, length-append, length-take, length-drop}
use lib.Pow.{pow_mono}
use borrow.Author.Tests.{leb-true, le-leb, lt-ltb, eqb-true, eq-eqb, ne_eqb}
use Rattle.bucket.specs.Digits.{Below}
use Rattle.bucket.specs.Lists.{over}
use Rattle.bucket.proofs.OverLaws.{part-over}
use Rattle.bucket.proofs.TestLaws.{and_holds}
use Rattle.filter.specs.Calls.{all_counts, are_counts}
use Rattle.filter.specs.Sets.{implies}
use Rattle.filter.specs.Table.{is_table}
use Rattle.filter.proofs.ListLaws.{of_implies}
use Rattle.filter.proofs.SetLaws.{clash, and_l, and_r}
use Rattle.message.specs.Layout.{Content, slice, Good, GoodSlice, in_slice, slice_type, slice_bytes, slice_good, IBF, IBF_LAST}
use Rattle.message.specs.Laying.{laid}
use Rattle.message.proofs.ReadLaws.{Ranges, slice-ranges}
use Rattle.message.proofs.ShapeLaws.{choose}
use Rattle.ledger.specs.Grid.{EXPECTING_LAST, ACTIVE, is_state, is_ended, is_last}
use Rattle.ledger.specs.Session.{Ledger, Session, Outcome, «in», admitted, is_complete, sliced, read_of, tests, refusal, swapped, decoded, on_slice, change, act}
use Rattle.ledger.specs.Form.{good_numbers, good_books, good_part, good_whole, good_ledger, idle}
use Rattle.ledger.specs.Memory.{bit, Memory, encode, all_below}
use Rattle.ledger.specs.Calls.{Given, Left, numbers_of, memory_of, table_of, hash_given, session_of, readable, counts_nothing, good_front, there, is_whole, good_back, good_form, has_ledger_room, has_rooms, early, unchanged, ended, went, step_call}
use Rattle.ledger.proofs.BookLaws.{Form, table_of_lem, of_form}
use Rattle.ledger.proofs.FaultLaws.{Ended, by_kind, Passed, passed}
use Rattle.ledger.proofs.GridLaws.{ended-state, stopped-ended, ended_other, ended-idle}
use Rattle.ledger.proofs.Lawful.{lawful}
use Rattle.ledger.proofs.MemoryLaws.{marks-below, flags-below}
use Rattle.ledger.proofs.ThereLaws.{ledgered, back_whole}
use Rattle.union.proofs.CallGiven.{given-table, given-readable, given-numbers, given-good, given-form, Lent, table-short, given_narrow, rooms_of_lem}
use Rattle.union.proofs.Called.{heard, heard_either, Leaves, acted, stopped_by, call_leaves, acted-form, acted-roomy, call_session}
use Rattle.union.proofs.HandedBack.{back, Roomy, memory_again, handed_back}
use Rattle.union.proofs.SentLaws.{Narrow, narrow_kept}

-- ---- state 1 is entered by a slice, and its counts are counts

-- (ledger's LastLaws has this for itself)
counts_of : (w : ℕ) (xs : List ℕ) → w ≤ 32 → Below w xs → all_counts (map pos xs) ≡ true
unfolding all_counts
counts_of w [] h b = refl
counts_of w (x ∷ xs) h b =
    and_holds (lt-ltb x (2 ^ 32) (lt_of_lt_of_le (b 0) (pow_mono {i = w} {j = 32} h))) (counts_of w xs h (λ i. b (suc i)))

-- the ranges of a slice, one by one
all-ranges : (size offset salt width : ℕ) → slice_good size offset salt width ≡ true
    → Ranges (slice_type size offset) size offset salt width (slice_bytes width (in_slice size offset))
all-ranges size offset salt width e =
    slice-ranges (slice_type size offset) size offset salt width (slice_bytes width (in_slice size offset))
    (and_holds (and_holds e (eq-eqb (slice_type size offset) (slice_type size offset) refl))
    (eq-eqb (slice_bytes width (in_slice size offset)) (slice_bytes width (in_slice size offset)) refl))

-- a slice that does not reach the end is the first 2,520 buckets
record First (size offset : ℕ) : Type 0 where
  start : offset ≡ 0
  many : in_slice size offset ≡ 2520

first_of : (size offset salt width : ℕ) → slice_good size offset salt width ≡ true → is_last size offset ≡ false → First size offset
first_of size offset salt width e part = go (eqb offset 0) refl
  where
    r : Ranges (slice_type size offset) size offset salt width (slice_bytes width (in_slice size offset))
    r = all-ranges size offset salt width e

    short : offset + in_slice size offset ≡ size → ⊥
    short q = clash (ap (λ (b : Bool). eqb (cond b IBF_LAST IBF) IBF_LAST) (eq-eqb (offset + in_slice size offset) size q)) part

    go : (b : Bool) → eqb offset 0 ≡ b → First size offset
    go true z = let z0 : offset ≡ 0 = eqb-true offset 0 z in record { start = z0; many = omega (arith, z0, short) }
    go false z =
        let far : offset ≡ 2520 = eqb-true offset 2520 (subst (λ (b : Bool). b || eqb offset 2520 ≡ true) z r.start) in
        absurd (short (omega (arith, far, r.below, r.high)))

abbrev Counted : Session → Type 0
Counted u = implies («in» u EXPECTING_LAST) (are_counts 2520 u.columns.counts) ≡ true

first_counted : (size offset salt width : ℕ) (ids hashes counts : List ℕ) (cs : List ℤ) → GoodSlice size offset salt width ids hashes counts
    → is_last size offset ≡ false → are_counts 2520 (over offset (map pos counts) cs) ≡ true
first_counted size offset salt width ids hashes counts cs g part =
    ap₂ (λ (n m : ℕ). all_counts (take n (over m (map pos counts) cs))) (sym (length-map counts pos ∙ g.n-counts ∙ f.many)) f.start
    ∙ ap all_counts (part-over 0 cs (map pos counts) (omega arith))
    ∙ counts_of width counts (all-ranges size offset salt width g.ranges).most g.counts-fit
  where
    f : First size offset
    f = first_of size offset salt width g.ranges part

module _ (derive : ℕ → ℕ) (t : List ℕ) (h : ℕ) (s : Session) where
  counted-slice : (c : Content) (size offset salt width : ℕ) (ids hashes counts : List ℕ) → c ≡ slice size offset salt width ids hashes counts → Good c
      → Counted (on_slice derive t s c size offset salt width).session
  unfolding on_slice sliced decoded swapped laid
  counted-slice c size offset salt width ids hashes counts q g =
      choose (λ (o : Outcome). Counted o.session) (is_last size offset)
      (λ whole. choose (λ (o : Outcome). Counted o.session) (is_complete (read_of derive t s c size salt)) (λ yes. refl) (λ no. refl))
      (λ part. subst (λ (d : Content). Good d → are_counts 2520 (laid d s.columns).counts ≡ true) (sym q)
      (λ gd. first_counted size offset salt width ids hashes counts s.columns.counts gd part) g)

  pub counted-act : (c : Content) → Form derive t s → Good c → admitted s c ≡ true → Passed (tests derive t h s c) → Counted (act derive t h s c).session
  unfolding act
  counted-act c f g ad fs =
      by_kind (λ (o : Outcome). Counted o.session) c _ _
      (λ size offset salt width ids hashes counts q. counted-slice c size offset salt width ids hashes counts q g)
      (λ k. let later : 2 ≤ (change derive t h s c).state = (lawful derive t h s c k f ad fs).later in
      ap (λ (b : Bool). implies b (are_counts 2520 s.columns.counts))
      (ne_eqb (change derive t h s c).state EXPECTING_LAST (λ e. absurd (omega (arith, later)))))

-- ---- rooms

-- what is written over a list leaves it at least as long
pub over_longer : {A : Type 0} (at : ℕ) (xs l : List A) → length l ≤ length (over at xs l)
unfolding over
over_longer at xs l = simp (length-append, length-take, length-drop) (omega arith)

longer : {A : Type 0} (n : ℕ) (l m : List A) → length l ≤ length m → leb n (length l) ≡ true → leb n (length m) ≡ true
longer n l m h e = le-leb n (length m) (omega (arith, leb-true n (length l) e))

over-room : (n at place : ℕ) (xs ys l : List ℕ) → leb n (length l) ≡ true → leb n (length (over at xs (over place ys l))) ≡ true
over-room n at place xs ys l e =
    longer n (over place ys l) (over at xs (over place ys l)) (over_longer at xs (over place ys l)) (longer n l (over place ys l) (over_longer place ys l) e)

-- ---- a message that is acted on leaves a good form

module _ (derive : ℕ → ℕ) (n : ℕ) (o : Outcome) (G : Given) (hash bs out : List ℕ) (w : Roomy G o.session) (table : is_table derive G.table ≡ true)
    (room : has_ledger_room G ≡ true) (form : Form derive (table_of G) o.session) (counted : Counted o.session) where
  abbrev u : Session
  u = o.session

  abbrev again : Given
  again = back G (went derive n o G) hash bs out

  is : session_of derive again ≡ u
  is = handed_back derive n o G hash bs out w form.books

  -- what is tested of a session, tested of what is handed back
  moved : (P : Session → Bool) → P u ≡ true → P (session_of derive again) ≡ true
  moved P e = ap P is ∙ e

  bit-few : (b : Bool) → leb (bit b) 1 ≡ true
  bit-few true = refl
  bit-few false = refl

  can_read : readable again.numbers ≡ true
  unfolding readable went numbers_of
  can_read =
      and_holds (bit-few u.first)
      (and_holds (bit-few u.ledger.done_went)
      (and_holds (le-leb (length u.ledger.demanded) 4096 w.demanded) (le-leb (length u.ledger.inquired) 4096 w.inquired)))

  none-counted : implies (idle u) (counts_nothing (numbers_of u)) ≡ true
  unfolding numbers_of counts_nothing
  none-counted =
      of_implies (idle u) _
      (λ k. ap (λ (L : Ledger). eqb (length L.demanded) 0 && (eqb (length L.inquired) 0 && eqb (bit L.done_went) 0)) (form.empty k))

  front-again : good_front derive again ≡ true
  unfolding good_front went
  front-again =
      let k = of_form derive (table_of G) u (table_of_lem derive G.table table).asc form in
      and_holds table
      (and_holds can_read
      (and_holds (moved good_numbers k.0)
      (and_holds (moved (λ (v : Session). implies (idle v) (counts_nothing (numbers_of u))) none-counted)
      (moved (λ (v : Session). implies («in» v EXPECTING_LAST) (are_counts 2520 u.columns.counts)) counted))))

  room-again : has_ledger_room again ≡ true
  unfolding has_ledger_room went
  room-again =
      let r1 = and_r (leb 262208 (length G.records)) _ room in
      and_holds (over-room 262208 262144 0 _ _ G.records (and_l (leb 262208 (length G.records)) _ room))
      (and_holds (over-room 8192 4096 0 _ _ G.marks (and_l (leb 8192 (length G.marks)) _ r1))
      (longer 4096 G.inquired (over 0 u.ledger.inquired G.inquired) (over_longer 0 u.ledger.inquired G.inquired)
      (and_r (leb 8192 (length G.marks)) _ r1)))

  back-again : good_back derive again ≡ true
  unfolding encode
  back-again =
      let memory = memory_again derive n o G hash bs out w in
      let k = of_form derive (table_of G) u (table_of_lem derive G.table table).asc form in
      back_whole again (ledgered again room-again can_read) derive
      ∙ and_holds (ap (λ (m : Memory). all_below 8 m.marks) memory ∙ marks-below derive (table_of G) u.ledger)
      (and_holds (ap (λ (m : Memory). all_below 16 m.flags) memory ∙ flags-below derive (table_of G) u.ledger)
      (moved (good_ledger derive (table_of G)) k.1))

  went-good : good_form derive again ≡ true
  unfolding good_form
  went-good = and_holds front-again back-again

-- ---- a refusal leaves a good form

module _ (derive : ℕ → ℕ) (n : ℕ) (G : Given) (u : Session) (form : good_form derive G ≡ true) (e : Ended (session_of derive G) u) (hash bs out : List ℕ) where
  abbrev over_now : Given
  over_now = back G (ended n u G) hash bs out

  late : is_ended u.state ≡ true
  late = ap is_ended e.state ∙ stopped-ended (session_of derive G).state

  none-asked : (v : Session) (b : Bool) → v.state ≡ u.state → implies (idle v) b ≡ true
  none-asked v b q = ap (λ (x : Bool). implies x b) (ended-idle v (ap is_ended q ∙ late))

  other : (k : ℕ) (b : Bool) → is_ended k ≡ false → implies (eqb u.state k) b ≡ true
  other k b n = ap (λ (x : Bool). implies x b) (ended_other u.state k late n)

  ended-front : good_front derive over_now ≡ true
  unfolding good_front good_numbers session_of counts_nothing readable
  ended-front =
      and_holds (given-table derive G form)
      (and_holds (given-readable derive G form)
      (and_holds (and_holds (ended-state u.state late) (and_r (is_state G.numbers.state) _ (given-numbers derive G form)))
      (and_holds (none-asked (session_of derive over_now) (counts_nothing G.numbers) refl)
      (other EXPECTING_LAST (are_counts 2520 u.columns.counts) refl))))

  ended-good : good_form derive over_now ≡ true
  unfolding good_form good_back good_part good_whole session_of memory_of is_whole
  ended-good =
      let b = and_r (good_front derive G) _ form in
      let b1 = and_r (all_below 8 (memory_of (there G)).marks) _ b in
      let b2 = and_r (all_below 16 (memory_of (there G)).flags) _ b1 in
      let b3 = and_l (good_part derive (table_of G) (session_of derive (there G))) _ b2 in
      and_holds ended-front
      (and_holds (and_l (all_below 8 (memory_of (there G)).marks) _ b)
      (and_holds (and_l (all_below 16 (memory_of (there G)).flags) _ b1)
      (and_holds
      (and_holds (and_l (good_books derive (table_of G) (session_of derive (there G)).ledger) _ b3) (none-asked (session_of derive (there over_now)) _ refl))
      (of_implies (is_whole over_now) _ (λ k. other ACTIVE _ refl)))))

-- ---- every call

module _ (derive : ℕ → ℕ) (bound : (h : ℕ) → h < 2 ^ 512 → derive h < 2 ^ 64) (G : Given) (form : good_form derive G ≡ true)
    (lent : Lent G) where
  abbrev s : Session
  s = session_of derive G

  -- a call that has not its rooms changes nothing
  short_of : has_rooms G ≡ false → step_call derive G ≡ unchanged 2 G.numbers.state G
  unfolding step_call early
  short_of e = rw (form, e)

  unchanged-good : (hash bs out : List ℕ) → good_form derive (back G (unchanged 2 G.numbers.state G) hash bs out) ≡ true
  unfolding good_form good_front good_back session_of memory_of is_whole
  unchanged-good hash bs out = form

  -- with its rooms a call leaves the session after what is heard
  module _ (rooms : has_rooms G ≡ true) where
    abbrev table-form : Form derive (table_of G) s
    table-form = given-form derive G form (rooms_of_lem G rooms).ledger

    heard_narrow : Narrow (heard derive G).session
    heard_narrow =
        let n : Narrow s = given_narrow derive G lent in
        heard_either derive G lent.message (λ (o : Outcome). Narrow o.session)
        (λ c g. narrow_kept derive bound (table_of G) (given-good derive G form) (table-short G) (hash_given G) s c table-form n g)
        (record { columns = n.columns; demanded = n.demanded })

    leaves-good : (hash bs out : List ℕ) (l : Left) (o : Outcome) → Leaves derive G l o → good_form derive (back G l hash bs out) ≡ true
    leaves-good hash bs out l o (acted c g e is made) =
        let p = passed derive (table_of G) (hash_given G) s c e in
        subst (λ (k : Left). good_form derive (back G k hash bs out) ≡ true) (sym is)
        (subst (λ (q : Outcome). good_form derive (back G (went derive (refusal derive (table_of G) (hash_given G) s c) q G) hash bs out) ≡ true) (sym made)
        (went-good derive (refusal derive (table_of G) (hash_given G) s c) (act derive (table_of G) (hash_given G) s c) G hash bs out
        (acted-roomy derive bound G form rooms lent c g e) (given-table derive G form) (rooms_of_lem G rooms).ledger
        (acted-form derive bound G form rooms lent c g e) (counted-act derive (table_of G) (hash_given G) s c table-form g p.0 p.1)))
    leaves-good hash bs out l o (stopped_by n u e is made) =
        subst (λ (k : Left). good_form derive (back G k hash bs out) ≡ true) (sym is) (ended-good derive n G u form e hash bs out)

  pub form_call : (hash bs out : List ℕ) → good_form derive (back G (step_call derive G) hash bs out) ≡ true
  form_call hash bs out = go (has_rooms G) refl
    where
      go : (b : Bool) → has_rooms G ≡ b → good_form derive (back G (step_call derive G) hash bs out) ≡ true
      go true e = leaves-good e hash bs out (step_call derive G) (heard derive G) (call_leaves derive G form e lent.message)
      go false e = subst (λ (k : Left). good_form derive (back G k hash bs out) ≡ true) (sym (short_of e)) (unchanged-good hash bs out)

  pub ids_call : Below 64 (step_call derive G).columns.idsums
  unfolding session_of
  ids_call = go (has_rooms G) refl
    where
      go : (b : Bool) → has_rooms G ≡ b → Below 64 (step_call derive G).columns.idsums
      go true e = subst (λ (u : Session). Below 64 u.columns.idsums) (sym (call_session derive bound G form e lent [] [] [])) (heard_narrow e).columns
      go false e = subst (λ (k : Left). Below 64 k.columns.idsums) (sym (short_of e)) lent.ids
