-- What the two messages of slices may count on where a step is sound: what is read is good and reaches the end or not, and the last slice is
-- read. Assumes nothing.
use mathlib.Core.Path.{◌≡◌, refl, sym, ap, ◌∙◌}
use mathlib.Core.Bool.{Bool, true, false, ◌&&◌, cond}
use mathlib.Core.List.{List}
use Prim.Native.Nat.{ℕ, ◌+◌, ◌*◌}
use native.Mathlib.Omega.{arith}
use lib.Dec.{eqb, leb}
use lib.ListN.{length}
use borrow.Author.Tests.{leb-true, le-leb, lt-ltb, eq-eqb, ne_eqb}
use Rattle.std.proofs.Common.{Some}
use Rattle.bucket.specs.Digits.{unpacked}
use Rattle.bucket.specs.Lists.{part}
use Rattle.bucket.specs.Packing.{counters_at}
use Rattle.bucket.proofs.TestLaws.{and_holds}
use Rattle.std.specs.Prelude.{None}
use Rattle.filter.specs.Calls.{in_range, are_counts, has_room, read_refusal}
use Rattle.filter.specs.Sets.{implies}
use Rattle.filter.specs.Table.{first_eight, is_table}
use Rattle.message.specs.declared.kinds.Message.{Message}
use Rattle.message.specs.declared.kinds.Message.TheVariants.{Ibf, IbfLast}
use Rattle.message.specs.declared.kinds.Slice.{Slice}
use Rattle.message.specs.Laying.{laid, is_slice}
use Rattle.message.specs.Layout.{IBF, IBF_LAST, in_slice}
use Rattle.message.specs.Reading.{content}
use Rattle.message.specs.Walking.{exactly_one}
use Rattle.message.proofs.ShapeLaws.{Sliced, shape, last_reaches, other_stops}
use Rattle.message.proofs.SoundLaws.{read-good}
use Rattle.ledger.specs.Grid.{EXPECTING_LAST, is_last}
use Rattle.ledger.specs.Session.{placed}
use Rattle.ledger.specs.Form.{good_numbers, idle}
use Rattle.ledger.specs.Calls.{Given, session_of, readable, counts_nothing, good_front, good_form, has_ledger_room, has_rooms}
use Rattle.form.specs.Answers.{is_placed}
use Rattle.session.specs.Ready.{Lays, Reads}
use Rattle.filter.proofs.SetLaws.{and_l, and_r}
use Rattle.filter.proofs.ListLaws.{implies_of}
use Rattle.ledger.proofs.FaultLaws.{Ranges, ranges}
use Rattle.ledger.proofs.LastLaws.{last_granted}
use Rattle.ledger.proofs.Sound.{Sound}
use Rattle.ledger.proofs.GivenLaws.{given-table, given-rooms}

-- ---- messages

is_last_lem : (b : Bool) → b ≡ true → eqb (cond b IBF_LAST IBF) IBF_LAST ≡ true
is_last_lem b e = rw e

not_last : (b : Bool) → b ≡ false → eqb (cond b IBF_LAST IBF) IBF_LAST ≡ false
not_last b e = rw e

-- the slice that reaches the end
module _ (bs : List ℕ) (t : Slice) where
  pub last_is_last : exactly_one bs ≡ Some (IbfLast t) → is_last t.size t.offset ≡ true
  last_is_last e =
      let h : Sliced bs IBF_LAST t = shape bs e in
      is_last_lem (eqb (t.offset + in_slice t.size t.offset) t.size)
      (eq-eqb (t.offset + in_slice t.size t.offset) t.size (ap (λ (k : ℕ). t.offset + k) (sym h.number) ∙ last_reaches h))

  pub other_not_last : exactly_one bs ≡ Some (Ibf t) → is_last t.size t.offset ≡ false
  other_not_last e =
      let h : Sliced bs IBF t = shape bs e in
      not_last (eqb (t.offset + in_slice t.size t.offset) t.size)
      (ne_eqb (t.offset + in_slice t.size t.offset) t.size (λ k. absurd (omega (arith, h.number, other_stops h))))

  pub last_range : exactly_one bs ≡ Some (IbfLast t) → in_range t.size t.salt ≡ true
  unfolding in_range
  last_range e =
      let h : Sliced bs IBF_LAST t = shape bs e in
      let r : Ranges t.size t.salt = ranges t.size t.offset t.salt t.width h.good in
      and_holds (le-leb 37 t.size r.low) (and_holds (le-leb t.size 4096 r.high) (lt-ltb t.salt 64 r.small))

-- ---- what a sound step is given

module _ (G : Given) (s : Sound G) where
  -- in state 1 the columns were judged
  pub given-counts : eqb G.numbers.state EXPECTING_LAST ≡ true → are_counts 2520 G.columns.counts ≡ true
  unfolding good_form good_front session_of
  given-counts e =
      implies_of (eqb G.numbers.state EXPECTING_LAST) (are_counts 2520 G.columns.counts)
      (and_r (implies (idle (session_of first_eight G)) (counts_nothing G.numbers)) _
      (and_r (good_numbers (session_of first_eight G)) _
      (and_r (readable G.numbers) _ (and_r (is_table first_eight G.table) _ (and_l (good_front first_eight G) _ s.form))))) e

  other_rooms : has_room 4096 G.columns
      && (leb 4096 (length G.ours) && (leb 4096 (length G.theirs) && (leb 64 (length G.hash) && leb 295008 (length G.out)))) ≡ true
  unfolding has_rooms
  other_rooms = and_r (has_ledger_room G) _ s.rooms

  pub columns-room : has_room 4096 G.columns ≡ true
  columns-room = and_l (has_room 4096 G.columns) _ other_rooms

  pub ours-room : leb 4096 (length G.ours) ≡ true
  ours-room = and_l (leb 4096 (length G.ours)) _ (and_r (has_room 4096 G.columns) _ other_rooms)

  pub theirs-room : leb 4096 (length G.theirs) ≡ true
  theirs-room = and_l (leb 4096 (length G.theirs)) _ (and_r (leb 4096 (length G.ours)) _ (and_r (has_room 4096 G.columns) _ other_rooms))

  -- ---- slices

  pub slice-lays : (m : Message) → exactly_one G.message ≡ Some m → is_slice m ≡ true → Lays G.message m G.columns
  slice-lays m e k = record { read = e; slice = k; room = columns-room }

  -- the last one is read
  module _ (t : Slice) (e : exactly_one G.message ≡ Some (IbfLast t)) where
    last_reads : is_placed G.numbers t.size t.offset t.salt t.width ≡ true
        → read_refusal first_eight t.size t.salt G.table (laid (content (IbfLast t) G.message) G.columns) G.ours G.theirs ≡ None
    unfolding content placed is_placed session_of
    last_reads k =
        let n = t.count in
        last_granted first_eight G.table (session_of first_eight G) t.size t.offset t.salt t.width
        (unpacked 64 n (part 16 (8 * n) G.message)) (unpacked 32 n (part (16 + 8 * n) (4 * n) G.message)) (counters_at t.width n (16 + 12 * n) G.message)
        (given-table G s) (read-good G.message s.message-bytes e)
        (last_is_last G.message t e) k given-counts columns-room ours-room theirs-room

    pub last_ready : Reads G.numbers G.table G.message t G.columns G.ours G.theirs G.marks G.inquired G.out
    last_ready = record {
      lays = slice-lays (IbfLast t) e refl;
      table-good = given-table G s;
      range = last_range G.message t e;
      granted = last_reads;
      ours-room = leb-true 4096 (length G.ours) ours-room;
      theirs-room = leb-true 4096 (length G.theirs) theirs-room;
      marks-room = (given-rooms G s).1;
      inquired-room = (given-rooms G s).2;
      out-room = (given-rooms G s).3;
    }
