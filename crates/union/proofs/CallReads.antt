-- Demand 3 of a session's call, with no premise but what the call tests itself and that the slice is in order: "in a session, the reading as it stands
-- before refusal 9 or 10 clears its lists".
--
--   call_reads     the reading is filter's
--   call_trusted   a complete one says what the received filter was made from
--   call_exact     a filter made by the rules is read exactly, where no bucket shared by several looks pure
--
-- Assumes nothing.
use mathlib.Core.Path.{◌≡◌, sym, ◌∙◌}
use mathlib.Core.Bool.{true}
use mathlib.Core.List.{List}
use Prim.Native.Nat.{ℕ, ◌+◌, ◌*◌, ◌^◌, ◌<◌}
use borrow.Author.Tests.{eq-eqb}
use Rattle.std.proofs.Common.{Some}
use Rattle.bucket.specs.Columns.{Columns, view}
use Rattle.bucket.specs.Digits.{bytes_for, unpacked}
use Rattle.bucket.specs.Lists.{elem, part, Distinct}
use Rattle.bucket.specs.Packing.{counters_at}
use Rattle.bucket.proofs.DigitLaws.{groups-below}
use Rattle.bucket.proofs.PackedLaws.{unpacked-length}
use Rattle.filter.specs.Calls.{Read, read_call}
use Rattle.filter.specs.Filter.{filter_rule, filter_of}
use Rattle.filter.specs.Stopping.{differing, Clear, Exactly}
use Rattle.message.specs.declared.kinds.Message.TheVariants.{IbfLast}
use Rattle.message.specs.declared.kinds.Slice.{Slice}
use Rattle.message.specs.Layout.{IBF_LAST, GoodSlice, slice_type}
use Rattle.message.specs.Laying.{laid}
use Rattle.message.specs.Reading.{content}
use Rattle.message.specs.Walking.{exactly_one}
use Rattle.message.proofs.ShapeLaws.{Sliced, shape}
use Rattle.ledger.specs.Session.{Session, placed, is_complete, ours_in, theirs_in, ids_of, read_of}
use Rattle.ledger.specs.Calls.{Given, table_of, session_of, good_form, has_rooms}
use Rattle.ledger.proofs.LastLaws.{last_granted}
use Rattle.ledger.proofs.Theorems.{Granted, Trusted, reading_is_filters, session_trusted, session_exact}
use Rattle.union.proofs.CallGiven.{given-table, given-counts, Rooms, rooms_of_lem}
use Rattle.union.proofs.Called.{said_in}

-- the slice that is read from bytes is in its ranges, whatever the bytes are
read-slice : (bs : List ℕ) (t : Slice) → Sliced bs IBF_LAST t → let n = t.count in
    GoodSlice t.size t.offset t.salt t.width
    (unpacked 64 n (part 16 (8 * n) bs)) (unpacked 32 n (part (16 + 8 * n) (4 * n) bs)) (counters_at t.width n (16 + 12 * n) bs)
unfolding unpacked
read-slice bs t h = let n = t.count in
    record {
      ranges = h.good;
      n-ids = unpacked-length 64 n (part 16 (8 * n) bs) ∙ h.number;
      n-hashes = unpacked-length 32 n (part (16 + 8 * n) (4 * n) bs) ∙ h.number;
      n-counts = unpacked-length t.width n (part (16 + 12 * n) (bytes_for (t.width * n)) bs) ∙ h.number;
      ids-fit = groups-below 64 n _;
      hashes-fit = groups-below 32 n _;
      counts-fit = groups-below t.width n _;
    }

module _ (derive : ℕ → ℕ) (G : Given) (form : good_form derive G ≡ true) (rooms : has_rooms G ≡ true)
    (t : Slice) (e : exactly_one G.message ≡ Some (IbfLast t))
    (order : placed (session_of derive G) t.size t.offset t.salt t.width ≡ true) where
  abbrev s : Session
  s = session_of derive G

  -- the received filter
  abbrev pub received : Columns
  received = laid (said_in (IbfLast t) G) G.columns

  -- its reading, before a refusal clears it
  abbrev pub read_in : Read
  read_in = read_of derive (table_of G) s (said_in (IbfLast t) G) t.size t.salt

  granted : Granted derive G.table s (said_in (IbfLast t) G) t.size t.salt
  unfolding content session_of
  granted =
      let n = t.count in
      let k : Rooms G = rooms_of_lem G rooms in
      let h : Sliced G.message IBF_LAST t = shape G.message e in
      last_granted derive G.table s t.size t.offset t.salt t.width
      (unpacked 64 n (part 16 (8 * n) G.message)) (unpacked 32 n (part (16 + 8 * n) (4 * n) G.message)) (counters_at t.width n (16 + 12 * n) G.message)
      (given-table derive G form) (read-slice G.message t h)
      (eq-eqb (slice_type t.size t.offset) IBF_LAST (sym h.fit.kind)) order (given-counts derive G form) k.columns k.ours k.theirs

  pub call_reads : read_in ≡ read_call derive t.size t.salt G.table received G.ours G.theirs
  unfolding session_of
  call_reads = reading_is_filters derive G.table s (said_in (IbfLast t) G) t.size t.salt granted

  pub call_trusted : is_complete read_in ≡ true → Trusted derive G.table s (said_in (IbfLast t) G) t.size t.salt read_in
  call_trusted = session_trusted derive G.table s (said_in (IbfLast t) G) t.size t.salt granted

  pub call_exact : ((h : ℕ) → h < 2 ^ 512 → derive h < 2 ^ 64) → (far : List ℕ) → Distinct far → ((a : ℕ) → elem a far ≡ true → a < 2 ^ 64)
      → ((i : ℕ) → i < t.size → view received i ≡ filter_of (filter_rule t.size t.salt) far i)
      → Clear (filter_rule t.size t.salt) (differing (ids_of derive (table_of G)) far)
      → (read_in.answer.refusal ≡ 0) × Exactly (filter_rule t.size t.salt) (ids_of derive (table_of G)) far (ours_in read_in) (theirs_in read_in) (is_complete read_in)
  unfolding session_of
  call_exact bound far once small made clear = session_exact derive G.table s (said_in (IbfLast t) G) t.size t.salt bound granted far once small made clear
