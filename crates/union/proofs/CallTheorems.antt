-- What a reader looks for in the calls of a session, to be cited without knowing how a step is defined. Everything is over any derivation of IDs that
-- keeps to 64 bits; document 01's does (filter's first_eight_below).
--
--   good_form, has_rooms   refusal 1's test and refusal 2's (ledger's Calls)
--   Lent G               what C gives for free of what is lent: bytes, and words of 64 bits (CallGiven)
--   heard G              what the definition does with the bytes that a call is given as message (Called)
--   back G l ..          what a caller gives to the next call: the same table, what the last one left, and a message, hash and buffer of its own (HandedBack)
--   begun_by a G          what it gives to the first one: what the start left, and for the rest anything (Starts)
--   Calls G              G is given to a call of a sequence that began with a start (Sequences)
--   Sends                what the outgoing buffer holds after a call (CallSends)
--
-- Assumes nothing.
use mathlib.Core.Path.{◌≡◌, refl, ap}
use mathlib.Core.Logic.{◌≢◌}
use mathlib.Core.Bool.{Bool, true, false, cond}
use mathlib.Core.List.{List, []}
use Prim.Native.Nat.{ℕ, ◌^◌, ◌<◌}
use Rattle.std.proofs.Common.{Option, Some, None}
use Rattle.bucket.specs.Columns.{view}
use Rattle.bucket.specs.Lists.{elem, Distinct}
use Rattle.filter.specs.Calls.{read_call}
use Rattle.filter.specs.Filter.{filter_rule, filter_of}
use Rattle.filter.specs.Stopping.{differing, Clear, Exactly}
use Rattle.filter.specs.Table.{hashes_of}
use Rattle.filter.proofs.SetLaws.{clash}
use Rattle.message.specs.declared.kinds.Message.{Message}
use Rattle.message.specs.declared.kinds.Message.TheVariants.{IbfLast}
use Rattle.message.specs.declared.kinds.Slice.{Slice}
use Rattle.message.specs.Layout.{Content, Good, layout}
use Rattle.message.specs.Laying.{laid}
use Rattle.message.specs.Walking.{exactly_one}
use Rattle.ledger.specs.Grid.{is_state, is_ended}
use Rattle.ledger.specs.Session.{answer, placed, is_complete, ours_in, theirs_in, own_filter, ids_of, read_of, halted, step}
use Rattle.ledger.specs.Calls.{Given, good_form, has_rooms, early, table_of, hash_given, session_of, unchanged, step_call, start_receiver, start_sender}
use Rattle.ledger.proofs.Theorems.{Trusted}
use Rattle.union.proofs.CallGiven.{Lent, given-state}
use Rattle.union.proofs.CallKept.{form_call}
use Rattle.union.proofs.CallReads as Reads
use Rattle.union.proofs.CallSends.{Sends, call_sends, start-sends}
use Rattle.union.proofs.Called.{said_in, heard_of, heard, number_of, heard-layout, call_number, call_session}
use Rattle.union.proofs.HandedBack.{back}
use Rattle.union.proofs.Sequences.{Calls, calls_refusal}
use Rattle.union.proofs.Starts.{begun_by, receiver-begins, sender-begins}

-- ---- a call is the definition's step

module _ (derive : ℕ → ℕ) (G : Given) where
  -- of bytes that are exactly one message its step is heard
  pub message-heard : {m : Message} → exactly_one G.message ≡ Some m → heard derive G ≡ step derive (table_of G) (hash_given G) (session_of derive G) (said_in m G)
  unfolding heard
  message-heard e = ap (λ (r : Option Message). heard_of derive r G) e

  -- of any other bytes nothing is, and the session is aborted
  pub other_heard : exactly_one G.message ≡ None → heard derive G ≡ answer (halted derive (table_of G) (session_of derive G)) []
  unfolding heard
  other_heard e = ap (λ (r : Option Message). heard_of derive r G) e

  -- of the bytes of a message in range the step of that message is heard
  pub written-heard : (c : Content) → Good c → G.message ≡ layout c → heard derive G ≡ step derive (table_of G) (hash_given G) (session_of derive G) c
  written-heard = heard-layout derive G

  -- a call answers 5 where the session has ended, 4 where the bytes are no message, and else the definition's number
  pub call_refusal : good_form derive G ≡ true → has_rooms G ≡ true
      → (step_call derive G).answer.refusal ≡ cond (is_ended G.numbers.state) 5 (number_of derive (exactly_one G.message) G)
  call_refusal = call_number derive G

  -- a number that is no state's, as 4 or 8, is refused with 1, and everything is as it was, the number too
  pub no_state-refused : is_state G.numbers.state ≡ false → step_call derive G ≡ unchanged 1 G.numbers.state G
  unfolding step_call early session_of
  no_state-refused e = go (good_form derive G) refl
    where
      go : (b : Bool) → good_form derive G ≡ b → step_call derive G ≡ unchanged 1 G.numbers.state G
      go true form = absurd (clash (given-state derive G form) e)
      go false form = rw form

module _ (derive : ℕ → ℕ) (bound : (h : ℕ) → h < 2 ^ 512 → derive h < 2 ^ 64) where
  -- what a call leaves, handed back, is read as exactly the session after what is heard, whether the message is acted on or refused
  pub call_handed_back : (G : Given) → good_form derive G ≡ true → has_rooms G ≡ true → Lent G → (hash message out : List ℕ)
      → session_of derive (back G (step_call derive G) hash message out) ≡ (heard derive G).session
  call_handed_back = call_session derive bound

  -- ---- a good form is kept

  -- what a start of either kind leaves is in form, whatever stands in the memory that it does not write
  pub receiver-form : (G : Given) → (start_receiver derive G.table G.marks).answer.refusal ≡ 0
      → good_form derive (begun_by (start_receiver derive G.table G.marks) G) ≡ true
  receiver-form = receiver-begins derive

  pub sender-form : (G : Given) (size salt : ℕ) (out : List ℕ) → (start_sender derive size salt G.table G.marks out).answer.refusal ≡ 0
      → good_form derive (begun_by (start_sender derive size salt G.table G.marks out) G) ≡ true
  sender-form = sender-begins derive

  -- what a call on a good form leaves is in form, for any bytes as message, with its rooms or without
  pub call_form : (G : Given) → good_form derive G ≡ true → Lent G → (hash message out : List ℕ)
      → good_form derive (back G (step_call derive G) hash message out) ≡ true
  call_form = form_call derive bound

  -- over any sequence of calls from a start, with any bytes as messages, no call is refused with 1
  pub never_form : {G : Given} → Calls derive G → (step_call derive G).answer.refusal ≢ 1
  never_form = calls_refusal derive bound

  -- ---- what is sent

  -- What a call sends, and the hashes of the elements due behind it, fit the outgoing buffer: the first `sent` bytes are walked as exactly the messages that
  -- the definition sends, then come the `due` hashes, and the rest of the buffer is as it was. Either no message is sent or no hash is due.
  pub call_sent : (G : Given) → good_form derive G ≡ true → has_rooms G ≡ true → Lent G
      → let l = step_call derive G in Sends l.answer.sent l.answer.due G.out l.out (heard derive G).sent (heard derive G).due
  call_sent = call_sends derive bound

  -- so it is of the filter that the start of its sender writes
  pub start-sent : (size salt : ℕ) (table marks out : List ℕ) → let a = start_sender derive size salt table marks out in a.answer.refusal ≡ 0
      → Sends a.answer.sent a.answer.due out a.out (own_filter (ids_of derive (hashes_of table)) size salt) []
  start-sent = start-sends derive bound

-- ---- demand 3: "in a session, the reading as it stands before refusal 9 or 10 clears its lists"

-- an IBF LAST that is in order, given to a call with a good form and its rooms
module _ (derive : ℕ → ℕ) (G : Given) (form : good_form derive G ≡ true) (rooms : has_rooms G ≡ true)
    (t : Slice) (e : exactly_one G.message ≡ Some (IbfLast t))
    (order : placed (session_of derive G) t.size t.offset t.salt t.width ≡ true) where
  -- it is read as filter's call reads the columns with the slice laid into them
  pub call_reads : read_of derive (table_of G) (session_of derive G) (said_in (IbfLast t) G) t.size t.salt
      ≡ read_call derive t.size t.salt G.table (laid (said_in (IbfLast t) G) G.columns) G.ours G.theirs
  call_reads = Reads.call_reads derive G form rooms t e order

  -- a complete reading is trusted: the received filter is that of our IDs less those listed as ours, which are of them, plus those listed as theirs, and
  -- what it is made from is a set
  pub call_trusted : let r = read_of derive (table_of G) (session_of derive G) (said_in (IbfLast t) G) t.size t.salt in
      is_complete r ≡ true → Trusted derive G.table (session_of derive G) (said_in (IbfLast t) G) t.size t.salt r
  call_trusted = Reads.call_trusted derive G form rooms t e order

  -- a filter made by the rules from IDs of the far end is read exactly, where in no part of the difference a bucket shared by several looks pure: the true
  -- difference less its largest stopping set, complete exactly if there is none
  pub call_exact : ((h : ℕ) → h < 2 ^ 512 → derive h < 2 ^ 64) → (far : List ℕ) → Distinct far → ((a : ℕ) → elem a far ≡ true → a < 2 ^ 64)
      → ((i : ℕ) → i < t.size → view (laid (said_in (IbfLast t) G) G.columns) i ≡ filter_of (filter_rule t.size t.salt) far i)
      → Clear (filter_rule t.size t.salt) (differing (ids_of derive (table_of G)) far)
      → let r = read_of derive (table_of G) (session_of derive G) (said_in (IbfLast t) G) t.size t.salt in
      (r.answer.refusal ≡ 0) × Exactly (filter_rule t.size t.salt) (ids_of derive (table_of G)) far (ours_in r) (theirs_in r) (is_complete r)
  call_exact = Reads.call_exact derive G form rooms t e order
