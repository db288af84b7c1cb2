-- The calls of this layer: what they answer, and what every lent slice holds after them.
--
--   Given               what a step is given: the session's numbers and every lent slice
--   session_of G         the session that they say
--   good_form G          refusal 1's test
--   has_rooms G          refusal 2's
--   step_call G          a step: the answer, and every slice after it
--   start_receiver ..    the start of the receiver of a filter, and of its sender
--
-- The memory of a session. `records`: 4,096 hashes of 64 bytes, those demanded at its start, ascending; behind all of them, from 262,144 on, the
-- 64 bytes of the far checksum. `marks`: a mark for each element of the table, and from 4,096 on one for each hash demanded. `inquired`: IDs,
-- ascending. Places behind what the numbers count are neither judged nor changed.
-- Assumes nothing.
use Rattle.std.specs.Prelude.{Bool, not, ◌&&◌, cond, List, [], ◌∷◌, ◌++◌, ℕ, ◌-◌, ◌*◌, ◌/◌, min, eqb, leb, length, take, replicate, Option, Some, None}
use Rattle.bucket.specs.Columns.{Columns}
use Rattle.bucket.specs.Digits.{joined, packed}
use Rattle.bucket.specs.Lists.{over, part}
use Rattle.filter.specs.declared.answers.Refusal.{Refusal}
use Rattle.filter.specs.declared.answers.Refusal.TheVariants.{Form, Room, Range, OutOfTurn, Malformed}
use Rattle.filter.specs.Answers.{refusal_number, number_of, first_of}
use Rattle.filter.specs.Calls.{in_range, are_counts, has_room}
use Rattle.filter.specs.Table.{hashes_of, is_table}
use Rattle.message.specs.declared.kinds.Message.{Message}
use Rattle.message.specs.Layout.{Content}
use Rattle.message.specs.Reading.{content}
use Rattle.message.specs.Walking.{exactly_one}
use Rattle.message.specs.Writing.{layouts}
use Rattle.ledger.specs.declared.numbers.Numbers.{Numbers}
use Rattle.ledger.specs.declared.numbers.Answer.{Answer}
use Rattle.filter.specs.Sets.{implies}
use Rattle.ledger.specs.Grid.{EXPECTING, EXPECTING_LAST, PASSIVE, ABORTED, is_ended}
use Rattle.ledger.specs.Session.{Session, Outcome, «in», acts, ids_of, own_filter, refusal, act, refused}
use Rattle.ledger.specs.Form.{good_numbers, idle, good_part, good_whole}
use Rattle.ledger.specs.Memory.{bit, Memory, all_below, decode, marks_of, flags_of}

pub record Given : Type 0 where
  pub numbers : Numbers
  pub table : List ℕ
  pub records : List ℕ
  pub marks : List ℕ
  pub inquired : List ℕ
  pub columns : Columns
  pub ours : List ℕ
  pub theirs : List ℕ
  pub hash : List ℕ  -- of an ELEMENT, worked out by the caller
  pub message : List ℕ
  pub out : List ℕ

-- what a step answers and leaves
pub record Left : Type 0 where
  pub answer : Answer
  pub records : List ℕ
  pub marks : List ℕ
  pub inquired : List ℕ
  pub columns : Columns
  pub ours : List ℕ
  pub theirs : List ℕ
  pub out : List ℕ

abbrev pub given : Numbers → List ℕ → List ℕ → List ℕ → List ℕ → Columns → List ℕ → List ℕ → List ℕ → List ℕ → List ℕ → Given
given N table records marks inquired columns ours theirs hash message out =
    record {
      numbers = N;
      table = table;
      records = records;
      marks = marks;
      inquired = inquired;
      columns = columns;
      ours = ours;
      theirs = theirs;
      hash = hash;
      message = message;
      out = out;
    }

abbrev pub left : Answer → List ℕ → List ℕ → List ℕ → Columns → List ℕ → List ℕ → List ℕ → Left
left a records marks inquired columns ours theirs out =
    record { answer = a; records = records; marks = marks; inquired = inquired; columns = columns; ours = ours; theirs = theirs; out = out }

abbrev pub numbered : (state first size salt width swaps done demanded inquired : ℕ) → Numbers
numbered state first size salt width swaps done demanded inquired =
    record { state = state; first = first; size = size; salt = salt; width = width; swaps = swaps; done = done; demanded = demanded; inquired = inquired }

abbrev pub answered : ℕ → ℕ → ℕ → Numbers → Answer
answered refusal sent due next = record { refusal = refusal; sent = sent; due = due; next = next }

abbrev pub in_state : ℕ → Numbers → Numbers
in_state q N = numbered q N.first N.size N.salt N.width N.swaps N.done N.demanded N.inquired

-- the numbers of a session
unfoldable pub numbers_of : Session → Numbers
numbers_of s =
    numbered s.state (bit s.first) s.size s.salt s.width s.swaps (bit s.ledger.done_went)
    (length s.ledger.demanded) (length s.ledger.inquired)

-- ---- what is given, read

unfoldable pub memory_of : Given → Memory
memory_of G =
    record {
      records = hashes_of (take (64 * G.numbers.demanded) G.records);
      flags = part 4096 G.numbers.demanded G.marks;
      marks = take (length (hashes_of G.table)) G.marks;
      inquired = take G.numbers.inquired G.inquired;
    }

abbrev pub table_of : Given → List ℕ
table_of G = hashes_of G.table

-- the hash of an ELEMENT
abbrev pub hash_given : Given → ℕ
hash_given G = joined 8 (take 64 G.hash)

unfoldable pub session_of : (ℕ → ℕ) → Given → Session
session_of derive G =
    record {
      state = G.numbers.state;
      first = eqb G.numbers.first 1;
      size = G.numbers.size;
      salt = G.numbers.salt;
      width = G.numbers.width;
      swaps = G.numbers.swaps;
      far = joined 8 (part 262144 64 G.records);
      columns = G.columns;
      ours = G.ours;
      theirs = G.theirs;
      ledger = decode derive (table_of G) (memory_of G) (eqb G.numbers.done 1);
    }

-- ---- refusals 1 and 2

-- numbers that are numbers of a session; nothing is counted where "nothing is inquired, asked, offered, demanded or gained and DONE has not gone"
unfoldable pub readable : Numbers → Bool
readable N = leb N.first 1 && (leb N.done 1 && (leb N.demanded 4096 && leb N.inquired 4096))

unfoldable pub counts_nothing : Numbers → Bool
counts_nothing N = eqb N.demanded 0 && (eqb N.inquired 0 && eqb N.done 0)

-- the table and the numbers; "in a session columns are judged in state 1 alone, up to 2,520"
unfoldable pub good_front : (ℕ → ℕ) → Given → Bool
good_front derive G =
    let s = session_of derive G in
    is_table derive G.table
    && (readable G.numbers
    && (good_numbers s
    && (implies (idle s) (counts_nothing G.numbers) && implies («in» s EXPECTING_LAST) (are_counts 2520 G.columns.counts))))

-- Refusal 1 is tried before 2, so a ledger may be longer than its slices: of it the part that is there. A demanded hash is there where its 64 bytes
-- and its mark are.
abbrev pub there : Given → Given
there G =
    let N = G.numbers in
    given
    (numbered N.state N.first N.size N.salt N.width N.swaps N.done
    (min N.demanded (min (length G.records / 64) (length G.marks - 4096))) (min N.inquired (length G.inquired)))
    G.table G.records G.marks G.inquired G.columns G.ours G.theirs G.hash G.message G.out

unfoldable pub is_whole : Given → Bool
is_whole G = eqb (there G).numbers.demanded G.numbers.demanded && eqb (there G).numbers.inquired G.numbers.inquired

-- the ledger, as far as it is there
unfoldable pub good_back : (ℕ → ℕ) → Given → Bool
good_back derive G =
    let T = there G in
    let s = session_of derive T in
    all_below 8 (memory_of T).marks
    && (all_below 16 (memory_of T).flags
    && (good_part derive (table_of G) s && implies (is_whole G) (good_whole derive (table_of G) s)))

unfoldable pub good_form : (ℕ → ℕ) → Given → Bool
good_form derive G = good_front derive G && good_back derive G

unfoldable pub has_ledger_room : Given → Bool
has_ledger_room G = leb 262208 (length G.records) && (leb 8192 (length G.marks) && leb 4096 (length G.inquired))

-- "In a session columns and lists have 4,096 places, and the outgoing buffer at least 295,008 bytes."
unfoldable pub has_rooms : Given → Bool
has_rooms G =
    has_ledger_room G
    && (has_room 4096 G.columns
    && (leb 4096 (length G.ours) && (leb 4096 (length G.theirs) && (leb 64 (length G.hash) && leb 295008 (length G.out)))))

-- 1, 2, and 5 in states 6 and 7; 3 is for the starts, as a step is given no size or salt
unfoldable pub early : (ℕ → ℕ) → Given → Option Refusal
early derive G = first_of ((Form, good_form derive G) ∷ (Room, has_rooms G) ∷ (OutOfTurn, not (is_ended G.numbers.state)) ∷ [])

-- ---- a step

-- nothing is changed but the state
abbrev pub unchanged : ℕ → ℕ → Given → Left
unchanged n q G =
    record {
      answer = answered n 0 0 (in_state q G.numbers);
      records = G.records;
      marks = G.marks;
      inquired = G.inquired;
      columns = G.columns;
      ours = G.ours;
      theirs = G.theirs;
      out = G.out;
    }

-- a refusal of the session: its columns and lists, and its state
abbrev pub ended : ℕ → Session → Given → Left
ended n s G =
    record {
      answer = answered n 0 0 (in_state s.state G.numbers);
      records = G.records;
      marks = G.marks;
      inquired = G.inquired;
      columns = s.columns;
      ours = s.ours;
      theirs = s.theirs;
      out = G.out;
    }

-- "Messages to be sent, a due filter included, are written from its start; what lies behind them is unchanged."
unfoldable pub went : (ℕ → ℕ) → ℕ → Outcome → Given → Left
went derive n o G =
    let s = o.session in
    let L = s.ledger in
    record {
      answer = answered n (length (layouts o.sent)) (length o.due) (numbers_of s);
      records = over 262144 (packed 512 (s.far ∷ [])) (over 0 (packed 512 L.demanded) G.records);
      marks = over 4096 (flags_of derive (table_of G) L) (over 0 (marks_of derive (table_of G) L) G.marks);
      inquired = over 0 L.inquired G.inquired;
      columns = s.columns;
      ours = s.ours;
      theirs = s.theirs;
      out = over 0 (layouts o.sent ++ packed 512 o.due) G.out;
    }

-- a message of which the bytes say c
unfoldable pub step_on : (ℕ → ℕ) → Content → Given → Left
step_on derive c G =
    let s = session_of derive G in
    let t = table_of G in
    let n = refusal derive t (hash_given G) s c in
    cond (acts n) (went derive n (act derive t (hash_given G) s c) G) (ended n (refused derive t n s c) G)

-- "a session call must be given exactly one, or it is malformed"
unfoldable pub step_said : (ℕ → ℕ) → Option Message → Given → Left
step_said derive (Some m) G = step_on derive (content m G.message) G
step_said derive None G = unchanged (refusal_number Malformed) ABORTED G

unfoldable pub step_call : (ℕ → ℕ) → Given → Left
step_call derive G =
    let n = number_of (early derive G) in
    cond (eqb n 0) (step_said derive (exactly_one G.message) G) (unchanged n G.numbers.state G)

-- ---- the starts

-- what a start answers and leaves: the table's marks, and the outgoing buffer
pub record Started : Type 0 where
  pub answer : Answer
  pub marks : List ℕ
  pub out : List ℕ

abbrev pub starting : Answer → List ℕ → List ℕ → Started
starting a marks out = record { answer = a; marks = marks; out = out }

-- no session: its size is in no range, so every step refuses it
abbrev pub no_session : Numbers
no_session = numbered ABORTED 0 0 0 0 0 0 0 0

abbrev pub started : Option Refusal → Numbers → List Content → List ℕ → List ℕ → List ℕ → Started
started r N cs table marks out =
    cond (eqb (number_of r) 0)
    (starting (answered 0 (length (layouts cs)) 0 N) (over 0 (replicate (length (hashes_of table)) 0) marks) (over 0 (layouts cs) out))
    (starting (answered (number_of r) 0 0 no_session) marks out)

-- the receiver of a filter: state 0. Size and salt are those of the first filter as soon as it comes; until then any in range do.
-- It writes nothing, so it is lent no outgoing buffer.
unfoldable pub start_receiver : (ℕ → ℕ) → List ℕ → List ℕ → Started
start_receiver derive table marks =
    started
    (first_of ((Form, is_table derive table) ∷ (Room, leb 8192 (length marks)) ∷ []))
    (numbered EXPECTING 0 37 0 0 0 0 0 0) [] table marks []

-- "The sender of a filter starts in 3."
unfoldable pub start_sender : (ℕ → ℕ) → ℕ → ℕ → List ℕ → List ℕ → List ℕ → Started
start_sender derive size salt table marks out =
    started
    (first_of (
    (Form, is_table derive table)
    ∷ (Range, in_range size salt)
    ∷ (Room, leb 8192 (length marks) && leb 295008 (length out))
    ∷ []))
    (numbered PASSIVE 1 size salt 0 0 0 0 0) (own_filter (ids_of derive (hashes_of table)) size salt) table marks out
