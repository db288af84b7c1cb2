-- What private functions may count on, as statements: cited by their contracts alone.
use Rattle.std.specs.Prelude.{◌≡◌, Bool, true, false, cond, Option, None, Some, Result, Ok, Err, is_err, List, ℕ, ◌+◌, ◌-◌, ◌*◌, ◌≤◌, ◌<◌, eqb, ltb, length}
use Rattle.std.specs.Int.Bits.{bit_xor}
use Rattle.bucket.specs.Digits.{joined, packed, Below}
use Rattle.bucket.specs.Lists.{over}
use Rattle.bucket.specs.Columns.{Columns}
use Rattle.filter.specs.declared.answers.ReadAnswer.{ReadAnswer}
use Rattle.filter.specs.declared.answers.Refusal.{Refusal}
use Rattle.filter.specs.declared.answers.Refusal.TheVariants.{Breach}
use Rattle.filter.specs.Answers.{refusal_number, number_of}
use Rattle.filter.specs.Calls.{Read, in_range, has_room, read_refusal}
use Rattle.filter.specs.Table.{first_eight, hashes_of, ids_of, is_table}
use Rattle.message.specs.declared.kinds.Message.{Message}
use Rattle.message.specs.declared.kinds.Message.TheVariants.{IbfLast}
use Rattle.message.specs.declared.kinds.Slice.{Slice}
use Rattle.message.specs.Laying.{laid, is_slice}
use Rattle.message.specs.Layout.{Content}
use Rattle.message.specs.Reading.{content}
use Rattle.message.specs.Walking.{exactly_one}
use Rattle.message.specs.Writing.{layouts}
use Rattle.session.specs.declared.filters.Fate.{Fate}
use Rattle.ledger.specs.declared.numbers.Numbers.{Numbers}
use Rattle.ledger.specs.Session.{clears}
use Rattle.filter.specs.Sets.{within}
use Rattle.form.specs.Answers.{is_placed}
use Rattle.session.specs.Turns.{fate_of, wiped, kept}
use Rattle.session.specs.Moves.{Walk, News}

-- a place of the table or of the demanded hashes
abbrev pub Placed : List ℕ → List ℕ → ℕ → Type 0
Placed table known p = cond (ltb p 4096) (64 * p + 64 ≤ length table) (64 * (p - 4096) + 64 ≤ length known)

-- the table, the hashes demanded, and the marks of both
pub record Kept (table known marks : List ℕ) : Type 0 where
  pub table-good : is_table first_eight table ≡ true
  pub known-good : is_table first_eight known ≡ true
  pub marks-room : 8192 ≤ length marks

-- an answered place: none stands for 8,192
abbrev pub IsPlace : Option ℕ → ℕ → Type 0
IsPlace None q = q ≡ 8192
IsPlace (Some p) q = (p ≡ q) × (p < 8192)

-- hashes gathered in order
pub record Gathered (fine : Bool) (hashes : List ℕ) (n : ℕ) (bytes bytes₀ : List ℕ) : Type 0 where
  pub good : fine ≡ true
  pub count : n ≡ length hashes
  pub bytes-are : bytes ≡ over 0 (packed 512 hashes) bytes₀

-- what the walk over the IDs of an INQUIRY found: how many hashes it gathered, or a breach where an ID was bad
abbrev pub Walked : Walk → Result ℕ Refusal → (marks bytes bytes₀ : List ℕ) → Type 0
Walked w (Err r) marks bytes bytes₀ = (r ≡ Breach) × (w.fine ≡ false)
Walked w (Ok n) marks bytes bytes₀ = Gathered w.fine w.hashes n bytes bytes₀ × (marks ≡ w.marks)

-- what the walk over the hashes of a DEMAND found: a breach where a hash was bad
abbrev pub Served : Walk → Result (Unit {0}) Refusal → List ℕ → Type 0
Served w (Err r) marks = (r ≡ Breach) × (w.fine ≡ false)
Served w (Ok u) marks = (w.fine ≡ true) × (marks ≡ w.marks)

-- what the walk over the hashes of an OFFER found: the new ones in order, or a breach where a hash was bad
abbrev pub Offered : News → Result ℕ Refusal → (bytes bytes₀ : List ℕ) → Type 0
Offered w (Err r) bytes bytes₀ = (r ≡ Breach) × (w.fine ≡ false)
Offered w (Ok n) bytes bytes₀ = Gathered w.fine w.hashes n bytes bytes₀

-- 64 bytes that are a number: a checksum as it is made
pub record Sum (x : ℕ) (acc : List ℕ) : Type 0 where
  pub sum : joined 8 acc ≡ x
  pub size : length acc ≡ 64
  pub fit : Below 8 acc

-- a number XORed into it
abbrev pub Adds : List ℕ → ℕ → List ℕ → Type 0
Adds acc y acc' = (x : ℕ) → Sum x acc → Sum (bit_xor x y) acc'

-- IDs of a table's elements that are to be offered
pub record Opens (table ours marks : List ℕ) : Type 0 where
  pub table-good : is_table first_eight table ≡ true
  pub ours-held : within ours (ids_of first_eight table) ≡ true
  pub marks-room : 8192 ≤ length marks

-- messages written from the start of the outgoing buffer, and where they end
pub record Sent (cs : List Content) (before after : List ℕ) (n : ℕ) : Type 0 where
  pub count : n ≡ length (layouts cs)
  pub bytes : after ≡ over 0 (layouts cs) before

-- bytes that are a slice, and the columns that it is to be laid into
pub record Lays (message : List ℕ) (m : Message) (c : Columns) : Type 0 where
  pub read : exactly_one message ≡ Some m
  pub slice : is_slice m ≡ true
  pub room : has_room 4096 c ≡ true

-- the last slice of a filter, and the reading of it
pub record Whole (table message : List ℕ) (s : Slice) (c : Columns) (ours theirs : List ℕ) : Type 0 where
  pub lays : Lays message (IbfLast s) c
  pub table-good : is_table first_eight table ≡ true
  pub range : in_range s.size s.salt ≡ true
  pub granted : read_refusal first_eight s.size s.salt table (laid (content (IbfLast s) message) c) ours theirs ≡ None
  pub ours-room : 4096 ≤ length ours
  pub theirs-room : 4096 ≤ length theirs

-- the last slice of a filter, and everything that follows from reading it
pub record Reads (N : Numbers) (table message : List ℕ) (s : Slice) (c : Columns) (ours theirs marks inquired out : List ℕ) : Type 0 where
  pub lays : Lays message (IbfLast s) c
  pub table-good : is_table first_eight table ≡ true
  pub range : in_range s.size s.salt ≡ true
  pub granted : is_placed N s.size s.offset s.salt s.width ≡ true
      → read_refusal first_eight s.size s.salt table (laid (content (IbfLast s) message) c) ours theirs ≡ None
  pub ours-room : 4096 ≤ length ours
  pub theirs-room : 4096 ≤ length theirs
  pub marks-room : 8192 ≤ length marks
  pub inquired-room : 4096 ≤ length inquired
  pub out-room : 295008 ≤ length out

-- how a reading's end is told: its refusal 9 or 10, or what follows
abbrev pub Fated : ReadAnswer → ℕ → ℕ → Result Fate Refusal → Type 0
Fated a nt swaps (Err r) = (fate_of a nt swaps ≡ refusal_number r) × (clears (refusal_number r) ≡ true)
Fated a nt swaps (Ok (Fate.Opens ours theirs)) = (fate_of a nt swaps ≡ 0) × (eqb a.complete 1 ≡ true) × (ours ≡ a.ours) × (theirs ≡ a.theirs)
Fated a nt swaps (Ok (Fate.Swaps beside)) = (fate_of a nt swaps ≡ number_of beside) × (clears (number_of beside) ≡ false) × (eqb a.complete 1 ≡ false)

-- what a reading was told as, and what it leaves: nothing where the session may not go on
pub record Ended (r : Read) (table : List ℕ) (size swaps : ℕ) (f : Result Fate Refusal) (after : Read) : Type 0 where
  pub told : Fated r.answer (length (hashes_of table)) swaps f
  pub leaves : after ≡ cond (is_err f) (wiped size r) (kept r)
