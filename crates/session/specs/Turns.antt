-- What the functions of slices, INQUIRY, OFFER and DEMAND compute, in the code's own shape: cited by private contracts alone. Nothing here is to be
-- believed: laws (proofs/*Tie) show that each turn is what `Calls` says of its message. INQUIRY, OFFER and DEMAND are asked once the grid has admitted them.
use Rattle.std.specs.Prelude.{◌||◌, cond, Result, Ok, Err, ℕ, ◌+◌, eqb, ltb, leb, length, get_or, set, take}
use mathlib.Core.List.{List, [], ◌∷◌, ◌++◌, map, foldr}
use Rattle.std.specs.Int.Bits.{bit_xor}
use Rattle.bucket.specs.Bucket.{𝟎}
use Rattle.bucket.specs.Columns.{Columns}
use Rattle.bucket.specs.Digits.{packed}
use Rattle.bucket.specs.Lists.{over}
use Rattle.filter.specs.declared.answers.ReadAnswer.{ReadAnswer}
use Rattle.filter.specs.declared.answers.Refusal.{Refusal}
use Rattle.filter.specs.declared.answers.Refusal.TheVariants.{Malformed, OutOfTurn, Breach, Swaps, Limit}
use Rattle.filter.specs.Answers.{refusal_number}
use Rattle.filter.specs.Calls.{Read, unread, filled, listed_into}
use Rattle.filter.specs.Table.{first_eight, hashes_of, ids_of, position}
use Rattle.message.specs.declared.kinds.Message.TheVariants.{IbfLast}
use Rattle.message.specs.declared.kinds.Slice.{Slice}
use Rattle.message.specs.Laying.{laid}
use Rattle.message.specs.Layout.{Content, done}
use Rattle.message.specs.Reading.{content}
use Rattle.message.specs.Writing.{layouts, inquiries_of, offers_of, demands_of}
use Rattle.ledger.specs.declared.numbers.Numbers.{Numbers}
use Rattle.ledger.specs.declared.numbers.Answer.{Answer}
use Rattle.ledger.specs.Grid.{ACTIVE, PASSIVE}
use Rattle.ledger.specs.Session.{next_salt, next_size, own_filter, is_complete, ours_in, theirs_in, clears, reading_at}
use Rattle.ledger.specs.Calls.{numbered, answered}
use Rattle.form.specs.Answers.{aborted, changed, sliced_numbers, opened_numbers, admits_slice, is_placed}
use Rattle.session.specs.Moves.{ask_all, serve_all, new_all, extra, Stored, stored, store_all, inserted_all}

-- the answer of a message's function, as the step answers it: a refusal ends the session
abbrev pub settled : Numbers → Result Answer Refusal → Answer
settled N (Ok a) = a
settled N (Err r) = aborted (refusal_number r) N

-- ---- INQUIRY, DEMAND: marks change, and something is written

pub record MarkTurn : Type 0 where
  pub answer : Answer
  pub marks : List ℕ
  pub out : List ℕ

abbrev pub mark_turn : Answer → List ℕ → List ℕ → MarkTurn
mark_turn a M out = record { answer = a; marks = M; out = out }

-- t and K are the hashes of the table and those demanded
unfoldable pub inquiry_turn : Numbers → List ℕ → List ℕ → ℕ → List ℕ → List ℕ → List ℕ → MarkTurn
inquiry_turn N t K salt xs M out =
    let w = ask_all first_eight t K xs (take 8192 M) in
    let cs = offers_of w.hashes in
    cond (eqb salt N.salt)
    (cond w.fine
    (mark_turn (changed N N.state N.done N.demanded (length (layouts cs)) 0) (over 0 w.marks M) (over 0 (layouts cs) out))
    (mark_turn (aborted (refusal_number Breach) N) M out))
    (mark_turn (aborted (refusal_number Breach) N) M out)

unfoldable pub demand_turn : Numbers → List ℕ → List ℕ → List ℕ → List ℕ → List ℕ → MarkTurn
demand_turn N t K hs M out =
    let w = serve_all first_eight t K hs (take 8192 M) in
    cond w.fine
    (mark_turn (changed N N.state N.done N.demanded 0 (length hs)) (over 0 w.marks M) (over 0 (packed 512 hs) out))
    (mark_turn (aborted (refusal_number Breach) N) M out)

-- ---- OFFER: new hashes are demanded

pub record OfferTurn : Type 0 where
  pub answer : Answer
  pub stored : Stored
  pub out : List ℕ

abbrev pub offer_turn' : Answer → Stored → List ℕ → OfferTurn
offer_turn' a s out = record { answer = a; stored = s; out = out }

-- concerned: how many IDs are held or wanted
unfoldable pub offer_turn : Numbers → List ℕ → List ℕ → List ℕ → List ℕ → ℕ → List ℕ → List ℕ → List ℕ → OfferTurn
offer_turn N t K I hs concerned R M out =
    let w = new_all first_eight t K I (eqb N.state ACTIVE) hs in
    let n = N.demanded in
    let m = length w.hashes in
    let cs = demands_of w.hashes in
    cond w.fine
    (cond (ltb 4096 (concerned + extra first_eight I w.hashes) || ltb 4096 (n + m))
    (offer_turn' (aborted (refusal_number Limit) N) (stored R M) out)
    (offer_turn' (changed N N.state N.done (n + m) (length (layouts cs)) 0) (store_all n w.hashes (stored R M)) (over 0 (layouts cs) out)))
    (offer_turn' (aborted (refusal_number Breach) N) (stored R M) out)

-- ---- slices

-- the elements of ours marked offered, one after the other
unfoldable pub mark_all : List ℕ → List ℕ → List ℕ → List ℕ
mark_all ts [] M = M
mark_all ts (x ∷ xs) M = mark_all ts xs (set M (position ts x) 2)

abbrev pub hashes_at : List ℕ → List ℕ → List ℕ → List ℕ
hashes_at t ts xs = map (λ x. get_or t (position ts x) 0) xs

-- a complete reading opens the session: what it answers, and marks, the inquired IDs and the outgoing buffer
pub record OpenTurn : Type 0 where
  pub answer : Answer
  pub marks : List ℕ
  pub inquired : List ℕ
  pub out : List ℕ

abbrev pub open_turn' : Answer → List ℕ → List ℕ → List ℕ → OpenTurn
open_turn' a M I out = record { answer = a; marks = M; inquired = I; out = out }

unfoldable pub open_turn : Numbers → List ℕ → (size salt : ℕ) → List ℕ → List ℕ → List ℕ → List ℕ → List ℕ → OpenTurn
open_turn N table size salt ours theirs M I out =
    let t = hashes_of table in
    let ts = ids_of first_eight table in
    let none = eqb (length theirs) 0 in
    let cs = inquiries_of salt theirs ++ (offers_of (hashes_at t ts ours) ++ cond none (done (foldr bit_xor 0 t) ∷ []) []) in
    open_turn'
    (answered 0 (length (layouts cs)) 0 (opened_numbers N size salt (cond none 1 0) (length theirs)))
    (mark_all ts ours M) (inserted_all 0 theirs I) (over 0 (layouts cs) out)

abbrev pub swapped_numbers : Numbers → (size salt : ℕ) → Numbers
swapped_numbers N size salt = numbered PASSIVE 1 (next_size size) (next_salt salt) 0 (N.swaps + 1) N.done N.demanded N.inquired

-- ---- IBF and IBF LAST

-- columns and lists, as a reading leaves them
pub record SliceTurn : Type 0 where
  pub answer : Answer
  pub columns : Columns

abbrev pub slice_turn' : Answer → Columns → SliceTurn
slice_turn' a c = record { answer = a; columns = c }

-- c is what the message says
unfoldable pub slice_turn : Numbers → Content → Slice → Columns → SliceTurn
slice_turn N c s cols =
    cond (admits_slice N 0)
    (cond (is_placed N s.size s.offset s.salt s.width)
    (slice_turn' (answered 0 0 0 (sliced_numbers N s.size s.salt s.width)) (laid c cols))
    (slice_turn' (aborted (refusal_number Malformed) N) cols))
    (slice_turn' (aborted (refusal_number OutOfTurn) N) cols)

-- everything that the last slice may change
pub record LastTurn : Type 0 where
  pub answer : Answer
  pub marks : List ℕ
  pub inquired : List ℕ
  pub read : Read
  pub out : List ℕ

-- the session ends, or goes on, by how the reading ended
unfoldable pub fate_of : ReadAnswer → ℕ → ℕ → ℕ
fate_of a nt swaps = cond (eqb a.complete 1) (cond (ltb 4096 (nt + a.theirs)) (refusal_number Limit) 0) (cond (leb 16 swaps) (refusal_number Swaps) a.refusal)

abbrev pub last_turn' : Answer → List ℕ → List ℕ → Read → List ℕ → LastTurn
last_turn' a M I r out = record { answer = a; marks = M; inquired = I; read = r; out = out }

-- columns and lists as they were
abbrev pub untouched : Columns → List ℕ → List ℕ → Read
untouched c o th = unread 0 c o th

abbrev pub wiped : ℕ → Read → Read
wiped size r = unread 0 (filled size (λ i. 𝟎) r.columns) (listed_into size [] r.ours) (listed_into size [] r.theirs)

abbrev pub kept : Read → Read
kept r = untouched r.columns r.ours r.theirs

-- the reading of a filter that a message's slice completes
abbrev pub whole_read : List ℕ → List ℕ → Slice → Columns → List ℕ → List ℕ → Read
whole_read table message s cols o th = reading_at first_eight (hashes_of table) s.size s.salt (laid (content (IbfLast s) message) cols) o th

unfoldable pub read_turn : Numbers → List ℕ → (size salt : ℕ) → Read → List ℕ → List ℕ → List ℕ → LastTurn
read_turn N table size salt r M I out =
    let f = fate_of r.answer (length (hashes_of table)) N.swaps in
    let o = open_turn N table size salt (ours_in r) (theirs_in r) M I out in
    let cs = own_filter (ids_of first_eight table) (next_size size) (next_salt salt) in
    cond (clears f) (last_turn' (aborted f N) M I (wiped size r) out)
    (cond (is_complete r) (last_turn' o.answer o.marks o.inquired (kept r) o.out)
    (last_turn' (answered f (length (layouts cs)) 0 (swapped_numbers N size salt)) M I (kept r) (over 0 (layouts cs) out)))

unfoldable pub last_turn : Numbers → List ℕ → Content → Slice → Columns → List ℕ → List ℕ → List ℕ → List ℕ → List ℕ → LastTurn
last_turn N table c s cols o th M I out =
    cond (admits_slice N 1)
    (cond (is_placed N s.size s.offset s.salt s.width)
    (read_turn N table s.size s.salt (reading_at first_eight (hashes_of table) s.size s.salt (laid c cols) o th) M I out)
    (last_turn' (aborted (refusal_number Malformed) N) M I (untouched cols o th) out))
    (last_turn' (aborted (refusal_number OutOfTurn) N) M I (untouched cols o th) out)
