-- The bare numbers of document 01's session ("The session", "Refusal numbers"), each under the paper's words: a second statement beside the
-- definitions, by examples, lists and laws. Assumes nothing.
use Rattle.std.specs.Prelude.{◌≡◌, Bool, true, false, List, [], ◌∷◌, ◌++◌, map, ℕ, leb, pos, negsuc, length, replicate}
use Rattle.std.proofs.Math.Path.{refl}
use Rattle.std.proofs.Math.Bool.{and_assoc, and-true}
use Rattle.bucket.specs.Bucket.{𝟎, neg, ◌⊕◌, is_zero}
use Rattle.bucket.specs.Columns.{columns, view}
use Rattle.bucket.specs.Crc.{tabulated}
use Rattle.bucket.specs.Digits.{joined}
use Rattle.bucket.specs.Lists.{elem, over}
use Rattle.filter.specs.declared.answers.Refusal.{Refusal}
use Rattle.filter.specs.Answers.{refusal_number}
use Rattle.filter.specs.Calls.{in_range, all_counts, has_room, read_with, Read}
use Rattle.filter.specs.Filter.{sum_at, filter_of, difference}
use Rattle.filter.specs.Lists.{rising, distinct, minus, select}
use Rattle.filter.specs.Peeling.{first, all_zero, is_pure, look, next, run, reading, verdict}
use Rattle.filter.specs.Table.{hash_at, hashes_of, is_table}
use Rattle.message.specs.Layout.{Content, slice, inquiry, offer, demand, element, done}
use Rattle.message.specs.Laying.{laid}
use Rattle.filter.specs.Sets.{insert, ◌∪◌, all, within, count, every}
use Rattle.ledger.specs.Grid.{EXPECTING, EXPECTING_LAST, ACTIVE, PASSIVE, WAITING, FINISHED, ABORTED, states, place_in, entry}
use Rattle.ledger.specs.Session.{Ledger, Session, no_ledger, by_slice, unmet, admitted, placed, next_salt, next_size, is_complete, theirs_in, acts, clears, ids_of, held, checksum, concerned, new, reading_at, too_many, allowed, agrees, last_one, waits, says_done, tests, refusal, swapped, on_slice, change, act, all_came, cleared, refused, step}
use Rattle.ledger.specs.Form.{good_numbers, idle, nothing, good_books, good_part, good_whole}
use Rattle.ledger.specs.Memory.{is_asked, is_offered, is_served, is_met, marked, all_below, decode}
use Rattle.ledger.specs.Calls.{Given, given, numbered, memory_of, session_of, readable, counts_nothing, is_whole, good_back, good_front, good_form, has_ledger_room, has_rooms, early, step_call, start_receiver, start_sender}

-- ---- states and messages

-- "0 Expecting IBF, 1 Expecting IBF Last", "2 Active Decoding", "3 Passive Decoding", "5 Finish Waiting", "6 Finished, 7 Aborted"; Req 04: "take the
-- state and its row out"
pub state-numbers : (EXPECTING ∷ EXPECTING_LAST ∷ ACTIVE ∷ PASSIVE ∷ WAITING ∷ FINISHED ∷ ABORTED ∷ [] ≡ 0 ∷ 1 ∷ 2 ∷ 3 ∷ 5 ∷ 6 ∷ 7 ∷ []) × (states ≡ 0 ∷ 1 ∷ 2 ∷ 3 ∷ 5 ∷ 6 ∷ 7 ∷ [])
state-numbers = (refl, refl)

-- a session by its numbers, at width 1, and its ledger
abbrev pub session_at : (state : ℕ) (first : Bool) (size salt swaps far : ℕ) → Ledger → Session
session_at q first size salt swaps far L =
    record { state = q; first = first; size = size; salt = salt; width = 1; swaps = swaps; far = far; columns = columns [] [] []; ours = []; theirs = []; ledger = L }

-- one message of each kind; a filter of 4,096 buckets has two slices, one of 37 has one
abbrev pub an_ibf : Content
an_ibf = slice 4096 0 0 1 [] [] []

abbrev pub an_ibf_last : Content
an_ibf_last = slice 37 0 0 1 [] [] []

abbrev pub an_inquiry : Content
an_inquiry = inquiry 0 (1 ∷ [])

abbrev pub an_offer : Content
an_offer = offer (1 ∷ [])

abbrev pub a_demand : Content
a_demand = demand (1 ∷ [])

abbrev pub an_element : Content
an_element = element (1 ∷ [])

abbrev pub a_done : Content
a_done = done 1

abbrev pub may_come : ℕ → Bool → List Content
may_come q first =
    select (admitted (session_at q first 37 0 0 0 no_ledger)) (an_ibf ∷ an_ibf_last ∷ an_inquiry ∷ an_offer ∷ a_demand ∷ an_element ∷ a_done ∷ [])

-- the table of states and what may come
pub grid-rows :
    (may_come 0 false ≡ an_ibf ∷ an_ibf_last ∷ [])
    × (may_come 1 false ≡ an_ibf ∷ an_ibf_last ∷ [])
    × (may_come 2 false ≡ an_offer ∷ a_demand ∷ an_element ∷ a_done ∷ [])
    -- "IBF and IBF LAST only as first message since entry"
    × (may_come 3 true ≡ an_ibf ∷ an_ibf_last ∷ an_inquiry ∷ an_offer ∷ a_demand ∷ an_element ∷ a_done ∷ [])
    × (may_come 3 false ≡ an_inquiry ∷ an_offer ∷ a_demand ∷ an_element ∷ a_done ∷ [])
    × (may_come 5 false ≡ an_element ∷ [])
    × (may_come 6 false ≡ [])
    × (may_come 7 false ≡ [])
    -- outside the grid
    × (may_come 4 false ≡ [])
    × (may_come 8 false ≡ [])
unfolding select admitted entry place_in
grid-rows = (refl, refl, refl, refl, refl, refl, refl, refl, refl, refl)

-- ---- numbers

-- "own filter due at salt + 1 (63 goes to 0) and twice the size, at most 4,096"
pub next-filter :
    (map next_size (37 ∷ 2047 ∷ 2048 ∷ 4096 ∷ []) ≡ 74 ∷ 4094 ∷ 4096 ∷ 4096 ∷ [])
    × (map next_salt (0 ∷ 62 ∷ 63 ∷ []) ≡ 1 ∷ 63 ∷ 0 ∷ [])
unfolding next_size next_salt
next-filter = (refl, refl)

-- a slice that is stuck: 2 in bucket 0 and no ID
abbrev pub stuck_at : ℕ → Session
stuck_at swaps = (step (λ h. h) [] 0 (session_at 0 false 37 0 swaps 0 no_ledger) (slice 37 0 0 2 (0 ∷ []) (0 ∷ []) (2 ∷ []))).session

-- "At most 16 such swaps"
pub swaps-counted : ((stuck_at 15).state ≡ 3) × ((stuck_at 15).swaps ≡ 16) × ((stuck_at 16).state ≡ 7) × ((stuck_at 16).swaps ≡ 16)
unfolding step refusal admitted entry tests by_slice placed too_many reading_at read_with verdict reading run next first look is_pure difference filter_of
    sum_at view laid over all_zero is_zero ◌⊕◌ neg 𝟎 act on_slice swapped refused cleared ids_of place_in
swaps-counted = (refl, refl, refl, refl)

-- "swaps are at most 16, size and salt in range"; Req 04: "A state number 4 handed in is refused with 1"
abbrev pub numbers_at : (state swaps size salt : ℕ) → Bool
numbers_at q swaps size salt = good_numbers (session_at q false size salt swaps 0 no_ledger)

pub ranges :
    (numbers_at 7 16 37 0 ≡ true)
    × (numbers_at 7 16 4096 63 ≡ true)
    × (numbers_at 4 16 37 0 ≡ false)
    × (numbers_at 5 16 37 0 ≡ true)
    × (numbers_at 8 16 37 0 ≡ false)
    × (numbers_at 7 17 37 0 ≡ false)
    × (numbers_at 7 16 36 0 ≡ false)
    × (numbers_at 7 16 4097 0 ≡ false)
    × (numbers_at 7 16 37 64 ≡ false)
unfolding good_numbers in_range elem
ranges = (refl, refl, refl, refl, refl, refl, refl, refl, refl)

-- a slice in a session of 4,096 buckets at salt 0
abbrev pub placed_at : (state size offset salt width : ℕ) → Bool
placed_at q = placed (session_at q false 4096 0 0 0 no_ledger)

-- "An offset is 0 or 2,520", "Slices come in offset order without a gap, with one size, salt and width."
pub slices-placed :
    (placed_at 0 37 0 1 2 ≡ true)
    × (placed_at 0 37 2520 1 2 ≡ false)
    × (placed_at 1 4096 2520 0 1 ≡ true)
    × (placed_at 1 4096 0 0 1 ≡ false)
    × (placed_at 1 4095 2520 0 1 ≡ false)
    × (placed_at 1 4096 2520 1 1 ≡ false)
    × (placed_at 1 4096 2520 0 2 ≡ false)
unfolding placed
slices-placed = (refl, refl, refl, refl, refl, refl, refl)

-- what a step is given in a state, with no room: n counts of 0 and one of −1
abbrev pub given_at : ℕ → ℕ → Given
given_at q n = given (numbered q 0 37 0 0 0 0 0 0) [] [] [] [] (columns [] [] (replicate n (pos 0) ++ negsuc 0 ∷ [])) [] [] [] [] []

-- "in a session columns are judged in state 1 alone, up to 2,520"
pub counts-judged :
    (good_front (λ h. h) (given_at 1 2519) ≡ false)
    × (good_front (λ h. h) (given_at 1 2520) ≡ true)
    × (good_front (λ h. h) (given_at 0 0) ≡ true)
unfolding good_front is_table hashes_of tabulated rising distinct readable good_numbers elem idle counts_nothing session_of in_range all_counts
    Rattle.filter.specs.Table.ids_of
counts-judged = (refl, refl, refl)

-- 10: "slips held plus wanted (inquired or demanded, unmet) would pass 4,096": 4,096 are taken and 4,097 refused, after a reading and by an OFFER
module _ (derive : ℕ → ℕ) (t : List ℕ) where
  pub limit_read : (r : Read) → is_complete r ≡ true
      → (count (ids_of derive t ++ theirs_in r) ≡ 4096 → too_many derive t r ≡ false)
      × (count (ids_of derive t ++ theirs_in r) ≡ 4097 → too_many derive t r ≡ true)
  unfolding too_many
  limit_read r whole = (λ e. rw (whole, e), λ e. rw (whole, e))

  pub limit_offer : (h : ℕ) (s : Session) (hs : List ℕ) → admitted s (offer hs) ≡ true
      → let rest = new derive t s.ledger hs in
      allowed derive t s rest ≡ true
      → (count (concerned derive t s.ledger ++ ids_of derive rest) ≡ 4096 → refusal derive t h s (offer hs) ≡ 0)
      × (count (concerned derive t s.ledger ++ ids_of derive rest) ≡ 4097 → refusal derive t h s (offer hs) ≡ 10)
  unfolding refusal tests
  limit_offer h s hs a b = (λ e. rw (a, b, e), λ e. rw (a, b, e))

-- the lengths of everything that a step is lent but the table and the message, and what each must be: "In a session columns and lists have 4,096 places,
-- and the outgoing buffer at least 295,008 bytes"; the ledger's memory is the library's own choice
abbrev pub lengths : Given → List ℕ
lengths G =
    length G.records ∷ length G.marks ∷ length G.inquired
    ∷ length G.columns.idsums ∷ length G.columns.hashsums ∷ length G.columns.counts
    ∷ length G.ours ∷ length G.theirs ∷ length G.hash ∷ length G.out ∷ []

abbrev pub reach : List ℕ → List ℕ → List Bool
reach [] ms = []
reach (n ∷ ns) [] = []
reach (n ∷ ns) (m ∷ ms) = leb n m ∷ reach ns ms

pub rooms : (G : Given) → has_rooms G ≡ every (reach (262208 ∷ 8192 ∷ 4096 ∷ 4096 ∷ 4096 ∷ 4096 ∷ 4096 ∷ 4096 ∷ 64 ∷ 295008 ∷ []) (lengths G))
unfolding has_rooms has_ledger_room has_room every
rooms G = simp (and_assoc, and-true)

-- ---- refusals

-- "They are tried as 1, 3, 2, 5 (states 6 and 7 only)": a start with a table of one byte, then at size 36, then with no room; a step in a state that there
-- is not, then with no room
pub first-tried :
    ((start_receiver (λ h. h) (0 ∷ []) []).answer.refusal ≡ 1)
    × ((start_receiver (λ h. h) [] []).answer.refusal ≡ 2)
    × ((start_sender (λ h. h) 36 0 (0 ∷ []) [] []).answer.refusal ≡ 1)
    × ((start_sender (λ h. h) 36 0 [] [] []).answer.refusal ≡ 3)
    × ((start_sender (λ h. h) 37 0 [] [] []).answer.refusal ≡ 2)
    × ((step_call (λ h. h) (given_at 4 0)).answer.refusal ≡ 1)
    × ((step_call (λ h. h) (given_at 8 0)).answer.refusal ≡ 1)
    × ((step_call (λ h. h) (given_at 6 0)).answer.refusal ≡ 2)
unfolding start_receiver start_sender step_call early good_form good_front readable good_numbers elem idle counts_nothing session_of has_rooms has_ledger_room is_table hashes_of
    tabulated rising distinct in_range good_back memory_of decode marked all_below all good_part good_books within every nothing is_whole good_whole held
    concerned unmet minus select ids_of ◌∪◌ Rattle.filter.specs.Table.ids_of
first-tried = (refl, refl, refl, refl, refl, refl, refl, refl)

-- So a ledger is judged as far as it is there. In no room at all: nothing may be counted in state 0, nor may DONE have gone; in state 2 one that counts
-- a hash or an ID is fine as far as it goes, and one that counts nothing is whole, so DONE must have gone. Then one mark of a table of one element is there.
abbrev pub short_at : (state went demanded inquired : ℕ) → (table records marks : List ℕ) → ℕ
short_at q went demanded inquired table records marks =
    (step_call (λ h. h) (given (numbered q 0 37 0 0 0 went demanded inquired) table records marks [] (columns [] [] []) [] [] [] [] [])).answer.refusal

pub short-judged :
    (short_at 0 0 0 0 [] [] [] ≡ 2)
    × (short_at 0 1 0 0 [] [] [] ≡ 1)
    × (short_at 0 0 1 0 [] [] [] ≡ 1)
    × (short_at 0 0 0 1 [] [] [] ≡ 1)
    × (short_at 2 0 0 0 [] [] [] ≡ 1)
    × (short_at 2 1 0 0 [] [] [] ≡ 2)
    × (short_at 2 0 1 0 [] [] [] ≡ 2)
    × (short_at 2 0 0 1 [] [] [] ≡ 2)
    × (short_at 3 0 0 0 (replicate 64 7) [] (7 ∷ []) ≡ 2)
    × (short_at 3 0 0 0 (replicate 64 7) [] (8 ∷ []) ≡ 1)
    × (short_at 3 0 0 0 (replicate 64 7) [] (4 ∷ []) ≡ 1)
    -- one of two demanded hashes is there if its mark is
    × (short_at 3 0 2 0 [] (replicate 64 7) (replicate 4096 0 ++ 8 ∷ []) ≡ 2)
    × (short_at 3 0 2 0 [] (replicate 64 7) (replicate 4096 0 ++ 1 ∷ []) ≡ 1)
    × (short_at 3 0 2 0 (replicate 64 7) (replicate 64 7) (replicate 4096 0) ≡ 2)
    × (short_at 3 0 2 0 (replicate 64 7) (replicate 64 7) (replicate 4097 0) ≡ 1)
unfolding step_call early good_form good_front readable good_numbers idle counts_nothing session_of has_rooms has_ledger_room is_table hashes_of hash_at
    tabulated rising distinct in_range good_back memory_of decode marked all_below all good_part good_books within every nothing is_whole good_whole held all_came
    concerned unmet minus select ids_of ◌∪◌ insert elem joined is_asked is_offered is_served is_met Rattle.filter.specs.Table.ids_of
short-judged = (refl, refl, refl, refl, refl, refl, refl, refl, refl, refl, refl, refl, refl, refl, refl)

module _ (derive : ℕ → ℕ) (t : List ℕ) (h : ℕ) (s : Session) where
  abbrev pub tried : Content → List ℕ
  tried c = map (λ (f : Refusal × Bool). refusal_number f.0) (tests derive t h s c)

  -- ".. 4, 5, then 7, 10, 9, 6, 8": of these each message has its own, in this order
  pub then-tried :
      (tried an_ibf ≡ 4 ∷ 10 ∷ 9 ∷ 6 ∷ [])
      × (tried an_ibf_last ≡ 4 ∷ 10 ∷ 9 ∷ 6 ∷ [])
      × (tried an_inquiry ≡ 7 ∷ [])
      × (tried an_offer ≡ 7 ∷ 10 ∷ [])
      × (tried a_demand ≡ 7 ∷ [])
      × (tried an_element ≡ 7 ∷ 8 ∷ [])
      -- "DONE in 2 too early"
      × (tried a_done ≡ 5 ∷ 8 ∷ [])
  unfolding tests
  then-tried = (refl, refl, refl, refl, refl, refl, refl)

-- of the numbers 0 to 10, 6 alone leaves a message acted on ("the session swaps"), and 9 and 10 leave "columns and lists all zero" after a reading
pub acted_beside : (select acts (tabulated (λ i. i) 0 11) ≡ 0 ∷ 6 ∷ []) × (select clears (tabulated (λ i. i) 0 11) ≡ 9 ∷ 10 ∷ [])
unfolding select tabulated
acted_beside = (refl, refl)

-- ---- the end

-- one hash demanded, which is 9, and not yet there, or there; our DONE went
abbrev pub owing : List ℕ → Ledger
owing gained = record { inquired = 9 ∷ []; asked = []; offered = []; served = []; demanded = 9 ∷ []; gained = gained; done_went = true }

abbrev pub heard_in : ℕ → ℕ → Ledger → Content → ℕ × ℕ × List Content
heard_in q far L c =
    let s = session_at q false 37 0 0 far L in
    let o = step (λ h. h) [] 9 s c in
    (refusal (λ h. h) [] 9 s c, o.session.state, o.sent)

pub ends :
    -- "DONE in 2: only after our own was sent; then .. the checksum is compared."
    (heard_in 2 0 no_ledger (done 0) ≡ (5, 7, []))
    × (heard_in 2 0 (owing (9 ∷ [])) (done 9) ≡ (0, 6, []))
    × (heard_in 2 0 (owing (9 ∷ [])) (done 8) ≡ (8, 7, []))
    -- in 2 nothing is waited for: no session in form has a demand unmet there once our DONE went
    × (heard_in 2 0 (owing []) (done 9) ≡ (8, 7, []))
    -- "DONE in 3: 5 if a demand is unmet, else compared, DONE sent."
    × (heard_in 3 0 (owing []) (done 9) ≡ (0, 5, []))
    × (heard_in 3 0 no_ledger (done 0) ≡ (0, 6, done 0 ∷ []))
    × (heard_in 3 0 no_ledger (done 1) ≡ (8, 7, []))
    -- "In .. 5 the last ELEMENT compares, in 5 also sends DONE. Equal: 6."
    × (heard_in 5 9 (owing []) (element []) ≡ (0, 6, done 9 ∷ []))
    × (heard_in 5 8 (owing []) (element []) ≡ (8, 7, []))
unfolding step refusal admitted entry place_in tests by_slice unmet minus select elem agrees checksum held last_one waits says_done act change all_came all
    ids_of ◌∪◌ insert refused
ends = (refl, refl, refl, refl, refl, refl, refl, refl, refl)
