-- The session (document 01, "The session", "Refusal numbers"): ledger, refusals, and one step, on lists and numbers.
--
--   Ledger, Session      what a session knows
--   Outcome              what a step leaves and sends
--   held, unmet, ..      notions of the paper, of a ledger and a table
--   tests                what must hold of a message that the grid admits, in the order in which it is tried
--   refusal              its number, 0 for none; 1, 3 and 2 are judged on the memory, and 4 on the bytes, before this (Calls)
--   change               what a message changes that is no slice; act, step   what is done
--
-- Everything is stated over the derivation of IDs and the table's hashes. Sets are ascending lists (Sets). The reading is filter's.
-- Laws (proofs/Theorems).
-- Assumes nothing.
use Rattle.std.specs.Prelude.{Bool, true, false, not, ◌&&◌, ◌||◌, cond, ℕ, suc, ◌+◌, ◌*◌, min, eqb, ltb, leb, pos, take, replicate}
use mathlib.Core.List.{List, [], ◌∷◌, ◌++◌, map, foldr}
use Rattle.std.specs.Int.Bits.{bit_xor}
use Rattle.bucket.specs.Bucket.{𝟎}
use Rattle.bucket.specs.Columns.{Columns, columns}
use Rattle.bucket.specs.Lists.{elem}
use Rattle.filter.specs.declared.answers.Refusal.{Refusal}
use Rattle.filter.specs.declared.answers.Refusal.TheVariants.{Malformed, OutOfTurn, FalseReading, Breach, Checksum, Swaps, Limit}
use Rattle.filter.specs.Answers.{refusal_number, number_of, first_of}
use Rattle.filter.specs.Lists.{select}
use Rattle.filter.specs.Filter.{filter_rule, filter_of}
use Rattle.filter.specs.Calls.{Read, read_by, filled, listed_into}
use Rattle.message.specs.Layout.{Content, slice, inquiry, offer, demand, element, done}
use Rattle.message.specs.Laying.{laid}
use Rattle.message.specs.Writing.{inquiries_of, offers_of, demands_of, width_for, slices_of}
use Rattle.filter.specs.Sets.{insert, ◌∪◌, ◌∖◌, is_nil, all, once, news, count, implies}
use Rattle.ledger.specs.Grid.{EXPECTING_LAST, ACTIVE, PASSIVE, WAITING, FINISHED, ABORTED, is_last, kind_of, entry}

-- "The ledger keeps, without repeats, IDs inquired and asked, hashes offered, demanded and gained, and whether DONE went."
pub record Ledger : Type 0 where
  pub inquired : List ℕ  -- IDs that we inquired
  pub asked : List ℕ  -- held IDs that the far end inquired
  pub offered : List ℕ  -- hashes that we offered
  pub served : List ℕ  -- those of them that the far end demanded
  pub demanded : List ℕ  -- hashes that we demanded
  pub gained : List ℕ  -- those of them that came
  pub done_went : Bool

pub record Session : Type 0 where
  pub state : ℕ
  pub first : Bool  -- no message has come since Passive Decoding was entered
  pub size : ℕ  -- of the last filter sent or received
  pub salt : ℕ
  pub width : ℕ  -- of the slice laid
  pub swaps : ℕ
  pub far : ℕ  -- the far checksum, kept in Finish Waiting
  pub columns : Columns
  pub ours : List ℕ  -- the two lists of a reading
  pub theirs : List ℕ
  pub ledger : Ledger

-- what a step leaves, the messages to be sent, and the hashes of the elements due
pub record Outcome : Type 0 where
  pub session : Session
  pub sent : List Content
  pub due : List ℕ

abbrev pub no_ledger : Ledger
no_ledger = record { inquired = []; asked = []; offered = []; served = []; demanded = []; gained = []; done_went = false }

abbrev pub «in» : Session → ℕ → Bool
«in» s q = eqb s.state q

abbrev pub is_slice : Content → Bool
is_slice c = leb (kind_of c) 1

-- demands that have not been met
unfoldable pub unmet : Ledger → List ℕ
unmet L = L.demanded ∖ L.gained

-- ---- what is recorded

abbrev pub demanding : List ℕ → Ledger → Ledger
demanding hs L =
    record { inquired = L.inquired; asked = L.asked; offered = L.offered; served = L.served; demanded = hs ∪ L.demanded; gained = L.gained; done_went = L.done_went }

abbrev pub serving : List ℕ → Ledger → Ledger
serving hs L =
    record { inquired = L.inquired; asked = L.asked; offered = L.offered; served = hs ∪ L.served; demanded = L.demanded; gained = L.gained; done_went = L.done_went }

abbrev pub gaining : ℕ → Ledger → Ledger
gaining h L =
    record { inquired = L.inquired; asked = L.asked; offered = L.offered; served = L.served; demanded = L.demanded; gained = insert h L.gained; done_went = L.done_went }

-- our DONE goes, or not
abbrev pub done_if : Bool → Ledger → Ledger
done_if goes L =
    record { inquired = L.inquired; asked = L.asked; offered = L.offered; served = L.served; demanded = L.demanded; gained = L.gained; done_went = goes || L.done_went }

-- ---- what a message changes that is no slice

pub record Change : Type 0 where
  pub state : ℕ
  pub ledger : Ledger
  pub far : ℕ
  pub sent : List Content
  pub due : List ℕ

-- the state stays, and no checksum is kept
abbrev pub onward : Session → Ledger → List Content → List ℕ → Change
onward s L cs hs = record { state = s.state; ledger = L; far = s.far; sent = cs; due = hs }

-- a message has come
abbrev pub turned : Session → Change → Session
turned s ch =
    record { state = ch.state; first = false; size = s.size; salt = s.salt; width = s.width; swaps = s.swaps; far = ch.far; columns = s.columns; ours = s.ours; theirs = s.theirs; ledger = ch.ledger }

abbrev pub changed : Session → Change → Outcome
changed s ch = record { session = turned s ch; sent = ch.sent; due = ch.due }

abbrev pub answer : Session → List Content → Outcome
answer s cs = record { session = s; sent = cs; due = [] }

-- what is said of a slice by its numbers, and of every other message
unfoldable pub by_slice : {A : Type 0} → Content → ((size offset salt width : ℕ) → A) → A → A
by_slice (slice size offset salt width ids hashes counts) f a = f size offset salt width
by_slice (inquiry salt xs) f a = a
by_slice (offer hs) f a = a
by_slice (demand hs) f a = a
by_slice (element bytes) f a = a
by_slice (done check) f a = a

-- ---- the grid

-- state 3: "IBF and IBF LAST only as first message since entry"
unfoldable pub admitted : Session → Content → Bool
admitted s c = entry s.state (kind_of c) && not («in» s PASSIVE && is_slice c && not s.first)

-- ---- slices and readings

-- "Slices come in offset order without a gap, with one size, salt and width. A slice the grid admits that breaks this is malformed"
unfoldable pub placed : Session → (size offset salt width : ℕ) → Bool
placed s size offset salt width =
    cond («in» s EXPECTING_LAST)
    (eqb offset 2520 && (eqb size s.size && (eqb salt s.salt && eqb width s.width)))
    (eqb offset 0)

-- "own filter due at salt + 1 (63 goes to 0) and twice the size, at most 4,096"
unfoldable pub next_salt : ℕ → ℕ
next_salt n = cond (eqb n 63) 0 (n + 1)

unfoldable pub next_size : ℕ → ℕ
next_size n = min (2 * n) 4096

-- how a reading ended, and what it lists
abbrev pub is_complete : Read → Bool
is_complete r = eqb r.answer.complete 1

abbrev pub is_false : Read → Bool
is_false r = eqb r.answer.refusal (refusal_number FalseReading)

abbrev pub ours_in : Read → List ℕ
ours_in r = take r.answer.ours r.ours

abbrev pub theirs_in : Read → List ℕ
theirs_in r = take r.answer.theirs r.theirs

-- the messages of the filter made by the rules from IDs; it is built in columns of its own
unfoldable pub own_filter : List ℕ → ℕ → ℕ → List Content
own_filter ids size salt =
    let c = filled size (filter_of (filter_rule size salt) ids) (columns (replicate 4096 0) (replicate 4096 0) (replicate 4096 (pos 0))) in
    slices_of size salt (width_for size c.counts) c

-- "IBF lays its slice in the columns at its offset and leads to 1"
unfoldable pub sliced : Session → Content → (size salt width : ℕ) → Session
sliced s c size salt width =
    record { state = EXPECTING_LAST; first = false; size = size; salt = salt; width = width; swaps = s.swaps; far = s.far; columns = laid c s.columns; ours = s.ours; theirs = s.theirs; ledger = s.ledger }

-- refusals beside which the message is acted on: none, and 6 beside a swap
abbrev pub acts : ℕ → Bool
acts n = eqb n 0 || eqb n (refusal_number FalseReading)

-- refusals that leave "columns and lists all zero" after a reading
abbrev pub clears : ℕ → Bool
clears n = eqb n (refusal_number Swaps) || eqb n (refusal_number Limit)

-- a refusal ends the session; "states 6 and 7 stay"
abbrev pub stopped : ℕ → ℕ
stopped q = cond (eqb q FINISHED) FINISHED ABORTED

-- ---- demands unmet at the end

-- an ELEMENT that leaves none, in Finish Waiting
unfoldable pub last_one : Session → Ledger → Bool
last_one s L = «in» s WAITING && is_nil (unmet L)

-- a DONE that finds one, in Passive Decoding; in Active Decoding, once our own DONE went, there is none (proofs/Lawful, none-unmet)
unfoldable pub waits : Session → Bool
waits s = «in» s PASSIVE && not (is_nil (unmet s.ledger))

module _ (derive : ℕ → ℕ) where
  unfoldable pub ids_of : List ℕ → List ℕ
  ids_of hs = map derive hs

  -- the hash with this ID
  unfoldable pub hash_of : List ℕ → ℕ → ℕ
  hash_of [] x = 0
  hash_of (h ∷ l) x = cond (eqb (derive h) x) h (hash_of l x)

module _ (derive : ℕ → ℕ) (table : List ℕ) where
  -- ---- of a ledger

  -- "'Held' means in the table or gained."
  unfoldable pub held : Ledger → List ℕ
  held L = L.gained ∪ table

  abbrev pub held_ids : Ledger → List ℕ
  held_ids L = ids_of derive (held L)

  -- "XOR of all hashes held"
  unfoldable pub checksum : Ledger → ℕ
  checksum L = foldr bit_xor 0 (held L)

  -- the IDs held or wanted: "inquired or demanded, unmet"
  unfoldable pub concerned : Ledger → List ℕ
  concerned L = held_ids L ++ (L.inquired ++ ids_of derive (unmet L))

  -- every inquired one is held
  unfoldable pub all_came : Ledger → Bool
  all_came L = all (λ x. elem x (held_ids L)) L.inquired

  unfoldable pub hashes_for : Ledger → List ℕ → List ℕ
  hashes_for L xs = map (hash_of derive (held L)) xs

  -- "IDs held are offered in the order asked, others ignored."
  unfoldable pub asks : Ledger → List ℕ → List ℕ
  asks L xs = select (λ x. elem x (held_ids L)) xs

  -- "hashes held, already demanded or repeated in the message are ignored"
  unfoldable pub new : Ledger → List ℕ → List ℕ
  new L hs = news (held L ++ L.demanded) hs

  -- after a complete reading
  abbrev pub opened : List ℕ → List ℕ → Ledger → Ledger
  opened ours theirs L =
      record { inquired = theirs ∪ []; asked = L.asked; offered = hashes_for L ours ∪ []; served = L.served; demanded = L.demanded; gained = L.gained; done_went = is_nil theirs }

  abbrev pub asking : List ℕ → Ledger → Ledger
  asking xs L =
      record { inquired = L.inquired; asked = xs ∪ L.asked; offered = hashes_for L xs ∪ L.offered; served = L.served; demanded = L.demanded; gained = L.gained; done_went = L.done_went }

  -- ---- the reading of the filter that a slice completes

  unfoldable pub reading_at : (size salt : ℕ) → Columns → List ℕ → List ℕ → Read
  reading_at size salt c o th = read_by (ids_of derive table) size salt c o th

  abbrev pub read_of : Session → Content → (size salt : ℕ) → Read
  read_of s c size salt = reading_at size salt (laid c s.columns) s.ours s.theirs

  -- ---- refusals, each by its own test

  -- 10 after a reading: "slips held plus wanted .. would pass 4,096"
  unfoldable pub too_many : Read → Bool
  too_many r = is_complete r && ltb 4096 (count (ids_of derive table ++ theirs_in r))

  -- OFFER: "In state 2 each ID left must have been inquired. No remaining hash may share its ID with another slip held, demanded or in the same message."
  unfoldable pub allowed : Session → List ℕ → Bool
  allowed s rest =
      implies («in» s ACTIVE) (all (λ h. elem (derive h) s.ledger.inquired) rest)
      && once (ids_of derive (held s.ledger ++ s.ledger.demanded)) (ids_of derive rest)

  unfoldable pub agrees : ℕ → Ledger → Bool
  agrees c L = eqb c (checksum L)

  -- what must hold of a message that the grid admits, in the order in which it is tried; h is the hash that the caller worked out for an ELEMENT
  unfoldable pub tests : ℕ → Session → Content → List (Refusal × Bool)
  tests h s (slice size offset salt width ids hashes counts) =
      let r = read_of s (slice size offset salt width ids hashes counts) size salt in
      let whole = is_last size offset in
      (Malformed, placed s size offset salt width)
      ∷ (Limit, implies whole (not (too_many r)))
      ∷ (Swaps, implies whole (is_complete r || ltb s.swaps 16))
      ∷ (FalseReading, implies whole (not (is_false r)))
      ∷ []
  tests h s (inquiry salt xs) = (Breach, eqb salt s.salt && once s.ledger.asked (asks s.ledger xs)) ∷ []
  tests h s (offer hs) =
      (Breach, allowed s (new s.ledger hs))
      ∷ (Limit, leb (count (concerned s.ledger ++ ids_of derive (new s.ledger hs))) 4096)
      ∷ []
  tests h s (demand hs) = (Breach, all (λ x. elem x s.ledger.offered) hs && once s.ledger.served hs) ∷ []
  tests h s (element bytes) =
      (Breach, elem h (unmet s.ledger))
      ∷ (Checksum, implies (last_one s (gaining h s.ledger)) (agrees s.far (gaining h s.ledger)))
      ∷ []
  tests h s (done check) =
      (OutOfTurn, implies («in» s ACTIVE) s.ledger.done_went)
      ∷ (Checksum, waits s || agrees check s.ledger)
      ∷ []

  -- its number, 0 for none; a message that the grid does not admit is out of turn
  unfoldable pub refusal : ℕ → Session → Content → ℕ
  refusal h s c = number_of (first_of ((OutOfTurn, admitted s c) ∷ tests h s c))

  -- ---- what is done

  abbrev pub own_done : Ledger → List Content
  own_done L = done (checksum L) ∷ []

  -- "Stuck or false: state 3, own filter due .."
  unfoldable pub swapped : Session → Read → (size salt : ℕ) → Outcome
  swapped s r size salt =
      answer
      (record { state = PASSIVE; first = true; size = next_size size; salt = next_salt salt; width = 0; swaps = suc s.swaps; far = s.far; columns = r.columns; ours = r.ours; theirs = r.theirs; ledger = s.ledger })
      (own_filter (ids_of derive table) (next_size size) (next_salt salt))

  -- "Complete: state 2; INQUIRY for theirs, OFFER for ours, and DONE if theirs is empty, empty messages omitted."
  unfoldable pub decoded : Session → Read → (size salt : ℕ) → Outcome
  decoded s r size salt =
      answer
      (record { state = ACTIVE; first = false; size = size; salt = salt; width = 0; swaps = s.swaps; far = s.far; columns = r.columns; ours = r.ours; theirs = r.theirs; ledger = opened (ours_in r) (theirs_in r) s.ledger })
      (inquiries_of salt (theirs_in r) ++ (offers_of (hashes_for s.ledger (ours_in r)) ++ cond (is_nil (theirs_in r)) (own_done s.ledger) []))

  unfoldable pub on_slice : Session → Content → (size offset salt width : ℕ) → Outcome
  on_slice s c size offset salt width =
      cond (is_last size offset)
      (cond (is_complete (read_of s c size salt)) (decoded s (read_of s c size salt) size salt) (swapped s (read_of s c size salt) size salt))
      (answer (sliced s c size salt width) [])

  -- ELEMENT: "it is gained. In state 2 the last inquired one met makes DONE due." "In .. 5 the last ELEMENT compares, in 5 also sends DONE. Equal: 6."
  unfoldable pub says_done : Session → Ledger → Bool
  says_done s L = («in» s ACTIVE && all_came L) || last_one s L

  -- DONE: "in 2: only after our own was sent; then .. the checksum is compared. DONE in 3: 5 if a demand is unmet, else compared, DONE sent."
  unfoldable pub change : ℕ → Session → Content → Change
  change h s (slice size offset salt width ids hashes counts) = onward s s.ledger [] []
  change h s (inquiry salt xs) =
      let ys = asks s.ledger xs in
      onward s (asking ys s.ledger) (offers_of (hashes_for s.ledger ys)) []
  change h s (offer hs) =
      let ys = new s.ledger hs in
      onward s (demanding ys s.ledger) (demands_of ys) []
  -- "the slips are to be sent in that order, and the bare hashes are written in it"
  change h s (demand hs) = onward s (serving hs s.ledger) [] hs
  change h s (element bytes) =
      let L = gaining h s.ledger in
      record { state = cond (last_one s L) FINISHED s.state; ledger = done_if (says_done s L) L; far = s.far; sent = cond (says_done s L) (own_done L) []; due = [] }
  change h s (done check) =
      let says = «in» s PASSIVE && is_nil (unmet s.ledger) in
      record {
        state = cond (waits s) WAITING FINISHED;
        ledger = done_if says s.ledger;
        far = cond (waits s) check s.far;
        sent = cond says (own_done s.ledger) [];
        due = [];
      }

  unfoldable pub act : ℕ → Session → Content → Outcome
  act h s c = by_slice c (λ size offset salt width. on_slice s c size offset salt width) (changed s (change h s c))

  -- refusals 9, and 10 after a reading: "columns and lists all zero", in the places of the filter read
  unfoldable pub cleared : Session → Read → ℕ → Session
  cleared s r size =
      record {
        state = stopped s.state;
        first = s.first;
        size = s.size;
        salt = s.salt;
        width = s.width;
        swaps = s.swaps;
        far = s.far;
        columns = filled size (λ i. 𝟎) r.columns;
        ours = listed_into size [] r.ours;
        theirs = listed_into size [] r.theirs;
        ledger = s.ledger;
      }

  -- the others: "buffers unchanged; in a session, state 7"
  abbrev pub halted : Session → Session
  halted s =
      record { state = stopped s.state; first = s.first; size = s.size; salt = s.salt; width = s.width; swaps = s.swaps; far = s.far; columns = s.columns; ours = s.ours; theirs = s.theirs; ledger = s.ledger }

  unfoldable pub refused : ℕ → Session → Content → Session
  refused n s c =
      by_slice c (λ size offset salt width. cond (clears n) (cleared s (read_of s c size salt) size) (halted s)) (halted s)

  -- a call answers `refusal h s c` and this
  unfoldable pub step : ℕ → Session → Content → Outcome
  step h s c = cond (acts (refusal h s c)) (act h s c) (answer (refused (refusal h s c) s c) [])
