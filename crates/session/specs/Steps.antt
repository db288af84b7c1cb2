-- What the functions of messages that are no slices leave is the step, whatever else the step is given: cited by private contracts alone.
--
--   DoneSteps, ElementSteps   a DONE and an ELEMENT that the grid admits
--   LastSteps                 an ELEMENT of an unmet demand after which our DONE goes
--   LedgerSteps               any message that is no slice
use Rattle.std.specs.Prelude.{◌≡◌, Bool, true, List, ℕ, ◌+◌, ◌*◌, eqb, take, Some}
use Rattle.bucket.specs.Columns.{Columns}
use Rattle.bucket.specs.Digits.{joined}
use Rattle.bucket.specs.Lists.{elem, part}
use Rattle.filter.specs.Sets.{is_nil}
use Rattle.filter.specs.Table.{first_eight, hashes_of}
use Rattle.message.specs.declared.kinds.Message.{Message}
use Rattle.message.specs.Kinds.{kind_of}
use Rattle.message.specs.Layout.{element, done}
use Rattle.form.specs.Grid.{column}
use Rattle.ledger.specs.declared.numbers.Numbers.{Numbers}
use Rattle.ledger.specs.declared.numbers.Answer.{Answer}
use Rattle.ledger.specs.Grid.{ACTIVE, entry}
use Rattle.ledger.specs.Session.{Ledger, unmet, gaining, all_came, last_one, says_done}
use Rattle.ledger.specs.Calls.{Given, given, left, table_of, hash_given, session_of, step_on, step_said}
use Rattle.ledger.proofs.Sound.{Sound}
use Rattle.form.specs.declared.tallying.Tally.{Tally}
use Rattle.form.specs.Tallies.{tally_there}
use Rattle.session.specs.Moves.{place_of_hash}

-- ---- what is asked before a message's own function

-- the grid's column of a message
abbrev pub column_of : Message → ℕ
column_of m = column (kind_of m)

-- ---- DONE

-- n counts the demands that are unmet, as far as that there are none
abbrev pub Unmet : ℕ → Given → Type 0
Unmet n G = eqb n 0 ≡ is_nil (unmet (session_of first_eight G).ledger)

abbrev pub DoneSteps : Numbers → (table R M message out : List ℕ) → ℕ → Answer → (R' out' : List ℕ) → Type 0
DoneSteps N table R M message out n r R' out' =
    (I hash ours theirs : List ℕ) (cols : Columns)
    → let G = given N table R M I cols ours theirs hash message out in
    Sound G → entry N.state 6 ≡ true → Unmet n G
    → left r R' M I cols ours theirs out' ≡ step_on first_eight (done (joined 8 (part 4 64 message))) G

-- ---- ELEMENT

-- the ledger after the element that the hash given is of, and whether that was demanded and is unmet
abbrev pub gained_in : Given → Ledger
gained_in G = gaining (hash_given G) (session_of first_eight G).ledger

abbrev pub Wanted : Given → Type 0
Wanted G = elem (hash_given G) (unmet (session_of first_eight G).ledger) ≡ true

-- n counts the demands that are unmet, as far as that this is the last; k those inquired that are held, as far as that this completes them
abbrev pub LastUnmet : ℕ → Given → Type 0
LastUnmet n G = Wanted G → eqb n 1 ≡ is_nil (unmet (gained_in G))

abbrev pub LastCame : ℕ → Given → Type 0
LastCame k G = Wanted G → G.numbers.state ≡ ACTIVE → eqb (k + 1) G.numbers.inquired ≡ all_came first_eight (table_of G) (gained_in G)

abbrev pub ElementSteps : Numbers → (table R M hash out : List ℕ) → (k n : ℕ) → Answer → (M' out' : List ℕ) → Type 0
ElementSteps N table R M hash out k n r M' out' =
    (I message ours theirs bytes : List ℕ) (cols : Columns)
    → let G = given N table R M I cols ours theirs hash message out in
    Sound G → entry N.state 5 ≡ true → LastUnmet n G → LastCame k G
    → left r R M' I cols ours theirs out' ≡ step_on first_eight (element bytes) G

-- p is the place of its record
abbrev pub LastSteps : Numbers → (table R M hash out : List ℕ) → ℕ → Bool → Answer → (M' out' : List ℕ) → Type 0
LastSteps N table R M hash out p last r M' out' =
    (I message ours theirs bytes : List ℕ) (cols : Columns)
    → let G = given N table R M I cols ours theirs hash message out in
    Sound G → entry N.state 5 ≡ true → Wanted G
    → p ≡ place_of_hash first_eight (table_of G) (hashes_of (take (64 * N.demanded) R)) (hash_given G)
    → last_one (session_of first_eight G) (gained_in G) ≡ last → says_done first_eight (table_of G) (session_of first_eight G) (gained_in G) ≡ true
    → left r R M' I cols ours theirs out' ≡ step_on first_eight (element bytes) G

-- ---- all of them

abbrev pub LedgerSteps : Numbers → (table R M I hash message out : List ℕ) → Message → Tally → Answer → (R' M' out' : List ℕ) → Type 0
LedgerSteps N table R M I hash message out m T r R' M' out' =
    (ours theirs : List ℕ) (cols : Columns)
    → let G = given N table R M I cols ours theirs hash message out in
    Sound G → Some T ≡ tally_there N table R M I
    → left r R' M' I cols ours theirs out' ≡ step_said first_eight (Some m) G
