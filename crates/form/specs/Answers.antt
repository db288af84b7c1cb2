-- What the functions of numbers compute: rooms, the grid with the order of slices, and how the numbers of a session go on. Nothing here is to be
-- believed: laws of `session` tie what is made of them to ledger's Calls.
use Rattle.std.specs.Prelude.{Bool, not, ◌&&◌, cond, [], ◌∷◌, ℕ, eqb, leb}
use Rattle.filter.specs.declared.answers.Refusal.TheVariants.{Form, Room, OutOfTurn}
use Rattle.filter.specs.Answers.{number_of, first_of}
use Rattle.ledger.specs.declared.numbers.Numbers.{Numbers}
use Rattle.ledger.specs.declared.numbers.Answer.{Answer}
use Rattle.ledger.specs.Grid.{EXPECTING_LAST, ACTIVE, PASSIVE, ABORTED, is_ended, entry}
use Rattle.ledger.specs.Calls.{numbered, answered, in_state}

unfoldable pub rooms_of : (records marks inquired ids hashes counts ours theirs hash out : ℕ) → Bool
rooms_of records marks inquired ids hashes counts ours theirs hash out =
    (leb 262208 records && (leb 8192 marks && leb 4096 inquired))
    && ((leb 4096 ids && (leb 4096 hashes && leb 4096 counts)) && (leb 4096 ours && (leb 4096 theirs && (leb 64 hash && leb 295008 out))))

-- refusals 1 and 2 by their tests, and 5 of a session that has ended
unfoldable pub early_of : (good roomy : Bool) → ℕ → ℕ
early_of good roomy state = number_of (first_of ((Form, good) ∷ (Room, roomy) ∷ (OutOfTurn, not (is_ended state)) ∷ []))

-- ---- slices

-- the entry of the grid, and in state 3 "only as first message since entry"
unfoldable pub admits_slice : Numbers → ℕ → Bool
admits_slice N kind = entry N.state kind && not (eqb N.state PASSIVE && not (eqb N.first 1))

unfoldable pub is_placed : Numbers → (size offset salt width : ℕ) → Bool
is_placed N size offset salt width =
    cond (eqb N.state EXPECTING_LAST)
    (eqb offset 2520 && (eqb size N.size && (eqb salt N.salt && eqb width N.width)))
    (eqb offset 0)

-- ---- numbers

abbrev pub aborted : ℕ → Numbers → Answer
aborted n N = answered n 0 0 (in_state ABORTED N)

-- a message that is no slice has been acted on: what it makes of the state, of DONE and of the demands, and what is sent and due
abbrev pub changed : Numbers → (state went demanded sent due : ℕ) → Answer
changed N state went demanded sent due =
    answered 0 sent due (numbered state 0 N.size N.salt N.width N.swaps went demanded N.inquired)

abbrev pub sliced_numbers : Numbers → (size salt width : ℕ) → Numbers
sliced_numbers N size salt width = numbered EXPECTING_LAST 0 size salt width N.swaps N.done N.demanded N.inquired

abbrev pub opened_numbers : Numbers → (size salt went inquired : ℕ) → Numbers
opened_numbers N size salt went inquired = numbered ACTIVE 0 size salt 0 N.swaps went N.demanded inquired
