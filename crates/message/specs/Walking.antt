-- A buffer walked message by message (document 01: "One buffer may hold several messages end to end").
--
--   walk_at s at       what stands at a position: a message with its place and the next position, or none; None is the end
--   behind w at       the position behind what stands there
--   whole_of s         how many messages stand end to end from the start, or how many before the first place with none
--   reader_at, next_of  a reader at a position, and its answer: what stands there, with the reader behind it
--   walk_numbers w     what stands at a position as numbers, for C
--   exactly_one s      "a session call must be given exactly one, or it is malformed"
--
-- A message that is malformed hands out no further position, so nobody walks past it. Each slice is taken alone: its order is the session's.
-- Laws (proofs/BackLaws): messages written end to end are walked one by one; exactly_one_lem: a buffer is one message exactly when the walk of it is;
-- (proofs/ThroughLaws): a buffer is walked whole exactly when it is messages in range end to end, and the count is how many.
-- Assumes nothing.
use Rattle.std.specs.Prelude.{Bool, true, false, cond, List, ℕ, zero, suc, ◌+◌, leb, length, Option, Some, None, Result, Ok, Err}
use Rattle.std.specs.Borrow.{Bor}
use Rattle.bucket.specs.Lists.{part}
use Rattle.message.specs.declared.kinds.Message.{Message}
use Rattle.message.specs.declared.kinds.MessageNumbers.{MessageNumbers}
use Rattle.message.specs.declared.reader.Reader.{Reader}
use Rattle.message.specs.declared.reader.Stop.{Stop}
use Rattle.message.specs.declared.reader.Taken.{Taken}
use Rattle.message.specs.declared.walking.Broken.{Broken}
use Rattle.message.specs.declared.walking.Found.{Found}
use Rattle.message.specs.Reading.{field, parse, numbered, numbers_of}

-- what stands at a position of a buffer, but for its end
abbrev pub Walked : Type 0
Walked = Option (Result Found Broken)

abbrev pub found : Message → ℕ → ℕ → Walked
found m start next = Some (Ok (record { message = m; start = start; next = next }))

abbrev pub broken : ℕ → Walked
broken start = Some (Err (record { start = start }))

-- a message read from start up to next, or none
abbrev pub step_of : Option Message → ℕ → ℕ → Walked
step_of (Some m) start next = found m start next
step_of None start next = broken start

-- the bytes that MSG SIZE counts from the position on, or as many as there are, read as one message
unfoldable pub walk_at : List ℕ → ℕ → Walked
walk_at s at = cond (leb (length s) at) None (step_of (parse (part at (field 2 at s) s)) at (at + field 2 at s))

abbrev pub exactly_one : List ℕ → Option Message
exactly_one s = parse s

-- the end of a message that stands at a position, or the position itself
abbrev pub behind : Walked → ℕ → ℕ
behind (Some (Ok f)) at = f.next
behind (Some (Err b)) at = at
behind None at = at

abbrev pub is_found : Walked → Bool
is_found (Some (Ok f)) = true
is_found (Some (Err b)) = false
is_found None = false

-- where the walk stopped, with count messages before it
abbrev pub stopped : ℕ → ℕ → Result ℕ Stop
stopped count start = Err (record { count = count; start = start })

-- the walk is over at w, with count messages before it
abbrev pub ended : Walked → ℕ → Result ℕ Stop
ended (Some (Ok f)) count = stopped count f.start
ended (Some (Err b)) count = stopped count b.start
ended None count = Ok count

-- the walk goes on from w, with count messages before it, for at most k messages
unfoldable pub walk_on : ℕ → List ℕ → Walked → ℕ → Result ℕ Stop
walk_on zero s w count = ended w count
walk_on (suc k) s (Some (Ok f)) count = walk_on k s (walk_at s f.next) (count + 1)
walk_on (suc k) s (Some (Err b)) count = ended (Some (Err b)) count
walk_on (suc k) s None count = ended None count

-- "is walked message by message": from the start. A message has four bytes at least, so there are no more of them than bytes
unfoldable pub whole_of : List ℕ → Result ℕ Stop
whole_of s = walk_on (length s) s (walk_at s 0) 0

-- "a small reader struct over the lent bytes with its position"
abbrev pub reader_at : Bor (List ℕ) → ℕ → Reader
reader_at src at = record { src = src; at = at }

abbrev pub next_of : Reader → Taken
next_of r =
    let w = walk_at r.src.now r.at in
    record { walked = w; rest = reader_at r.src (behind w r.at) }

-- the end is kind 1
abbrev pub walk_numbers : Walked → ℕ → MessageNumbers
walk_numbers (Some (Ok f)) at = numbers_of (Some f.message) f.start f.next
walk_numbers (Some (Err b)) at = numbers_of None b.start b.start
walk_numbers None at = numbered 0 1 0 0 0 0 0 at at
