-- Refusals and answers by document 01's numbers, in one place for the whole library.
--
--   refusal_number r     the number of a refusal (document 01, "Refusal numbers")
--   number_of r          the same of a refusal that may not be: 0 for none
--   first_of ts          the refusal of the first test of ts that does not hold, if there is one
--   refusal_of u         the refusal of a reading that found nothing
--   answer_of r          a reading's answer as numbers: refusal, complete, the lengths of the two lists, and the buckets looked at
--   estimate_answer e    an estimate's answer as numbers: refusal, known, and the estimate
--
-- Assumes nothing.
use Rattle.std.specs.Prelude.{Bool, cond, List, [], ◌∷◌, ℕ, Option, None, Some, Result, Ok, Err}
use Rattle.filter.specs.declared.answers.Refusal.{Refusal}
use Rattle.filter.specs.declared.answers.Refusal.TheVariants.{Form, Room, Range, Malformed, OutOfTurn, FalseReading, Breach, Checksum, Swaps, Limit}
use Rattle.filter.specs.declared.answers.Reading.{Reading}
use Rattle.filter.specs.declared.answers.Unread.{Unread}
use Rattle.filter.specs.declared.answers.Unread.TheVariants.{Untrue}
use Rattle.filter.specs.declared.answers.ReadAnswer.{ReadAnswer}
use Rattle.filter.specs.declared.answers.Estimate.{Estimate}
use Rattle.filter.specs.declared.answers.Estimate.TheVariants.{Known, Unknown}
use Rattle.filter.specs.declared.answers.EstimateAnswer.{EstimateAnswer}

abbrev pub refusal_number : Refusal → ℕ
refusal_number Form = 1
refusal_number Room = 2
refusal_number Range = 3
refusal_number Malformed = 4
refusal_number OutOfTurn = 5
refusal_number FalseReading = 6
refusal_number Breach = 7
refusal_number Checksum = 8
refusal_number Swaps = 9
refusal_number Limit = 10

abbrev pub number_of : Option Refusal → ℕ
number_of None = 0
number_of (Some r) = refusal_number r

-- tests are tried in the order in which they stand
abbrev pub first_of : List (Refusal × Bool) → Option Refusal
first_of [] = None
first_of (t ∷ ts) = cond t.1 (first_of ts) (Some t.0)

abbrev pub refusal_of : Unread → Refusal
refusal_of Unread.Form = Form
refusal_of Unread.Range = Range
refusal_of Unread.Room = Room
refusal_of (Untrue l) = FalseReading

-- a reading's answer: the refusal's number, 1 for complete, how many IDs are listed as ours and as theirs, and how many buckets were looked at
abbrev pub answer : ℕ → ℕ → ℕ → ℕ → ℕ → ReadAnswer
answer n whole a b l = record { refusal = n; complete = whole; ours = a; theirs = b; looked = l }

-- document 02, Req 11: "A reading refused with 6 returns its number too."
abbrev pub answer_of : Result Reading Unread → ReadAnswer
answer_of (Ok r) = answer (number_of None) (cond r.complete 1 0) r.ours r.theirs r.looked
answer_of (Err Unread.Form) = answer (refusal_number Form) 0 0 0 0
answer_of (Err Unread.Range) = answer (refusal_number Range) 0 0 0 0
answer_of (Err Unread.Room) = answer (refusal_number Room) 0 0 0 0
answer_of (Err (Untrue l)) = answer (refusal_number FalseReading) 0 0 0 l

-- an estimate's answer: the refusal's number, 1 for known, and the estimate, 0 where it is unknown or refused
abbrev pub estimate : ℕ → ℕ → ℕ → EstimateAnswer
estimate n k e = record { refusal = n; known = k; estimate = e }

abbrev pub made_answer : Estimate → EstimateAnswer
made_answer (Known e) = estimate (number_of None) 1 e
made_answer Unknown = estimate (number_of None) 0 0

abbrev pub estimate_answer : Result Estimate Refusal → EstimateAnswer
estimate_answer (Ok e) = made_answer e
estimate_answer (Err r) = estimate (refusal_number r) 0 0
