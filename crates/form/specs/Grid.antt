-- The enums of `grid` against the numbers of ledger's Grid. Assumes nothing.
--
--   column k         the column of a kind of message in the grid
--   number q         the number of a state
--   IsStateOf        what `State::try_from` answers of a number: the state that has it, and that there is none
use Rattle.std.specs.Prelude.{◌≡◌, false, ℕ, Result, MatchResult}
use Rattle.ledger.specs.Grid.{EXPECTING, EXPECTING_LAST, ACTIVE, PASSIVE, WAITING, FINISHED, ABORTED, is_state}
use Rattle.form.specs.declared.grid.State.{State}
use Rattle.form.specs.declared.grid.State.TheVariants.{Expecting, ExpectingLast, Active, Passive, Waiting, Finished, Aborted}
use Rattle.form.specs.declared.grid.NoState.{NoState}
use Rattle.message.specs.declared.kinds.Kind.{Kind}
use Rattle.message.specs.declared.kinds.Kind.TheVariants.{Ibf, IbfLast, Inquiry, Offer, Demand, Element, Done}

abbrev pub column : Kind → ℕ
column Ibf = 0
column IbfLast = 1
column Inquiry = 2
column Offer = 3
column Demand = 4
column Element = 5
column Done = 6

abbrev pub number : State → ℕ
number Expecting = EXPECTING
number ExpectingLast = EXPECTING_LAST
number Active = ACTIVE
number Passive = PASSIVE
number Waiting = WAITING
number Finished = FINISHED
number Aborted = ABORTED

abbrev pub IsStateOf : ℕ → Result State NoState → Type 0
IsStateOf n r = MatchResult r (λ q. number q ≡ n) (λ _. is_state n ≡ false)
