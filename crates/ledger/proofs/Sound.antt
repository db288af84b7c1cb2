-- What the ties of the messages' turns start from: a step is given a good form and its rooms, in a state that takes messages.
use mathlib.Core.Path.{◌≡◌}
use mathlib.Core.Bool.{true, false}
use Rattle.bucket.specs.Digits.{Below}
use Rattle.filter.specs.Table.{first_eight}
use Rattle.ledger.specs.Grid.{is_ended}
use Rattle.ledger.specs.Calls.{Given, good_form, has_rooms}

pub record Sound (G : Given) : Type 0 where
  pub form : good_form first_eight G ≡ true
  pub rooms : has_rooms G ≡ true
  pub going : is_ended G.numbers.state ≡ false
  pub records-bytes : Below 8 G.records
  pub marks-bytes : Below 8 G.marks
  pub message-bytes : Below 8 G.message
