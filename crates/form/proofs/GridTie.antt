-- The enums of `grid` are the rows and the columns of the definition's grid. Assumes nothing.
use mathlib.Core.Path.{◌≡◌, refl, sym, ap, ◌∙◌}
use mathlib.Core.Bool.{true, false}
use Prim.Native.Nat.{ℕ}
use lib.Dec.{eqb}
use Rattle.std.specs.Result.{is_ok}
use Rattle.std.proofs.Common.{Result, Ok, Err}
use denote.Enum.Declared.{tag_of}
use Rattle.ledger.specs.Grid.{is_state, place_in, row_of}
use Rattle.bucket.specs.Lists.{elem}
use Rattle.form.specs.declared.grid.State.{State}
use Rattle.form.specs.declared.grid.State.TheVariants.{Expecting, ExpectingLast, Active, Passive, Waiting, Finished, Aborted}
use Rattle.message.specs.declared.kinds.Kind.{Kind}
use Rattle.message.specs.declared.kinds.Kind.TheVariants.{Ibf, IbfLast, Inquiry, Offer, Demand, Element, Done}
use Rattle.form.specs.contracts.grid.State as of_state
use Rattle.message.specs.contracts.kinds.Kind as of_kind
use Rattle.form.specs.declared.grid.NoState.{NoState}
use Rattle.form.specs.Grid.{column, number, IsStateOf}

pub tag-row : (q : State) → tag_of of_state.the_type q ≡ row_of (number q)
unfolding place_in
tag-row Expecting = refl
tag-row ExpectingLast = refl
tag-row Active = refl
tag-row Passive = refl
tag-row Waiting = refl
tag-row Finished = refl
tag-row Aborted = refl

pub tag-column : (k : Kind) → tag_of of_kind.the_type k ≡ column k
tag-column Ibf = refl
tag-column IbfLast = refl
tag-column Inquiry = refl
tag-column Offer = refl
tag-column Demand = refl
tag-column Element = refl
tag-column Done = refl

pub number-state : (q : State) → is_state (number q) ≡ true
unfolding elem
number-state Expecting = refl
number-state ExpectingLast = refl
number-state Active = refl
number-state Passive = refl
number-state Waiting = refl
number-state Finished = refl
number-state Aborted = refl

-- a number is converted exactly where it is a state's
pub converted : (n : ℕ) (r : Result State NoState) → IsStateOf n r → is_ok r ≡ is_state n
converted n (Ok q) h = sym (number-state q) ∙ ap is_state h
converted n (Err e) h = sym h

-- no kind's column is behind all columns
pub kind-column : (k : Kind) → eqb (column k) 7 ≡ false
kind-column Ibf = refl
kind-column IbfLast = refl
kind-column Inquiry = refl
kind-column Offer = refl
kind-column Demand = refl
kind-column Element = refl
kind-column Done = refl
