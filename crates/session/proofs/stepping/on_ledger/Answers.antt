-- `stepping::on_ledger` meets its contract: what is screened is what the step refuses; behind that each kind's function is given what it asks for, and what
-- it leaves is what the step says. Assumes nothing.
use mathlib.Core.Path.{◌≡◌, sym, ap, subst, ◌∙◌}
use mathlib.Core.Bool.{true, not}
use mathlib.Core.List.{List}
use Prim.Native.Nat.{ℕ}
use Rattle.std.proofs.Common.{Some}
use Rattle.bucket.specs.Columns.{Columns}
use Rattle.filter.specs.Table.{first_eight}
use Rattle.bucket.proofs.TestLaws.{test_refused, test_granted}
use Rattle.message.specs.declared.kinds.Message.{Message}
use Rattle.form.specs.Grid.{column}
use Rattle.ledger.specs.Grid.{entry}
use Rattle.ledger.specs.Calls.{Given, given, step_said}
use Rattle.session.specs.Steps.{column_of}
use Rattle.session.proofs.InFormLaws.{inquiry-asks, offer-asks, demand-asks, done-asks}
use Rattle.session.proofs.ScreenLaws.{screened_tie}
use Rattle.session.proofs.LedgerTie.{inquiry-steps, offer-steps, demand-steps, element-steps, done-steps}
use Rattle.session.proofs.stepping.on_ledger.Goals as goal
use Rattle.session.proofs.stepping.on_ledger.Goals.{Else-not-admits, Start}

-- what the step is given, with columns and lists of any kind
given_at : Start → List ℕ → List ℕ → Columns → Given
given_at c ours theirs cols = let a = c.args in
    given a.numbers a.table.now a.records.now a.marks.now a.inquired.now cols ours theirs a.hash.now a.message.now a.out.now

-- behind the screen the grid admits the message
admitted : (c : Else-not-admits) → let a = c.args in entry a.numbers.state (column_of a.m) ≡ true
admitted c = test_granted (c.admits.ensures ∙ ap (entry c.args.numbers.state) (c.column.ensures ∙ ap column c.kind.ensures)) (ap not c.if-not-admits.false)

pub returns-then-not-admits : goal.returns-then-not-admits
unfolding given_at
returns-then-not-admits c = λ ours theirs cols s tally. let G = given_at (goal.at.returns-then-not-admits c).Start ours theirs cols in
    screened_tie G s c.args.m c.requires.2 (test_refused (c.admits.ensures ∙ ap (entry c.args.numbers.state) (c.column.ensures ∙ ap column c.kind.ensures)) (ap not c.if-not-admits.true))

pub on_inquiry-requires : goal.on_inquiry-requires
on_inquiry-requires c = let a = c.args in
    inquiry-asks a.numbers a.table.now a.records.now a.marks.now a.inquired.now a.hash.now a.message.now a.out.now a.m a.tally c.requires.0 c.requires.1 c.in-Inquiry.salt c.in-Inquiry.count c.in-Inquiry.is

pub on_offer-requires : goal.on_offer-requires
on_offer-requires c = let a = c.args in
    offer-asks a.numbers a.table.now a.records.now a.marks.now a.inquired.now a.hash.now a.message.now a.out.now a.m a.tally c.requires.0 c.requires.1 c.in-Offer.count c.in-Offer.is

pub on_demand-requires : goal.on_demand-requires
on_demand-requires c = let a = c.args in
    demand-asks a.numbers a.table.now a.records.now a.marks.now a.inquired.now a.hash.now a.message.now a.out.now a.m a.tally c.requires.0 c.requires.1 c.in-Demand.count c.in-Demand.is

pub on_done-requires : goal.on_done-requires
on_done-requires c = let a = c.args in
    done-asks a.numbers a.table.now a.records.now a.marks.now a.inquired.now a.hash.now a.message.now a.out.now a.m a.tally c.requires.0 c.requires.1 c.in-Done.is

pub returns-in-Inquiry : goal.returns-in-Inquiry
unfolding given_at
returns-in-Inquiry c = λ ours theirs cols s tally. let G = given_at (goal.at.returns-in-Inquiry c).Start ours theirs cols in
    let timely = subst (λ (k : Message). entry G.numbers.state (column_of k) ≡ true) c.in-Inquiry.is (admitted (goal.at.returns-in-Inquiry c).Else-not-admits) in
    inquiry-steps G s c.in-Inquiry.salt c.in-Inquiry.count (c.requires.1 ∙ ap Some c.in-Inquiry.is) timely c.on_inquiry.ensures
    ∙ ap (λ (k : Message). step_said first_eight (Some k) G) (sym c.in-Inquiry.is)

pub returns-in-Offer : goal.returns-in-Offer
unfolding given_at
returns-in-Offer c = λ ours theirs cols s tally. let G = given_at (goal.at.returns-in-Offer c).Start ours theirs cols in
    let timely = subst (λ (k : Message). entry G.numbers.state (column_of k) ≡ true) c.in-Offer.is (admitted (goal.at.returns-in-Offer c).Else-not-admits) in
    offer-steps G s c.args.tally tally c.in-Offer.count (c.requires.1 ∙ ap Some c.in-Offer.is) timely c.on_offer.ensures
    ∙ ap (λ (k : Message). step_said first_eight (Some k) G) (sym c.in-Offer.is)

pub returns-in-Demand : goal.returns-in-Demand
unfolding given_at
returns-in-Demand c = λ ours theirs cols s tally. let G = given_at (goal.at.returns-in-Demand c).Start ours theirs cols in
    let timely = subst (λ (k : Message). entry G.numbers.state (column_of k) ≡ true) c.in-Demand.is (admitted (goal.at.returns-in-Demand c).Else-not-admits) in
    demand-steps G s c.in-Demand.count (c.requires.1 ∙ ap Some c.in-Demand.is) timely c.on_demand.ensures
    ∙ ap (λ (k : Message). step_said first_eight (Some k) G) (sym c.in-Demand.is)

pub returns-in-Element : goal.returns-in-Element
unfolding given_at
returns-in-Element c = λ ours theirs cols s tally. let G = given_at (goal.at.returns-in-Element c).Start ours theirs cols in
    let timely = subst (λ (k : Message). entry G.numbers.state (column_of k) ≡ true) c.in-Element.is (admitted (goal.at.returns-in-Element c).Else-not-admits) in
    element-steps G s c.args.tally tally c.in-Element.length timely c.on_element.ensures
    ∙ ap (λ (k : Message). step_said first_eight (Some k) G) (sym c.in-Element.is)

pub returns-in-Done : goal.returns-in-Done
unfolding given_at
returns-in-Done c = λ ours theirs cols s tally. let G = given_at (goal.at.returns-in-Done c).Start ours theirs cols in
    let timely = subst (λ (k : Message). entry G.numbers.state (column_of k) ≡ true) c.in-Done.is (admitted (goal.at.returns-in-Done c).Else-not-admits) in
    done-steps G s c.args.tally tally (c.requires.1 ∙ ap Some c.in-Done.is) timely c.on_done.ensures
    ∙ ap (λ (k : Message). step_said first_eight (Some k) G) (sym c.in-Done.is)
