-- `tallying::judge` meets its contract: a front that is not good has no tally, and else the ledger's is the answer. Assumes nothing.
use mathlib.Core.Path.{◌≡◌, sym, ap, ◌∙◌}
use mathlib.Core.List.{[]}
use Rattle.std.specs.Option.{is_some}
use Rattle.std.proofs.Common.{Option}
use Rattle.bucket.specs.Columns.{columns}
use Rattle.ledger.specs.Calls.{Given, given, good_form}
use Rattle.filter.specs.Table.{first_eight}
use Rattle.form.specs.declared.tallying.Tally.{Tally}
use Rattle.form.proofs.JudgedLaws.{judged_in, judged_on, judged_not, judged_so, judged-form}
use Rattle.form.proofs.tallying.judge.Goals as goal
use Rattle.form.proofs.tallying.judge.Goals.{Start}

-- what is judged, of a step that is given nothing else
said : Start → Given
said c = let a = c.args in given a.numbers a.table.now a.records.now a.marks.now a.inquired.now (columns [] [] a.counts.now) [] [] [] [] []

answers : (G : Given) {r : Option Tally} → r ≡ judged_in G → (is_some r ≡ good_form first_eight G) × (r ≡ judged_in G)
answers G is = (ap is_some is ∙ judged-form G, is)

pub returns-then-not-is_good_front : goal.returns-then-not-is_good_front
unfolding said
returns-then-not-is_good_front c = let G = said (goal.at.returns-then-not-is_good_front c).Start in
    answers G (judged_not G (sym c.is_good_front.ensures ∙ c.if-not-is_good_front.true))

pub judge_ledger-requires : goal.judge_ledger-requires
unfolding said
judge_ledger-requires c = judged_on (said (goal.at.judge_ledger-requires c).Start) (sym c.is_good_front.ensures ∙ c.if-not-is_good_front.false)

pub returns : goal.returns
unfolding said
returns c = let G = said (goal.at.returns c).Start in
    answers G (c.judge_ledger.ensures ∙ judged_so G (sym c.is_good_front.ensures ∙ c.if-not-is_good_front.false))
