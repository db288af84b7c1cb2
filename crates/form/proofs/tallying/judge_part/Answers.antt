-- `tallying::judge_part` meets its contract: each test that fails is one of the form's, and where all hold the numbers are the definition's.
-- Assumes nothing.
use mathlib.Core.Path.{◌≡◌, sym, ap, ◌∙◌}
use lib.Dec.{ltb}
use Rattle.std.proofs.Common.{Some, rules, tests}
use Rattle.std.proofs.lemmas.List.Sorted.{answers_always}
use Rattle.filter.specs.Lists.{ascending}
use Rattle.filter.specs.Sets.{all}
use Rattle.form.specs.Tallies.{table_mark, record_mark, tally_by, Few, tally_of, good_tally}
use Rattle.form.proofs.AllOfLaws.{ascending_sorted}
use Rattle.form.proofs.JudgeLaws.{counts-few}
use Rattle.form.proofs.tallying.judge_part.Goals as goal
use Rattle.form.proofs.tallying.judge_part.Goals.{After-is_sorted_by, After-all_fit, After-all_fit-2, After-counted-counts}

-- the chains are the definition's tests
sorted : (c : After-is_sorted_by) → c.is_sorted_by.result ≡ ascending c.args.inquired.now
sorted c = ascending_sorted c.args.inquired.now _ (c.is_sorted_by.ensures.cases ltb (answers_always _ _ _ (λ f a r q k. search (rules, tests))))

marks : (c : After-all_fit) → c.all_fit.result ≡ all table_mark c.args.marks.now
marks c = c.all_fit.ensures table_mark (λ m b k. k)

flags : (c : After-all_fit-2) → c.all_fit-2.result ≡ all record_mark c.args.flags.now
flags c = c.all_fit-2.ensures record_mark (λ m b k. k)

pub returns-then-not-is_table : goal.returns-then-not-is_table
unfolding tally_of good_tally
returns-then-not-is_table c = rw (sym c.is_table.ensures ∙ c.if-not-is_table.true)

pub returns-then-not-is_sorted_by : goal.returns-then-not-is_sorted_by
unfolding tally_of good_tally
returns-then-not-is_sorted_by c = rw (
  sym c.is_table.ensures ∙ c.if-not-is_table.false,
  sym (sorted (goal.at.returns-then-not-is_sorted_by c).After-is_sorted_by) ∙ c.if-not-is_sorted_by.true,
)

pub returns-then-not-all_fit : goal.returns-then-not-all_fit
unfolding tally_of good_tally
returns-then-not-all_fit c = rw (
  sym c.is_table.ensures ∙ c.if-not-is_table.false,
  sym (sorted (goal.at.returns-then-not-all_fit c).After-is_sorted_by) ∙ c.if-not-is_sorted_by.false,
  sym (marks (goal.at.returns-then-not-all_fit c).After-all_fit) ∙ c.if-not-all_fit.true,
)

pub returns-then-not-all_fit-2 : goal.returns-then-not-all_fit-2
unfolding tally_of good_tally
returns-then-not-all_fit-2 c = rw (
  sym c.is_table.ensures ∙ c.if-not-is_table.false,
  sym (sorted (goal.at.returns-then-not-all_fit-2 c).After-is_sorted_by) ∙ c.if-not-is_sorted_by.false,
  sym (marks (goal.at.returns-then-not-all_fit-2 c).After-all_fit) ∙ c.if-not-all_fit.false,
  sym (flags (goal.at.returns-then-not-all_fit-2 c).After-all_fit-2) ∙ c.if-not-all_fit-2.true,
)

pub counted-counts-requires : goal.counted-counts-requires
counted-counts-requires c = (
  c.requires.0,
  sym c.is_table.ensures ∙ c.if-not-is_table.false,
  sym (sorted (goal.at.counted-counts-requires c).After-is_sorted_by) ∙ c.if-not-is_sorted_by.false,
)

-- what is counted is the definition's, and little
few : (c : After-counted-counts) → Few c.counted-counts.result
few c = let a = c.args in
    rw c.counted-counts.ensures
    (counts-few a.table.now a.known.now a.marks.now a.flags.now a.inquired.now c.requires.0 (sym c.is_table.ensures ∙ c.if-not-is_table.false) c.requires.1 c.requires.2)

pub are_in_form-requires : goal.are_in_form-requires
are_in_form-requires c = few (goal.at.are_in_form-requires c).After-counted-counts

pub tally-requires : goal.tally-requires
tally-requires c = few (goal.at.tally-requires c).After-counted-counts

pub returns-then-not-are_in_form : goal.returns-then-not-are_in_form
unfolding tally_of good_tally
returns-then-not-are_in_form c = rw (
  sym c.is_table.ensures ∙ c.if-not-is_table.false,
  sym (sorted (goal.at.returns-then-not-are_in_form c).After-is_sorted_by) ∙ c.if-not-is_sorted_by.false,
  sym (marks (goal.at.returns-then-not-are_in_form c).After-all_fit) ∙ c.if-not-all_fit.false,
  sym (flags (goal.at.returns-then-not-are_in_form c).After-all_fit-2) ∙ c.if-not-all_fit-2.false,
  ← c.counted-counts.ensures,
  sym c.are_in_form.ensures ∙ c.if-not-are_in_form.true,
)

pub returns : goal.returns
unfolding tally_of good_tally
returns c = rw (
  sym c.is_table.ensures ∙ c.if-not-is_table.false,
  sym (sorted (goal.at.returns c).After-is_sorted_by) ∙ c.if-not-is_sorted_by.false,
  sym (marks (goal.at.returns c).After-all_fit) ∙ c.if-not-all_fit.false,
  sym (flags (goal.at.returns c).After-all_fit-2) ∙ c.if-not-all_fit-2.false,
  ← c.counted-counts.ensures,
  sym c.are_in_form.ensures ∙ c.if-not-are_in_form.false,
) (ap Some (c.tally.ensures ∙ ap tally_by c.counted-counts.ensures))
