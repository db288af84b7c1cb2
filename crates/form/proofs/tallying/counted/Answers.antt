-- `tallying::counted` meets its contract: the IDs of both tables are gathered, and merged. Assumes nothing.
use mathlib.Core.Path.{◌∙◌}
use Rattle.std.proofs.Common.{rules, tests}
use Rattle.std.proofs.lemmas.Iterator.{YieldsList-from_slice}
use Rattle.std.proofs.lemmas.Iterator.Consumers.{count_from_yields_List, YieldsList-from_filter}
use Rattle.std.proofs.lemmas.List.Sums.{length-filter}
use Rattle.ledger.specs.Memory.{is_met}
use Rattle.form.specs.Tallies.{is_zero}
use Rattle.form.proofs.JudgeLaws.{table-few, gathered-ascend}
use Rattle.form.proofs.tallying.counted.Goals as goal

pub ids_into-ts-requires : goal.ids_into-ts-requires
ids_into-ts-requires c = table-few c.args.table.now c.requires.0

pub ids_into-ks-requires : goal.ids_into-ks-requires
ids_into-ks-requires c = table-few c.args.known.now c.requires.1

pub common-requires : goal.common-requires
common-requires c =
    (gathered-ascend c.args.known.now _ c.requires.1 c.ids_into-ks.ensures, gathered-ascend c.args.table.now _ c.requires.0 c.ids_into-ts.ensures)

pub common-requires-2 : goal.common-requires-2
common-requires-2 c = (c.requires.2, gathered-ascend c.args.table.now _ c.requires.0 c.ids_into-ts.ensures)

pub common-requires-3 : goal.common-requires-3
common-requires-3 c = (gathered-ascend c.args.known.now _ c.requires.1 c.ids_into-ks.ensures, c.requires.2)

pub returns : goal.returns
returns c = let flags = c.args.flags.now in
    let met = count_from_yields_List c.filter.result _ c.count.ensures.ran (YieldsList-from_filter _ is_met (YieldsList-from_slice flags cc) c.filter.ensures.closure (λ x b q k. search (rules, tests))) ∙ length-filter is_met flags in
    let unmarked = c.all_fit.ensures is_zero (λ m b k. search (rules, tests)) in
    rw (c.common.ensures, c.common-2.ensures, c.common-3.ensures, met, unmarked, c.ids_into-ts.ensures, c.ids_into-ks.ensures)
