-- `filter::table::is_table` meets its contract: whole hashes, few enough, with ascending IDs are a table, and nothing else is. Assumes nothing.
use borrow.Author.Tests.{leb-true, leb-false}
use Rattle.std.proofs.Common.{◌∙◌, rules, sym, arith}
use Rattle.filter.proofs.TableLaws.{hashes-length, table_torn, table_large, table_by_ids}
use Rattle.filter.proofs.table.is_table.Goals as goal
use Rattle.filter.proofs.table.is_table.Goals.{then-table-eq0, else-table-eq0}

pub returns-then-count-le-MOST_HASHES : goal.returns-then-count-le-MOST_HASHES
returns-then-count-le-MOST_HASHES c = let t = c.args.table.now in
    elim c.if-table-eq0.branch [
      | then-table-eq0 w ↦ c.ids_ascend.ensures ∙ table_by_ids t w.if-table-eq0.true (omega (arith, hashes-length t, w.count.ensures, leb-true _ _ (sym w.value-is ∙ c.if-count-le-MOST_HASHES.true)))
      | else-table-eq0 w ↦ search rules
    ]

pub returns-else-count-le-MOST_HASHES : goal.returns-else-count-le-MOST_HASHES
returns-else-count-le-MOST_HASHES c = let t = c.args.table.now in
    elim c.if-table-eq0.branch [
      | then-table-eq0 w ↦ c.if-count-le-MOST_HASHES.false ∙ table_large t (omega (arith, hashes-length t, w.count.ensures, leb-false _ _ (sym w.value-is ∙ c.if-count-le-MOST_HASHES.false)))
      | else-table-eq0 w ↦ c.if-count-le-MOST_HASHES.false ∙ table_torn t w.if-table-eq0.false
    ]
