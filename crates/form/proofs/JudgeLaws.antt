-- The tally of a ledger as the code makes it: IDs gathered in memory, and numbers that fit. Assumes nothing.
use mathlib.Core.Path.{◌≡◌, sym, ap, ◌∙◌}
use mathlib.Core.Bool.{true}
use mathlib.Core.List.{List}
use Prim.Native.Nat.{ℕ, ◌*◌, ◌≤◌}
use native.Mathlib.Omega.{arith}
use lib.ListN.{length, take}
use lib.Seq.{length-take-le}
use Rattle.std.proofs.lemmas.List.Sums.{count_by-le-length}
use Rattle.filter.specs.Lists.{ascending}
use Rattle.filter.specs.Table.{first_eight, hashes_of, ids_of, is_table}
use Rattle.filter.proofs.TableLaws.{hashes-length, ids-length, table-count, ids-ascending}
use Rattle.ledger.specs.Memory.{is_met}
use Rattle.form.specs.Tallies.{common, counts_of, Few}
use Rattle.form.proofs.CountLaws.{common-rest}

pub ids-count : (t : List ℕ) → length (hashes_of t) ≡ length (ids_of first_eight t)
ids-count t = hashes-length t ∙ sym (ids-length first_eight t)

pub table-few : (t : List ℕ) → is_table first_eight t ≡ true → length (hashes_of t) ≤ 4096
table-few t good = omega (arith, hashes-length t, table-count t good)

pub known-count : (n : ℕ) (records : List ℕ) → 64 * n ≤ length records → length (hashes_of (take (64 * n) records)) ≡ n
known-count n records h = omega (arith, hashes-length (take (64 * n) records), length-take-le (64 * n) records h)

pub common-few : (l m : List ℕ) → common l m ≤ length l
common-few l m = omega (arith, common-rest l m)

pub counts-few : (table known M F I : List ℕ) → is_table first_eight table ≡ true → is_table first_eight known ≡ true → length I ≤ 4096
    → length F ≡ length (hashes_of known) → Few (counts_of table known M F I)
counts-few table known M F I t k i f = record {
  elements = omega (arith, ids-count table, table-few table t);
  demanded = omega (arith, ids-count known, table-few known k);
  inquired = i;
  came = common-few I (ids_of first_eight table);
  wanted = common-few (ids_of first_eight known) I;
  met = omega (arith, f, ids-count known, count_by-le-length is_met F);
}

-- the IDs of a table, gathered
pub gathered-ascend : (t ids : List ℕ) → is_table first_eight t ≡ true → ids ≡ ids_of first_eight t → ascending ids ≡ true
gathered-ascend t ids good e = ap ascending e ∙ ids-ascending t good
