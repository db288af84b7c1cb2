-- What a reading in a session lists and answers: how many, where they stand, and that ours are the table's. Assumes nothing.
use mathlib.Core.Path.{◌≡◌, refl, sym}
use mathlib.Core.Bool.{true, cond}
use mathlib.Core.List.{List, reverse}
use Prim.Native.Nat.{ℕ, ◌≤◌}
use native.Mathlib.Omega.{arith}
use lib.Dec.{eqb}
use lib.ListN.{length, length-append, length-reverse}
use lib.Seq.{length-take-le}
use Rattle.bucket.specs.Columns.{Columns}
use Rattle.bucket.specs.Lists.{over, pad}
use Rattle.std.specs.Prelude.{None}
use Rattle.filter.specs.declared.answers.Verdict.{Verdict}
use Rattle.filter.specs.declared.answers.Verdict.TheVariants.{Complete, Stuck, False}
use Rattle.filter.specs.Calls.{Read, listed_into, read_refusal, read_with, subtracted, outcome_of, verdict_of, looked_of, read_call}
use Rattle.filter.specs.Filter.{ours_of, theirs_of, filter_rule}
use Rattle.filter.specs.Peeling.{Outcome}
use Rattle.filter.specs.Table.{first_eight, hashes_of, is_table}
use Rattle.filter.proofs.PeelLaws.{listed-few}
use Rattle.filter.proofs.SideLaws.{ours-few, theirs-few}
use Rattle.filter.specs.Sets.{within}
use Rattle.ledger.specs.Session.{is_complete, ours_in, theirs_in, ids_of, reading_at}
use Rattle.session.specs.Ready.{Opens}
use Rattle.filter.proofs.ListLaws.{of_within}
use Rattle.ledger.proofs.ReadingLaws.{read-law, reading-granted}

-- what a reading of a filter with size places answers and lists
pub record Listing (size : ℕ) (r : Read) : Type 0 where
  pub ours-few : r.answer.ours ≤ size
  pub ours-there : r.answer.ours ≤ length r.ours
  pub theirs-few : r.answer.theirs ≤ size
  pub theirs-there : r.answer.theirs ≤ length r.theirs
  -- it refuses nothing, or is false
  pub refuses : cond (eqb r.answer.refusal 6) 6 0 ≡ r.answer.refusal

-- a list stands in the memory that it is put into
listed-there : (n : ℕ) (l o : List ℕ) → length l ≤ length (listed_into n (reverse l) o)
unfolding listed_into over pad
listed-there n l o = simp (length-append, length-reverse) (omega arith)

listing_with : (size : ℕ) (v : Verdict) (r : Outcome) (l : ℕ) (c : Columns) (o th : List ℕ) → length r.listed ≤ size → Listing size (read_with v size r l c o th)
unfolding read_with
listing_with size Complete r l c o th h = record {
  ours-few = omega (arith, h, ours-few r.listed);
  ours-there = listed-there size (ours_of r.listed) o;
  theirs-few = omega (arith, h, theirs-few r.listed);
  theirs-there = listed-there size (theirs_of r.listed) th;
  refuses = refl;
}
listing_with size Stuck r l c o th h = record {
  ours-few = omega (arith, h, ours-few r.listed);
  ours-there = listed-there size (ours_of r.listed) o;
  theirs-few = omega (arith, h, theirs-few r.listed);
  theirs-there = listed-there size (theirs_of r.listed) th;
  refuses = refl;
}
listing_with size False r l c o th h =
    record { ours-few = omega arith; ours-there = omega arith; theirs-few = omega arith; theirs-there = omega arith; refuses = refl }

module _ (derive : ℕ → ℕ) (t : List ℕ) (size salt : ℕ) (c : Columns) (o th : List ℕ) where
  pub listing : Listing size (reading_at derive t size salt c o th)
  unfolding reading_at
  listing =
      listing_with size (verdict_of (ids_of derive t) size salt c) (outcome_of (ids_of derive t) size salt c) (looked_of (ids_of derive t) size salt c) c o th
      (listed-few (filter_rule size salt) (subtracted (ids_of derive t) size salt c))

  pub ours-count : length (ours_in (reading_at derive t size salt c o th)) ≡ (reading_at derive t size salt c o th).answer.ours
  ours-count = length-take-le (reading_at derive t size salt c o th).answer.ours (reading_at derive t size salt c o th).ours listing.ours-there

  pub theirs-count : length (theirs_in (reading_at derive t size salt c o th)) ≡ (reading_at derive t size salt c o th).answer.theirs
  theirs-count = length-take-le (reading_at derive t size salt c o th).answer.theirs (reading_at derive t size salt c o th).theirs listing.theirs-there

-- ---- over a table of bytes

module _ (size salt : ℕ) (table : List ℕ) (c : Columns) (o th : List ℕ) where
  pub ours-held : is_complete (reading_at first_eight (hashes_of table) size salt c o th) ≡ true
      → within (ours_in (reading_at first_eight (hashes_of table) size salt c o th)) (Rattle.filter.specs.Table.ids_of first_eight table) ≡ true
  unfolding ids_of Rattle.filter.specs.Table.ids_of
  ours-held e =
      of_within (ours_in (reading_at first_eight (hashes_of table) size salt c o th)) (Rattle.filter.specs.Table.ids_of first_eight table)
      (read-law first_eight (hashes_of table) size salt c o th e).ours_held

  pub reading-opens : is_table first_eight table ≡ true → is_complete (reading_at first_eight (hashes_of table) size salt c o th) ≡ true
      → (marks : List ℕ) → 8192 ≤ length marks → Opens table (ours_in (reading_at first_eight (hashes_of table) size salt c o th)) marks
  reading-opens g e marks h = record { table-good = g; ours-held = ours-held e; marks-room = h }

  -- a call of filter's that is not refused
  pub call_reads : read_refusal first_eight size salt table c o th ≡ None
      → read_call first_eight size salt table c o th ≡ reading_at first_eight (hashes_of table) size salt c o th
  call_reads e = sym (reading-granted first_eight size salt table c o th e)
