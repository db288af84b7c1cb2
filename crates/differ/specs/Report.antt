-- What `differ` prints for an input (document 01, "Numbers to check", the last item), by the two calls of the layer `filter`.
--
--   size_of, count_a, count_b    the three numbers at the head of an input
--   is_input input             the counts are within the limit, and no byte is missing or left over
--   table_a, table_b            the hashes of our table and of the received one
--   received size b           the filter of the received table, in columns of 512 zeros
--   our_reading size a b      our reading of it, into lists of 512 zeros
--   shown size r              what a reading prints
--   compared size a b         what two tables print at a size
--   printed input             what an input prints
--   Reports input l r m       the memory l with that text written into it is m, and r is the text's length; nothing is written where l is short
--
-- Room for 16,384 bytes is room for every text: no more IDs are listed than there are buckets.
-- Laws (proofs/ReportLaws, RefusalLaws): few-listed, listing-fits; result-refusal: behind the tests of `compared`, only 6 is left to refuse.
-- Assumes nothing.
use Rattle.std.specs.Prelude.{◌≡◌, Bool, ◌&&◌, cond, List, ℕ, ◌+◌, ◌*◌, ◌≤◌, ◌<◌, eqb, leb, pos, length, take, replicate}
use Rattle.bucket.specs.Columns.{Columns, columns}
use Rattle.bucket.specs.Digits.{joined}
use Rattle.bucket.specs.Lists.{part}
use Rattle.filter.specs.Table.{first_eight, is_table}
use Rattle.filter.specs.Calls.{Read, build_call, read_call}
use Rattle.differ.specs.Text.{listing, refusal, Writes}

-- "size, count A, count B (two bytes each, network order ..)"
abbrev pub field : ℕ → List ℕ → ℕ
field at input = joined 8 (part at 2 input)

abbrev pub size_of : List ℕ → ℕ
size_of input = field 0 input

abbrev pub count_a : List ℕ → ℕ
count_a input = field 2 input

abbrev pub count_b : List ℕ → ℕ
count_b input = field 4 input

-- ".. counts together at most 1,000) and the hashes"
unfoldable pub is_input : List ℕ → Bool
is_input input = leb (count_a input + count_b input) 1000 && eqb (length input) (6 + 64 * (count_a input + count_b input))

abbrev pub table_a : List ℕ → List ℕ
table_a input = part 6 (64 * count_a input) input

abbrev pub table_b : List ℕ → List ℕ
table_b input = part (6 + 64 * count_a input) (64 * count_b input) input

abbrev pub blank : Columns
blank = columns (replicate 512 0) (replicate 512 0) (replicate 512 (pos 0))

unfoldable pub received : ℕ → List ℕ → Columns
received size b = (build_call first_eight size 0 b blank).columns

unfoldable pub our_reading : ℕ → List ℕ → List ℕ → Read
our_reading size a b = read_call first_eight size 0 a (received size b) (replicate 512 0) (replicate 512 0)

-- a refusal's number, or the IDs listed
unfoldable pub shown : ℕ → Read → List ℕ
shown size r =
    cond (eqb r.answer.refusal 0)
    (listing size r.answer.complete (take r.answer.ours r.ours) (take r.answer.theirs r.theirs))
    (refusal r.answer.refusal)

-- "1 for .. a bad table, then 3 for the size, then 6"
unfoldable pub compared : ℕ → List ℕ → List ℕ → List ℕ
compared size a b =
    cond (is_table first_eight a && is_table first_eight b)
    (cond (leb 37 size && leb size 512) (shown size (our_reading size a b)) (refusal 3))
    (refusal 1)

-- "1 for bytes missing or left over, counts above the limit"
unfoldable pub printed : List ℕ → List ℕ
printed input = cond (is_input input) (compared (size_of input) (table_a input) (table_b input)) (refusal 1)

pub record Reports (input l : List ℕ) (r : ℕ) (m : List ℕ) : Type 0 where
  pub written : 16384 ≤ length l → Writes 0 (printed input) l r m
  pub unwritten : length l < 16384 → (r ≡ 0) × (m ≡ l)
