-- The two calls of this layer (document 01, "Subtraction and reading", "Refusal numbers"): what they answer, and what every lent slice holds after them.
--
--   in_range size salt     "A filter has 37 to 4,096 buckets", "Salt is 0 to 63"
--   are_counts n cs         the first n counts, or as many as there are, lie in 0 to 2^32 − 1
--   has_room n c            each column has at least n places
--   filled n f c           the columns c with f in their first n buckets
--   listed_into n l o       the list o with l at its start and zeros behind it up to n
--   build_call ..           the filter of a table in three lent columns
--   read_by, read_call       ours minus received, peeled
--   clear_call ..           columns and lists made zero, as a false reading leaves them
--
-- Assumes nothing.
use Rattle.std.specs.Prelude.{Bool, true, false, ◌&&◌, cond, Option, List, [], ◌∷◌, reverse, ℕ, zero, suc, ◌^◌, eqb, ltb, leb, ℤ, pos, negsuc, length, take}
use Rattle.bucket.specs.Bucket.{Bucket, 𝟎}
use Rattle.bucket.specs.Columns.{Columns, view, place}
use Rattle.bucket.specs.Lists.{over, pad}
use Rattle.filter.specs.declared.answers.Refusal.{Refusal}
use Rattle.filter.specs.declared.answers.Refusal.TheVariants.{Form, Room, Range, FalseReading}
use Rattle.filter.specs.declared.answers.ReadAnswer.{ReadAnswer}
use Rattle.filter.specs.declared.answers.Verdict.{Verdict}
use Rattle.filter.specs.declared.answers.Verdict.TheVariants.{Complete, Stuck, False}
use Rattle.filter.specs.Answers.{refusal_number, number_of, first_of, answer}
use Rattle.filter.specs.Table.{ids_of, is_table}
use Rattle.filter.specs.Filter.{filter_rule, ours_of, theirs_of, filter_of, difference}
use Rattle.filter.specs.Peeling.{Outcome, reading, looked, verdict}

unfoldable pub in_range : ℕ → ℕ → Bool
in_range size salt = leb 37 size && (leb size 4096 && ltb salt 64)

abbrev pub is_count : ℤ → Bool
is_count (pos n) = ltb n (2 ^ 32)
is_count (negsuc n) = false

unfoldable pub all_counts : List ℤ → Bool
all_counts [] = true
all_counts (c ∷ cs) = is_count c && all_counts cs

abbrev pub are_counts : ℕ → List ℤ → Bool
are_counts n cs = all_counts (take n cs)

unfoldable pub has_room : ℕ → Columns → Bool
has_room n c = leb n (length c.idsums) && (leb n (length c.hashsums) && leb n (length c.counts))

unfoldable pub filled : ℕ → (ℕ → Bucket) → Columns → Columns
filled zero f c = c
filled (suc n) f c = place (filled n f c) n (f n)

unfoldable pub listed_into : ℕ → List ℕ → List ℕ → List ℕ
listed_into n l o = over 0 (pad n l) o

-- refusals 1 (table), 3, 2
unfoldable pub build_refusal : (ℕ → ℕ) → ℕ → ℕ → List ℕ → Columns → Option Refusal
build_refusal derive size salt t c =
    first_of ((Form, is_table derive t) ∷ (Range, in_range size salt) ∷ (Room, has_room size c) ∷ [])

pub record Build : Type 0 where
  pub refusal : ℕ
  pub columns : Columns

abbrev pub built : ℕ → Columns → Build
built n c = record { refusal = n; columns = c }

-- "the filter made by the rules"; a refusal leaves everything unchanged
unfoldable pub build_call : (ℕ → ℕ) → ℕ → ℕ → List ℕ → Columns → Build
build_call derive size salt t c =
    let n = number_of (build_refusal derive size salt t c) in
    built n (cond (eqb n 0) (filled size (filter_of (filter_rule size salt) (ids_of derive t)) c) c)

-- refusals 1 (table, and a COUNT among the first size places), 3, 2
unfoldable pub read_refusal : (ℕ → ℕ) → ℕ → ℕ → List ℕ → Columns → List ℕ → List ℕ → Option Refusal
read_refusal derive size salt t c o th =
    first_of (
    (Form, is_table derive t && are_counts size c.counts)
    ∷ (Range, in_range size salt)
    ∷ (Room, has_room size c && (leb size (length o) && leb size (length th)))
    ∷ [])

pub record Read : Type 0 where
  pub answer : ReadAnswer
  pub columns : Columns
  pub ours : List ℕ
  pub theirs : List ℕ

abbrev pub answered : ReadAnswer → Columns → List ℕ → List ℕ → Read
answered a c o th = record { answer = a; columns = c; ours = o; theirs = th }

-- a refusal before anything is read, and what it leaves
abbrev pub unread : ℕ → Columns → List ℕ → List ℕ → Read
unread n c o th = answered (answer n 0 0 0 0) c o th

-- "Stuck and complete leave the remaining difference in the columns, the lists in peel order, and zero in the lists after their lengths."
abbrev pub read_as : ℕ → ℕ → Outcome → ℕ → Columns → List ℕ → List ℕ → Read
read_as whole size r l c o th =
    answered
    (answer 0 whole (length (ours_of r.listed)) (length (theirs_of r.listed)) l)
    (filled size r.rest c)
    (listed_into size (reverse (ours_of r.listed)) o)
    (listed_into size (reverse (theirs_of r.listed)) th)

-- refusal 6: "columns and lists all zero", in the first size places
abbrev pub read_false : ℕ → ℕ → Columns → List ℕ → List ℕ → Read
read_false size l c o th =
    answered (answer (refusal_number FalseReading) 0 0 0 l) (filled size (λ i. 𝟎) c) (listed_into size [] o) (listed_into size [] th)

-- by the verdict; l buckets were looked at
unfoldable pub read_with : Verdict → ℕ → Outcome → ℕ → Columns → List ℕ → List ℕ → Read
read_with Complete size r l c o th = read_as 1 size r l c o th
read_with Stuck size r l c o th = read_as 0 size r l c o th
read_with False size r l c o th = read_false size l c o th

-- ours minus received, by the IDs of our table: peeled, judged, and the buckets looked at
abbrev pub subtracted : List ℕ → ℕ → ℕ → Columns → ℕ → Bucket
subtracted ids size salt c = difference (filter_rule size salt) ids (view c)

abbrev pub outcome_of : List ℕ → ℕ → ℕ → Columns → Outcome
outcome_of ids size salt c = reading (filter_rule size salt) (subtracted ids size salt c)

abbrev pub verdict_of : List ℕ → ℕ → ℕ → Columns → Verdict
verdict_of ids size salt c = verdict (filter_rule size salt) ids (outcome_of ids size salt c)

abbrev pub looked_of : List ℕ → ℕ → ℕ → Columns → ℕ
looked_of ids size salt c = looked (filter_rule size salt) (subtracted ids size salt c)

abbrev pub read_by : List ℕ → ℕ → ℕ → Columns → List ℕ → List ℕ → Read
read_by ids size salt c o th =
    read_with (verdict_of ids size salt c) size (outcome_of ids size salt c) (looked_of ids size salt c) c o th

unfoldable pub read_call : (ℕ → ℕ) → ℕ → ℕ → List ℕ → Columns → List ℕ → List ℕ → Read
read_call derive size salt t c o th =
    let n = number_of (read_refusal derive size salt t c o th) in
    cond (eqb n 0) (read_by (ids_of derive t) size salt c o th) (unread n c o th)

-- "columns and lists all zero", in the first size places; 2 where one is shorter
unfoldable pub clear_call : ℕ → Columns → List ℕ → List ℕ → Read
clear_call size c o th =
    cond (has_room size c && (leb size (length o) && leb size (length th)))
    (unread 0 (filled size (λ i. 𝟎) c) (listed_into size [] o) (listed_into size [] th))
    (unread (refusal_number Room) c o th)
