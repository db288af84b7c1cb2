-- The estimator (document 01, "Estimator"; document 02, Req 02): how different two tables are, before a filter's size is chosen.
--
--   estimator_rule salt     32 strata of 79 buckets as one rule: an element's places lie in its stratum
--   stratum_rule salt       the rule of one stratum, for its reading
--   in_stratum salt s l     the IDs of l that are of stratum s
--   stratum s f            the buckets of stratum s
--   with_stratum s g f      the buckets f, with g as stratum s
--   readings salt n f      how the readings of strata n − 1 down to 0 end
--   sampled total i        the estimate where stratum i is the first that is not complete, and the total is listed above it
--   estimate_of total rs    the estimate: a total listed so far, and the readings of the strata still to come, down to stratum 0
--   remaining salt n f     what is left of f when strata n − 1 and below are read, down to the first that is not complete
--   estimator_call ..       the estimator of a table in three lent columns
--   estimate_call ..        the second estimator subtracted from the first, and read
--
-- Stated over the salt, which is 0 in document 01; the stratum is then that of the ID itself (salted-none of proofs/StrataLaws).
-- Assumes nothing.
use Rattle.std.specs.Prelude.{true, ◌&&◌, cond, Option, List, [], ◌∷◌, map, ℕ, zero, suc, ◌+◌, ◌*◌, ◌/◌, ◌%◌, ◌^◌, eqb, length}
use Rattle.bucket.specs.Bucket.{Bucket, ◌⊖◌, 𝟎}
use Rattle.bucket.specs.Columns.{Columns, view}
use Rattle.bucket.specs.Counts.{stratum_of}
use Rattle.bucket.specs.Crc.{crc_of}
use Rattle.bucket.specs.Places.{places}
use Rattle.bucket.specs.Salt.{salted, unsalted}
use Rattle.filter.specs.declared.answers.Refusal.{Refusal}
use Rattle.filter.specs.declared.answers.Refusal.TheVariants.{Form, Room}
use Rattle.filter.specs.declared.answers.Verdict.{Verdict}
use Rattle.filter.specs.declared.answers.Verdict.TheVariants.{Complete, Stuck, False}
use Rattle.filter.specs.declared.answers.Estimate.{Estimate}
use Rattle.filter.specs.declared.answers.Estimate.TheVariants.{Known, Unknown}
use Rattle.filter.specs.declared.answers.EstimateAnswer.{EstimateAnswer}
use Rattle.filter.specs.Answers.{number_of, first_of, estimate, made_answer}
use Rattle.filter.specs.Lists.{select}
use Rattle.filter.specs.Table.{ids_of, is_table}
use Rattle.filter.specs.Filter.{Rule, rule, filter_of}
use Rattle.filter.specs.Peeling.{Outcome, all_zero, verdict_by, is_complete, reading}
use Rattle.filter.specs.Calls.{are_counts, has_room, filled, Build, built}

-- "32 strata of 79 buckets, salt 0, three places each. An ID's stratum is its number of trailing zero bits, at most 31."
-- Stratum 0 comes first: bucket i of stratum s is bucket 79 s + i.
abbrev pub estimator_rule : ℕ → Rule
estimator_rule salt = record {
  size = 2528;
  code = salted salt;
  decode = unsalted salt;
  places = λ w. map (λ i. 79 * stratum_of w + i) (places 3 79 (crc_of w));
  check = crc_of;
}

unfoldable pub in_stratum : ℕ → ℕ → List ℕ → List ℕ
in_stratum salt s l = select (λ a. eqb (stratum_of (salted salt a)) s) l

abbrev pub stratum_rule : ℕ → Rule
stratum_rule salt = rule 3 79 salt

unfoldable pub stratum : ℕ → (ℕ → Bucket) → ℕ → Bucket
stratum s f i = f (79 * s + i)

unfoldable pub with_stratum : ℕ → (ℕ → Bucket) → (ℕ → Bucket) → ℕ → Bucket
with_stratum s g f b = cond (eqb (b / 79) s) (g (b % 79)) (f b)

-- "The second estimator is subtracted from the first, all strata"
abbrev pub less : (ℕ → Bucket) → (ℕ → Bucket) → ℕ → Bucket
less f g b = f b ⊖ g b

-- "here there is no table, so its test is not made"
abbrev pub strata_verdict : Outcome → Verdict
strata_verdict r = verdict_by r.fine (all_zero r.rest 79) true

abbrev pub reading_at : ℕ → ℕ → (ℕ → Bucket) → Outcome
reading_at salt s f = reading (stratum_rule salt) (stratum s f)

-- "read from stratum 31 downwards"
unfoldable pub readings : ℕ → ℕ → (ℕ → Bucket) → List Outcome
readings salt zero f = []
readings salt (suc n) f = reading_at salt n f ∷ readings salt n f

-- "At the first stratum i that is not, be it stuck or false, it is the total of the strata above times 2^(i+1)"; but "if a stratum is not
-- complete and the total above it is zero, the answer is "unknown", carried as an answer of its own and never as a number" (02, Req 02)
unfoldable pub sampled : ℕ → ℕ → Estimate
sampled total i = cond (eqb total 0) Unknown (Known (total * 2 ^ (i + 1)))

-- "If all are complete the estimate is the total listed." The readings go down to stratum 0, so the number of a stratum is how many are behind it.
unfoldable pub estimate_of : ℕ → List Outcome → Estimate
estimate_of total [] = Known total
estimate_of total (r ∷ rs) = cond (is_complete (strata_verdict r)) (estimate_of (total + length r.listed) rs) (sampled total (length rs))

-- "those read are left as their readings leave them": a false one zero, as refusal 6 leaves a filter
abbrev pub left_by : Verdict → Outcome → ℕ → Bucket
left_by Complete r i = r.rest i
left_by Stuck r i = r.rest i
left_by False r i = 𝟎

abbrev pub left_at : ℕ → ℕ → (ℕ → Bucket) → ℕ → Bucket
left_at salt s f = with_stratum s (left_by (strata_verdict (reading_at salt s f)) (reading_at salt s f)) f

-- "and the strata below are not read"
unfoldable pub remaining : ℕ → ℕ → (ℕ → Bucket) → ℕ → Bucket
remaining salt zero f = f
remaining salt (suc n) f =
    cond (is_complete (strata_verdict (reading_at salt n f))) (remaining salt n (left_at salt n f)) (left_at salt n f)

-- refusals 1 (table), 2
unfoldable pub estimator_refusal : (ℕ → ℕ) → List ℕ → Columns → Option Refusal
estimator_refusal derive t c = first_of ((Form, is_table derive t) ∷ (Room, has_room 2528 c) ∷ [])

unfoldable pub estimator_call : (ℕ → ℕ) → ℕ → List ℕ → Columns → Build
estimator_call derive salt t c =
    let n = number_of (estimator_refusal derive t c) in
    built n (cond (eqb n 0) (filled 2528 (filter_of (estimator_rule salt) (ids_of derive t)) c) c)

-- refusals 1 (a COUNT of either among the first 2,528 places), 2
unfoldable pub estimate_refusal : Columns → Columns → Option Refusal
estimate_refusal a b =
    first_of (
    (Form, are_counts 2528 a.counts && are_counts 2528 b.counts)
    ∷ (Room, has_room 2528 a && has_room 2528 b)
    ∷ [])

pub record Estimated : Type 0 where
  pub answer : EstimateAnswer
  pub columns : Columns

abbrev pub estimated : EstimateAnswer → Columns → Estimated
estimated e c = record { answer = e; columns = c }

-- "in the first's columns"; the second's are lent to be read alone
unfoldable pub estimate_call : ℕ → Columns → Columns → Estimated
estimate_call salt a b =
    let n = number_of (estimate_refusal a b) in
    cond (eqb n 0)
    (estimated (made_answer (estimate_of 0 (readings salt 32 (less (view a) (view b))))) (filled 2528 (remaining salt 32 (less (view a) (view b))) a))
    (estimated (estimate n 0 0) a)
