-- The premises of the exact estimate (estimates_built of EstimateExact) hold together: of three IDs that differ, two of stratum 0 that share a
-- bucket, one of stratum 3, by running the tests over every stratum; first as lists of IDs, then as tables and columns. And the estimate of
-- columns may be unknown. Assumes nothing.
use mathlib.Core.Path.{◌≡◌, refl, sym, ap, ◌∙◌, subst}
use mathlib.Core.Logic.{◌≢◌}
use mathlib.Core.Bool.{Bool, true, not}
use mathlib.Core.List.{List, [], ◌∷◌, ◌++◌, Memᴰ}
use mathlib.Core.List.Memᴰ.{head}
use mathlib.Core.List.Memᴰ.{tail}
use Prim.Native.Nat.{ℕ, ◌^◌, ◌<◌}
use native.Mathlib.Omega.{arith}
use borrow.Author.Tests.{not-true}
use lib.Count.{count_trailing_zeros}
use lib.IntN.{pos}
use lib.ListN.{length, replicate}
use Rattle.bucket.specs.Bucket.{Bucket, ◌⊕◌, neg, 𝟎, is_zero}
use Rattle.bucket.specs.Columns.{Columns, columns, view}
use Rattle.bucket.specs.Counts.{stratum_of}
use Rattle.bucket.specs.Crc.{crc_of, crc32, feed, steps, tabulated}
use Rattle.bucket.specs.Digits.{joined, groups}
use Rattle.bucket.specs.Lists.{elem, Distinct}
use Rattle.bucket.specs.Places.{draw, candidates, firsts, places_by}
use Rattle.bucket.specs.Salt.{rot, salted}
use Rattle.filter.specs.declared.answers.Verdict.TheVariants.{Complete, Stuck}
use Rattle.std.specs.Prelude.{None}
use Rattle.filter.specs.declared.answers.Estimate.TheVariants.{Known, Unknown}
use Rattle.filter.specs.Answers.{made_answer}
use Rattle.filter.specs.Lists.{rising, distinct, select, minus}
use Rattle.filter.specs.Table.{hash_at, hashes_of, first_eight, ids_of, is_table}
use Rattle.filter.specs.Filter.{Item, Rule, touches, cell, put, sum_at, load, filter_of}
use Rattle.filter.specs.Peeling.{ended, all_zero, is_pure}
use Rattle.filter.specs.Stopping.{differing, Clear, StoppingSet}
use Rattle.filter.specs.Estimator.{estimator_rule, in_stratum, stratum_rule, stratum, less, strata_verdict, reading_at, readings, estimate_of, estimator_call, estimate_refusal, estimate_call}
use Rattle.filter.specs.Calls.{all_counts, has_room}
use Rattle.filter.proofs.ClearLaws.{parts, all_below, all-below, clear_at, clear_all, clear_of, closed_at, open_all, no_stopping_of, known, Right, noted, noted-same}
use Rattle.filter.proofs.StratumLaws.{total_cong, strata_differing, estimate-listed, stratum-listed, stratum-whole}
use Rattle.filter.proofs.IdLaws.{first_eight_below}
use Rattle.filter.proofs.PeelLaws.{impure_reading}
use Rattle.filter.proofs.EstimateKnown.{unknown-exactly}
use Rattle.filter.proofs.EstimateExact.{estimates_built}

-- ---- real places: 79 buckets at salt 0, where the IDs 1 and 17 share bucket 47

real_places : List (ℕ × List ℕ)
real_places = (1, 47 ∷ 4 ∷ 61 ∷ []) ∷ (8, 75 ∷ 47 ∷ 61 ∷ []) ∷ (17, 63 ∷ 47 ∷ 41 ∷ []) ∷ []

real_checks : List (ℕ × ℕ)
real_checks = (1, 0x1225efff) ∷ (8, 0x6bf9575b) ∷ (17, 0x0f92ff9b) ∷ []

real : Rule
real = noted (stratum_rule 0) real_places real_checks

real_same : real ≡ stratum_rule 0
unfolding real real_places real_checks
real_same = noted-same (stratum_rule 0) real_places real_checks places-right checks_right
  where
    places-right : Right real_places (stratum_rule 0).places
    places-right = unfold places_by firsts candidates draw crc_of crc32 feed steps groups elem in (refl, (refl, (refl, tt)))

    checks_right : Right real_checks crc_of
    checks_right = unfold crc_of crc32 feed steps groups in (refl, (refl, (refl, tt)))

-- ---- our IDs 1 and 8, their ID 17: 1 and 17 are of stratum 0, 8 is of stratum 3

abbrev our_ids : List ℕ
our_ids = 1 ∷ 8 ∷ []

abbrev their_ids : List ℕ
their_ids = 17 ∷ []

-- what differs in stratum i
abbrev strays : ℕ → List Item
strays i = differing (in_stratum 0 i our_ids) (in_stratum 0 i their_ids)

-- in no part of it, in any stratum, does a shared bucket pass for one holding one ID or none
pub strata_clear : (i : ℕ) → i < 32 → Clear (stratum_rule 0) (differing (in_stratum 0 i (1 ∷ 8 ∷ [])) (in_stratum 0 i (17 ∷ [])))
strata_clear i h =
    subst (λ (R : Rule). Clear R (strays i)) real_same
    (clear_of real (strays i) (all-below (λ j. clear_all real (parts (strays j))) 32 i test h))
  where
    test : all_below (λ j. clear_all real (parts (strays j))) 32 ≡ true
    test =
        unfold real noted known real_places real_checks in_stratum stratum_of count_trailing_zeros differing minus select parts clear_all all_below clear_at
        is_pure load sum_at put touches cell ◌⊕◌ 𝟎 elem is_zero salted rot in refl

-- nor has any stratum a stopping set
pub strata_open : (i : ℕ) → i < 32
    → (q : Item → Bool) → StoppingSet (stratum_rule 0) (differing (in_stratum 0 i (1 ∷ 8 ∷ [])) (in_stratum 0 i (17 ∷ []))) q → ⊥
strata_open i h =
    subst (λ (R : Rule). (q : Item → Bool) → StoppingSet R (strays i) q → ⊥) real_same
    (no_stopping_of real (strays i) (all-below (λ j. open_all real (parts (strays j))) 32 i test h))
  where
    test : all_below (λ j. open_all real (parts (strays j))) 32 ≡ true
    test =
        unfold real noted known real_places real_checks in_stratum stratum_of count_trailing_zeros differing minus select parts open_all all_below closed_at
        load touches elem salted rot in refl

-- and the supposition says something: in stratum 0 one of ours and one of theirs lie in bucket 47
pub strata_shared : load (stratum_rule 0) (differing (in_stratum 0 0 (1 ∷ 8 ∷ [])) (in_stratum 0 0 (17 ∷ []))) 47 ≡ 2
strata_shared = subst (λ (R : Rule). load R (strays 0) 47 ≡ 2) real_same test
  where
    test : load real (strays 0) 47 ≡ 2
    test =
        unfold real noted known real_places real_checks in_stratum stratum_of count_trailing_zeros differing minus select load touches elem salted rot
        in refl

-- ---- so the estimate is 3, by the laws of the strata

ours_small : (a : ℕ) → Memᴰ a our_ids → a < 2 ^ 64
ours_small a (head e) = rw e (omega arith)
ours_small a (tail (head e)) = rw e (omega arith)
ours_small a (tail (tail m)) = elim m [ ]

theirs-small : (a : ℕ) → Memᴰ a their_ids → a < 2 ^ 64
theirs-small a (head e) = rw e (omega arith)
theirs-small a (tail m) = elim m [ ]

ours-distinct : Distinct our_ids
ours-distinct = unfold elem in (refl, (refl, tt))

theirs-distinct : Distinct their_ids
theirs-distinct = unfold elem in (refl, tt)

three_differ : length (differing our_ids their_ids) ≡ 3
three_differ = unfold differing minus select elem in refl

pub estimates-three :
    let R = estimator_rule 0 in
    estimate_of 0 (readings 0 32 (less (filter_of R (1 ∷ 8 ∷ [])) (filter_of R (17 ∷ [])))) ≡ Known 3
estimates-three =
    estimate-listed 0 (less f g) 32 complete
    ∙ ap Known (total_cong (λ i. length (reading_at 0 i (less f g)).listed) (λ i. length (strays i)) 32
    (λ i h. stratum-listed 0 i our_ids their_ids ours-distinct theirs-distinct ours_small theirs-small f g h (λ j k. refl) (λ j k. refl)
    (strata_clear i h) (complete i h))
    ∙ strata_differing 0 our_ids their_ids
    ∙ three_differ)
  where
    f : ℕ → Bucket
    f = filter_of (estimator_rule 0) our_ids

    g : ℕ → Bucket
    g = filter_of (estimator_rule 0) their_ids

    complete : (i : ℕ) → i < 32 → strata_verdict (reading_at 0 i (less f g)) ≡ Complete
    complete i h =
        stratum-whole 0 i our_ids their_ids ours-distinct theirs-distinct ours_small theirs-small f g h (λ j k. refl) (λ j k. refl)
        (strata_clear i h) (strata_open i h)

-- ---- the same of bytes: two tables, and their estimators in columns of 2,528 zeros

-- a hash that begins with the ID a
unfoldable pub hash_of : ℕ → List ℕ
hash_of a = groups 8 8 a ++ replicate 56 0

unfoldable pub our_table : List ℕ
our_table = hash_of 1 ++ hash_of 8

unfoldable pub their_table : List ℕ
their_table = hash_of 17

our_ids_lem : ids_of first_eight our_table ≡ our_ids
our_ids_lem = unfold our_table hash_of groups ids_of hashes_of tabulated hash_at joined first_eight in refl

their_ids_lem : ids_of first_eight their_table ≡ their_ids
their_ids_lem = unfold their_table hash_of groups ids_of hashes_of tabulated hash_at joined first_eight in refl

our_table_lem : is_table first_eight our_table ≡ true
our_table_lem = unfold our_table hash_of groups is_table ids_of hashes_of tabulated hash_at joined first_eight rising distinct elem in refl

their_table_lem : is_table first_eight their_table ≡ true
their_table_lem = unfold their_table hash_of groups is_table ids_of hashes_of tabulated hash_at joined first_eight rising distinct elem in refl

unfoldable pub blank : Columns
blank = columns (replicate 2528 0) (replicate 2528 0) (replicate 2528 (pos 0))

blank-room : has_room 2528 blank ≡ true
unfolding has_room blank
blank-room = refl

abbrev pub built_from : List ℕ → Columns
built_from t = (estimator_call first_eight 0 t blank).columns

-- every premise of estimates_built holds
pub tables_three : (estimate_call 0 (built_from our_table) (built_from their_table)).answer ≡ made_answer (Known 3)
tables_three =
    estimates_built first_eight first_eight_below 0 our_table their_table our_table_lem their_table_lem blank blank blank-room blank-room
    (λ i h. rw (our_ids_lem, their_ids_lem) (strata_clear i h))
    (λ i h. rw (our_ids_lem, their_ids_lem) (strata_open i h))
    ∙ ap (λ (n : ℕ). made_answer (Known n)) (rw (our_ids_lem, their_ids_lem) three_differ)

-- ---- a difference that is unknown: the estimators of zeros, but for a COUNT of 2 in the first place of stratum 31

unfoldable pub one_stuck : Columns
one_stuck = columns (replicate 2528 0) (replicate 2528 0) (replicate 2449 (pos 0) ++ (pos 2 ∷ replicate 78 (pos 0)))

abbrev stuck_at : ℕ → Bucket
stuck_at = stratum 31 (less (view one_stuck) (view blank))

stuck-read : reading_at 0 31 (less (view one_stuck) (view blank)) ≡ ended true [] stuck_at
stuck-read =
    (impure_reading R stuck_at (λ j h. not-true (is_pure R j (stuck_at j)) (all-below (λ i. not (is_pure R i (stuck_at i))) 79 j test h))).0
  where
    R : Rule
    R = stratum_rule 0

    test : all_below (λ i. not (is_pure (stratum_rule 0) i (stuck_at i))) 79 ≡ true
    test = unfold all_below is_pure stratum one_stuck blank view ◌⊕◌ neg in refl

pub columns_unknown : (estimate_call 0 one_stuck blank).answer ≡ made_answer Unknown
columns_unknown = (unknown-exactly 0 one_stuck blank).1 (granted, (31, omega arith, stuck, λ j h k. absurd (omega (arith, h, k))))
  where
    granted : estimate_refusal one_stuck blank ≡ None
    granted = unfold estimate_refusal all_counts has_room one_stuck blank in refl

    verdict : strata_verdict (ended true [] stuck_at) ≡ Stuck
    verdict = unfold all_zero is_zero stratum one_stuck blank view ◌⊕◌ neg in refl

    stuck : strata_verdict (reading_at 0 31 (less (view one_stuck) (view blank))) ≢ Complete
    stuck e = let z = sym (ap strata_verdict stuck-read ∙ verdict) ∙ e in let n : ◌≡◌ {A = ℕ} 0 1 = cc in omega arith
