-- The estimate of what differs, where it is exact, of the estimating call as its contract states it.
--
-- estimates_exactly: if both estimators were made by the rules from tables, and all strata are complete, and in no part of what differs in a
-- stratum does a bucket shared by several IDs pass for a bucket holding one ID or none (demand 3's supposition), then the estimate is
-- known, and the number of IDs in only one of the tables.
-- estimates_whole: the same, where no stratum has a stopping set (document 01: a knot) in place of "all strata are complete".
-- estimates_equal: the estimate of equal tables is known and 0, with no supposition (by zero-equal of EstimateKnown).
--
-- estimates_built: estimates_whole of the two calls: estimators that estimator_call built are never refused, and the answer is that number.
--
-- estimate_exact: all four, at document 01's derivation of IDs, which the exported call has. They are stated over any derivation of 64 bits
-- and any salt. Assumes nothing.
use mathlib.Core.Path.{◌≡◌, sym, ap, ◌∙◌}
use mathlib.Core.Bool.{Bool, true}
use mathlib.Core.List.{List}
use Prim.Native.Nat.{ℕ, ◌^◌, ◌<◌}
use lib.ListN.{length}
use Rattle.bucket.specs.Columns.{Columns, view}
use Rattle.std.specs.Prelude.{None}
use Rattle.filter.specs.declared.answers.Verdict.TheVariants.{Complete}
use Rattle.filter.specs.declared.answers.Estimate.TheVariants.{Known}
use Rattle.filter.specs.Answers.{made_answer}
use Rattle.filter.specs.Table.{first_eight, ids_of, is_table}
use Rattle.filter.specs.Filter.{Item, filter_of}
use Rattle.filter.specs.Stopping.{differing, Clear, StoppingSet}
use Rattle.filter.specs.Calls.{are_counts, has_room, filled}
use Rattle.filter.specs.Estimator.{
  estimator_rule,
  in_stratum,
  stratum_rule,
  less,
  strata_verdict,
  reading_at,
  estimator_refusal,
  estimator_call,
  estimate_refusal,
  estimate_call,
}
use Rattle.filter.proofs.FilledLaws.{wide_of, view-filled_in}
use Rattle.filter.proofs.IdLaws.{ids-distinct, ids-few, first_eight_below, ids-below}
use Rattle.filter.proofs.MadeLaws.{made-counts, made-room}
use Rattle.filter.proofs.EstimateKnown.{granted-answer, zero-equal}
use Rattle.filter.proofs.StratumLaws.{total_cong, estimate-listed, strata_differing, stratum-listed, stratum-whole}

-- the columns hold the estimator of a table
abbrev pub MadeFrom : (ℕ → ℕ) → ℕ → List ℕ → Columns → Type 0
MadeFrom derive salt t c = (i : ℕ) → i < 2528 → view c i ≡ filter_of (estimator_rule salt) (ids_of derive t) i

-- the IDs of stratum i in only one of two tables, each with its side
abbrev pub differing_at : (ℕ → ℕ) → ℕ → List ℕ → List ℕ → ℕ → List Item
differing_at derive salt t s i = differing (in_stratum salt i (ids_of derive t)) (in_stratum salt i (ids_of derive s))

-- ---- all strata are complete

abbrev pub EstimatesExactly : (ℕ → ℕ) → Type 0
EstimatesExactly derive =
    (salt : ℕ) (t s : List ℕ) → is_table derive t ≡ true → is_table derive s ≡ true
    → (a b : Columns) → estimate_refusal a b ≡ None → MadeFrom derive salt t a → MadeFrom derive salt s b
    → ((i : ℕ) → i < 32 → Clear (stratum_rule salt) (differing_at derive salt t s i))
    → ((i : ℕ) → i < 32 → strata_verdict (reading_at salt i (less (view a) (view b))) ≡ Complete)
    → (estimate_call salt a b).answer ≡ made_answer (Known (length (differing (ids_of derive t) (ids_of derive s))))

pub estimates_exactly : (derive : ℕ → ℕ) → ((h : ℕ) → h < 2 ^ 512 → derive h < 2 ^ 64) → EstimatesExactly derive
estimates_exactly derive bound salt t s table-t table-s a b granted made-a made-b clear complete =
    granted-answer salt a b granted
    ∙ ap made_answer (estimate-listed salt (less (view a) (view b)) 32 complete)
    ∙ ap (λ (n : ℕ). made_answer (Known n))
    (total_cong (λ i. length (reading_at salt i (less (view a) (view b))).listed) (λ i. length (differing_at derive salt t s i)) 32
    (λ i h. stratum-listed salt i (ids_of derive t) (ids_of derive s) (ids-distinct derive t table-t) (ids-distinct derive s table-s)
    (ids-below derive bound t) (ids-below derive bound s) (view a) (view b) h made-a made-b (clear i h) (complete i h))
    ∙ strata_differing salt (ids_of derive t) (ids_of derive s))

-- ---- no stratum has a stopping set

abbrev pub EstimatesWhole : (ℕ → ℕ) → Type 0
EstimatesWhole derive =
    (salt : ℕ) (t s : List ℕ) → is_table derive t ≡ true → is_table derive s ≡ true
    → (a b : Columns) → estimate_refusal a b ≡ None → MadeFrom derive salt t a → MadeFrom derive salt s b
    → ((i : ℕ) → i < 32 → Clear (stratum_rule salt) (differing_at derive salt t s i))
    → ((i : ℕ) → i < 32 → (q : Item → Bool) → StoppingSet (stratum_rule salt) (differing_at derive salt t s i) q → ⊥)
    → (estimate_call salt a b).answer ≡ made_answer (Known (length (differing (ids_of derive t) (ids_of derive s))))

pub estimates_whole : (derive : ℕ → ℕ) → ((h : ℕ) → h < 2 ^ 512 → derive h < 2 ^ 64) → EstimatesWhole derive
estimates_whole derive bound salt t s table-t table-s a b granted made-a made-b clear none =
    estimates_exactly derive bound salt t s table-t table-s a b granted made-a made-b clear
    (λ i h. stratum-whole salt i (ids_of derive t) (ids_of derive s) (ids-distinct derive t table-t) (ids-distinct derive s table-s)
    (ids-below derive bound t) (ids-below derive bound s) (view a) (view b) h made-a made-b (clear i h) (none i h))

-- ---- equal tables

abbrev pub EstimatesEqual : (ℕ → ℕ) → Type 0
EstimatesEqual derive =
    (salt : ℕ) (t : List ℕ) (a b : Columns) → estimate_refusal a b ≡ None
    → MadeFrom derive salt t a → MadeFrom derive salt t b → (estimate_call salt a b).answer ≡ made_answer (Known 0)

pub estimates_equal : (derive : ℕ → ℕ) → EstimatesEqual derive
estimates_equal derive salt t a b granted made-a made-b = (zero-equal salt a b).1 (granted, λ i h. made-a i h ∙ sym (made-b i h))

-- ---- estimators that the building call made

module _ (derive : ℕ → ℕ) (salt : ℕ) (t : List ℕ) (table : is_table derive t ≡ true) (c : Columns) (room : has_room 2528 c ≡ true) where
  built-filled : (estimator_call derive salt t c).columns ≡ filled 2528 (filter_of (estimator_rule salt) (ids_of derive t)) c
  unfolding estimator_call estimator_refusal
  built-filled = rw (table, room)

  built-from : MadeFrom derive salt t (estimator_call derive salt t c).columns
  built-from i h =
      ap (λ (d : Columns). view d i) built-filled
      ∙ view-filled_in 2528 (filter_of (estimator_rule salt) (ids_of derive t)) c i (wide_of 2528 c room) h

  built-counts : are_counts 2528 (estimator_call derive salt t c).columns.counts ≡ true
  built-counts = rw built-filled (made-counts (estimator_rule salt) (ids_of derive t) (ids-few derive t table) 2528 c (wide_of 2528 c room))

  built-room : has_room 2528 (estimator_call derive salt t c).columns ≡ true
  built-room = rw built-filled (made-room (estimator_rule salt) (ids_of derive t) (ids-few derive t table) 2528 c (wide_of 2528 c room))

abbrev pub EstimatesBuilt : (ℕ → ℕ) → Type 0
EstimatesBuilt derive =
    (salt : ℕ) (t s : List ℕ) → is_table derive t ≡ true → is_table derive s ≡ true
    → (a b : Columns) → has_room 2528 a ≡ true → has_room 2528 b ≡ true
    → ((i : ℕ) → i < 32 → Clear (stratum_rule salt) (differing_at derive salt t s i))
    → ((i : ℕ) → i < 32 → (q : Item → Bool) → StoppingSet (stratum_rule salt) (differing_at derive salt t s i) q → ⊥)
    → (estimate_call salt (estimator_call derive salt t a).columns (estimator_call derive salt s b).columns).answer
    ≡ made_answer (Known (length (differing (ids_of derive t) (ids_of derive s))))

pub estimates_built : (derive : ℕ → ℕ) → ((h : ℕ) → h < 2 ^ 512 → derive h < 2 ^ 64) → EstimatesBuilt derive
estimates_built derive bound salt t s table-t table-s a b room-a room-b clear none =
    estimates_whole derive bound salt t s table-t table-s a' b' granted (built-from derive salt t table-t a room-a)
    (built-from derive salt s table-s b room-b) clear none
  where
    a' : Columns
    a' = (estimator_call derive salt t a).columns

    b' : Columns
    b' = (estimator_call derive salt s b).columns

    granted : estimate_refusal a' b' ≡ None
    granted =
        unfold estimate_refusal in rw (
          built-counts derive salt t table-t a room-a,
          built-counts derive salt s table-s b room-b,
          built-room derive salt t table-t a room-a,
          built-room derive salt s table-s b room-b,
        )

-- ---- by document 01's derivation of IDs

pub estimate_exact : EstimatesExactly first_eight × EstimatesWhole first_eight × EstimatesEqual first_eight × EstimatesBuilt first_eight
estimate_exact = (
  estimates_exactly first_eight first_eight_below,
  estimates_whole first_eight first_eight_below,
  estimates_equal first_eight,
  estimates_built first_eight first_eight_below,
)
