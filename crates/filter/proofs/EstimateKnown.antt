-- What is known of a difference (document 02, Req 02): of the estimating call as its contract states it, for every input.
--
-- zero-exactly: the answer is Known 0 exactly when every stratum was complete with nothing listed.
-- unknown-exactly: it is Unknown exactly when a stratum is not complete, be it stuck or false, and nothing is listed above it.
-- others_stay: every other estimate is document 01's, and known.
-- as_before: refusal, estimate and columns are document 01's in each case; where the answer is Unknown, the number beside it is 0.
-- zero-equal: the answer is Known 0 exactly when the two estimators are equal, bucket by bucket.
--
-- Assumes nothing.
use mathlib.Core.Path.{◌≡◌, refl, sym, ap, ◌∙◌}
use mathlib.Core.Logic.{◌≢◌, ◌↔◌}
use mathlib.Core.Bool.{Bool, true, false, cond}
use mathlib.Core.List.{List, [], ◌∷◌}
use Prim.Native.Nat.{ℕ, ◌+◌, ◌*◌, ◌/◌, ◌%◌, ◌^◌, ◌<◌}
use native.Mathlib.Nat.{zero-mul}
use native.Mathlib.Omega.{arith}
use borrow.Author.Tests.{eqb-true}
use lib.Dec.{eqb}
use lib.ListN.{length}
use Rattle.bucket.specs.Bucket.{Bucket, ◌⊕◌, ◌⊖◌, neg, 𝟎}
use Rattle.bucket.specs.Columns.{Columns, view}
use Rattle.bucket.proofs.BucketLaws.{⊕-comm, ⊕-idl, ⊕-invl, neg_then}
use Rattle.std.specs.Prelude.{None}
use Rattle.filter.specs.declared.answers.Estimate.{Estimate}
use Rattle.filter.specs.declared.answers.Estimate.TheVariants.{Known, Unknown}
use Rattle.filter.specs.declared.answers.EstimateAnswer.{EstimateAnswer}
use Rattle.filter.specs.Answers.{number_of, made_answer}
use Rattle.filter.specs.Peeling.{Outcome, is_complete}
use Rattle.filter.specs.Calls.{filled}
use Rattle.filter.specs.Estimator.{
  stratum,
  less,
  strata_verdict,
  readings,
  sampled,
  estimate_of,
  remaining,
  estimate_refusal,
  estimate_call,
}
use Rattle.filter.proofs.GrantedLaws.{number_zero}
use Rattle.filter.proofs.StrataLaws.{in_stratum_lem, sampled_cases}
use Rattle.filter.proofs.KnownLaws.{AllEmpty, FailsUnderNone, zero_from, zero_to, unknown_from, unknown_to, zeros-empty, empty-zeros}

-- ---- document 01's call, before Req 02

-- "If all are complete the estimate is the total listed. At the first stratum i that is not .. it is the total of the strata above times 2^(i+1)"
unfoldable pub estimate01 : ℕ → List Outcome → ℕ
estimate01 total [] = total
estimate01 total (r ∷ rs) =
    cond (is_complete (strata_verdict r)) (estimate01 (total + length r.listed) rs) (total * 2 ^ (length rs + 1))

-- refusal, estimate, columns
unfoldable pub estimate_call01 : ℕ → Columns → Columns → ℕ × ℕ × Columns
estimate_call01 salt a b =
    let n = number_of (estimate_refusal a b) in
    cond (eqb n 0)
    (0, estimate01 0 (readings salt 32 (less (view a) (view b))), filled 2528 (remaining salt 32 (less (view a) (view b))) a)
    (n, 0, a)

number-sampled : (total i : ℕ) → (made_answer (sampled total i)).estimate ≡ total * 2 ^ (i + 1)
number-sampled total i =
    sampled_cases total i (λ x. (made_answer x).estimate ≡ total * 2 ^ (i + 1)) (λ z. rw z (sym (zero-mul (2 ^ (i + 1))))) (λ p. refl)

-- the number beside the answer is document 01's in each case
number_01 : (total : ℕ) (rs : List Outcome) → (made_answer (estimate_of total rs)).estimate ≡ estimate01 total rs
unfolding estimate_of estimate01
number_01 total [] = refl
number_01 total (r ∷ rs) = by (is_complete (strata_verdict r)) (number_01 (total + length r.listed) rs)
  where
    more : Estimate
    more = estimate_of (total + length r.listed) rs

    by : (b : Bool) → (made_answer more).estimate ≡ estimate01 (total + length r.listed) rs
        → (made_answer (cond b more (sampled total (length rs)))).estimate
        ≡ cond b (estimate01 (total + length r.listed) rs) (total * 2 ^ (length rs + 1))
    by true h = h
    by false h = number-sampled total (length rs)

-- ---- the call

none : (e : Estimate) → (made_answer e).refusal ≡ 0
none (Known n) = refl
none Unknown = refl

module _ (salt : ℕ) (a b : Columns) where
  abbrev d : ℕ → Bucket
  d = less (view a) (view b)

  pub granted-answer : estimate_refusal a b ≡ None → (estimate_call salt a b).answer ≡ made_answer (estimate_of 0 (readings salt 32 d))
  unfolding estimate_call
  granted-answer g = rw g refl

  -- an answer that is not refused was granted
  granted : (e : Estimate) → (estimate_call salt a b).answer ≡ made_answer e → estimate_refusal a b ≡ None
  unfolding estimate_call
  granted e h = by (eqb number 0) refl
    where
      number : ℕ
      number = number_of (estimate_refusal a b)

      by : (t : Bool) → eqb number 0 ≡ t → estimate_refusal a b ≡ None
      by true t = number_zero (estimate_refusal a b) (eqb-true number 0 t)
      by false t = number_zero (estimate_refusal a b) (sym (rw t refl) ∙ ap (λ (x : EstimateAnswer). x.refusal) h ∙ none e)

  made : (e : Estimate) → (estimate_call salt a b).answer ≡ made_answer e → estimate_of 0 (readings salt 32 (less (view a) (view b))) ≡ e
  made e h = same (estimate_of 0 (readings salt 32 (less (view a) (view b)))) e (sym (granted-answer (granted e h)) ∙ h)
    where
      same : (x y : Estimate) → made_answer x ≡ made_answer y → x ≡ y
      same (Known n) (Known m) k = ap Known (ap (λ (x : EstimateAnswer). x.estimate) k)
      same (Known n) Unknown k = let z : ◌≡◌ {A = ℕ} 1 0 = ap (λ (x : EstimateAnswer). x.known) k in absurd (omega (arith, z))
      same Unknown (Known m) k = let z : ◌≡◌ {A = ℕ} 0 1 = ap (λ (x : EstimateAnswer). x.known) k in absurd (omega (arith, z))
      same Unknown Unknown k = refl

  module _ (g : estimate_refusal a b ≡ None) where
    answered : {e : Estimate} → estimate_of 0 (readings salt 32 (less (view a) (view b))) ≡ e → (estimate_call salt a b).answer ≡ made_answer e
    answered h = granted-answer g ∙ ap made_answer h

  pub zero-exactly :
      ((estimate_call salt a b).answer ≡ made_answer (Known 0))
      ↔ ((estimate_refusal a b ≡ None) × AllEmpty salt (less (view a) (view b)) 32)
  zero-exactly = (λ h. (granted (Known 0) h, (zero_from salt d 32 0 (made (Known 0) h)).1), λ k. answered k.0 (zero_to salt d 32 k.1))

  pub unknown-exactly :
      ((estimate_call salt a b).answer ≡ made_answer Unknown)
      ↔ ((estimate_refusal a b ≡ None) × FailsUnderNone salt (less (view a) (view b)) 32)
  unknown-exactly = (λ h. (granted Unknown h, (unknown_from salt d 32 0 (made Unknown h)).1), λ k. answered k.0 (unknown_to salt d 32 k.1))

  pub others_stay : estimate_refusal a b ≡ None → (estimate_call salt a b).answer ≢ made_answer Unknown
      → (estimate_call salt a b).answer ≡ made_answer (Known (estimate01 0 (readings salt 32 (less (view a) (view b)))))
  others_stay g h =
      granted-answer g ∙ known (estimate_of 0 (readings salt 32 d)) (λ e. h (answered g e)) ∙ ap (λ n. made_answer (Known n)) (number_01 0 (readings salt 32 d))
    where
      known : (x : Estimate) → x ≢ Unknown → made_answer x ≡ made_answer (Known (made_answer x).estimate)
      known (Known n) k = refl
      known Unknown k = absurd (k refl)

  pub as_before :
      let c = estimate_call salt a b in
      ◌≡◌ {A = ℕ × ℕ × Columns} (c.answer.refusal, c.answer.estimate, c.columns) (estimate_call01 salt a b)
  unfolding estimate_call estimate_call01
  as_before = by (eqb number 0) refl
    where
      number : ℕ
      number = number_of (estimate_refusal a b)

      by : (t : Bool) → eqb number 0 ≡ t
          → ◌≡◌ {A = ℕ × ℕ × Columns}
          ((estimate_call salt a b).answer.refusal, (estimate_call salt a b).answer.estimate, (estimate_call salt a b).columns) (estimate_call01 salt a b)
      by true t =
          rw t (λ k. (none (estimate_of 0 (readings salt 32 d)) k, number_01 0 (readings salt 32 d) k, filled 2528 (remaining salt 32 d) a))
      by false t = rw t refl

  pub zero-equal :
      ((estimate_call salt a b).answer ≡ made_answer (Known 0))
      ↔ ((estimate_refusal a b ≡ None) × ((i : ℕ) → i < 2528 → view a i ≡ view b i))
  unfolding stratum
  zero-equal = (λ h. ((zero-exactly.0 h).0, equal (zero-exactly.0 h).1), λ k. zero-exactly.1 (k.0, λ i h. zeros-empty salt i d (zeros k.1 i h)))
    where
      equal : AllEmpty salt d 32 → (i : ℕ) → i < 2528 → view a i ≡ view b i
      equal all i h =
          let s : i / 79 < 32 = omega (arith, h) in
          let j : i % 79 < 79 = omega arith in
          sym (neg_then (view a i) (view b i))
          ∙ ap (λ (x : Bucket). x ⊕ view b i)
          (ap d (in_stratum_lem (i / 79) i refl) ∙ empty-zeros salt (i / 79) d (all (i / 79) s).0 (all (i / 79) s).1 (i % 79) j)
          ∙ ⊕-idl (view b i)

      zeros : ((i : ℕ) → i < 2528 → view a i ≡ view b i) → (i : ℕ) → i < 32 → (j : ℕ) → j < 79 → stratum i d j ≡ 𝟎
      zeros e i h j k =
          let p = 79 * i + j in
          ap (λ (x : Bucket). x ⊖ view b p) (e p (omega (arith, h, k))) ∙ ⊕-comm (view b p) (neg (view b p)) ∙ ⊕-invl (view b p)
