-- The laws of what is known (document 02, Req 02): of the readings of strata n − 1 down to 0, with a total listed above them, when the estimate is
-- Known 0 and when Unknown; and that a stratum of zeros, and no other, is complete with nothing listed. Assumes nothing.
use mathlib.Core.Path.{◌≡◌, refl, sym, ap, ap₂, ◌∙◌}
use mathlib.Core.Logic.{◌≢◌}
use mathlib.Core.Bool.{Bool, true, false, false≢true}
use mathlib.Core.List.{List, []}
use Prim.Native.Nat.{ℕ, zero, suc, ◌+◌, ◌*◌, ◌^◌, ◌<◌}
use native.Mathlib.Nat.{mul-pos}
use native.Mathlib.Omega.{arith}
use lib.ListN.{length}
use lib.Pow.{pow_pos}
use Rattle.bucket.specs.Bucket.{Bucket, ◌⊕◌, 𝟎}
use Rattle.bucket.proofs.BucketLaws.{⊕-idl}
use Rattle.bucket.proofs.TestLaws.{each_more}
use Rattle.filter.specs.declared.answers.Verdict.{Verdict}
use Rattle.filter.specs.declared.answers.Verdict.TheVariants.{Complete, Stuck, False}
use Rattle.filter.specs.declared.answers.Estimate.TheVariants.{Known, Unknown}
use Rattle.filter.specs.Filter.{Item, sum_at}
use Rattle.filter.specs.Peeling.{Outcome, ended, all_zero, verdict_by, is_complete, is_pure}
use Rattle.filter.specs.Estimator.{stratum_rule, stratum, strata_verdict, reading_at, readings, sampled, estimate_of}
use Rattle.filter.proofs.ListLaws.{length-nil}
use Rattle.filter.proofs.PeelLaws.{impure_reading}
use Rattle.filter.proofs.SoundLaws.{all_zero_lem, verdict-complete, reading-sum}
use Rattle.filter.proofs.ExactLaws.{all_zero_of}
use Rattle.filter.proofs.StrataLaws.{sampled_cases, estimate-step}

-- ---- the estimate at a stratum that is not complete

module _ (total i : ℕ) where
  sampled_positive : sampled total i ≢ Known 0
  sampled_positive =
      sampled_cases total i (λ x. x ≢ Known 0) (λ z e. let n : ◌≡◌ {A = ℕ} 0 1 = cc in omega arith)
      (λ p e. let n : total * 2 ^ (i + 1) ≡ 0 = cc in omega (arith, n, mul-pos p (pow_pos (i + 1))))

  sampled_unknown : sampled total i ≡ Unknown → total ≡ 0
  sampled_unknown = sampled_cases total i (λ x. x ≡ Unknown → total ≡ 0) (λ z e. z) (λ p e. let n : ◌≡◌ {A = ℕ} 0 1 = cc in absurd (omega arith))

sampled_zero : (i : ℕ) → sampled 0 i ≡ Unknown
unfolding sampled
sampled_zero i = refl

-- ---- how the readings of strata n − 1 down to 0 end, a total being listed above

complete_is : (v : Verdict) → is_complete v ≡ true → v ≡ Complete
complete_is Complete e = refl
complete_is Stuck e = cc
complete_is False e = cc

module _ (salt : ℕ) (f : ℕ → Bucket) where
  -- every stratum below n is complete with nothing listed
  abbrev pub AllEmpty : ℕ → Type 0
  AllEmpty n = (i : ℕ) → i < n → (strata_verdict (reading_at salt i f) ≡ Complete) × ((reading_at salt i f).listed ≡ [])

  -- a stratum below n is not complete, and nothing is listed above it
  abbrev pub FailsUnderNone : ℕ → Type 0
  FailsUnderNone n =
      (i : ℕ) × (i < n) × (strata_verdict (reading_at salt i f) ≢ Complete) × ((j : ℕ) → i < j → j < n → (reading_at salt j f).listed ≡ [])

  -- by the verdict of stratum n, and what holds of those below it
  zero_step : (n total : ℕ) (b : Bool) → is_complete (strata_verdict (reading_at salt n f)) ≡ b
      → let more = total + length (reading_at salt n f).listed in
      (estimate_of more (readings salt n f) ≡ Known 0 → (more ≡ 0) × AllEmpty n)
      → estimate_of total (readings salt (suc n) f) ≡ Known 0 → (total ≡ 0) × AllEmpty (suc n)
  zero_step n total true t below e =
      let k = below (sym (estimate-step salt f n total true t) ∙ e) in (
        omega (arith, k.0),
        λ i h. each_more (λ m. (strata_verdict (reading_at salt m f) ≡ Complete) × ((reading_at salt m f).listed ≡ [])) n k.1
            (complete_is (strata_verdict (reading_at salt n f)) t, length-nil (reading_at salt n f).listed (omega (arith, k.0))) i (omega (arith, h)),
      )
  zero_step n total false t below e = absurd (sampled_positive total n (sym (estimate-step salt f n total false t) ∙ e))

  pub zero_from : (n total : ℕ) → estimate_of total (readings salt n f) ≡ Known 0 → (total ≡ 0) × AllEmpty n
  unfolding readings estimate_of
  zero_from zero total e = (cc, λ i h. absurd (omega (arith, h)))
  zero_from (suc n) total e = zero_step n total _ refl (zero_from n (total + length (reading_at salt n f).listed)) e

  unknown_step : (n total : ℕ) (b : Bool) → is_complete (strata_verdict (reading_at salt n f)) ≡ b
      → let more = total + length (reading_at salt n f).listed in
      (estimate_of more (readings salt n f) ≡ Unknown → (more ≡ 0) × FailsUnderNone n)
      → estimate_of total (readings salt (suc n) f) ≡ Unknown → (total ≡ 0) × FailsUnderNone (suc n)
  unknown_step n total true t below e =
      let k = below (sym (estimate-step salt f n total true t) ∙ e) in
      let above : (j : ℕ) → k.1.0 < j → j < suc n → (reading_at salt j f).listed ≡ [] = λ j h l.
      each_more (λ m. k.1.0 < m → (reading_at salt m f).listed ≡ []) n (λ m u v. k.1.3 m v u)
      (λ v. length-nil (reading_at salt n f).listed (omega (arith, k.0))) j (omega (arith, l)) h in
      (omega (arith, k.0), (k.1.0, omega (arith, k.1.1), k.1.2, above))
  unknown_step n total false t below e = (
    sampled_unknown total n (sym (estimate-step salt f n total false t) ∙ e),
    (n, omega arith, λ v. false≢true (sym t ∙ ap is_complete v), λ j h l. absurd (omega (arith, h, l))),
  )

  pub unknown_from : (n total : ℕ) → estimate_of total (readings salt n f) ≡ Unknown → (total ≡ 0) × FailsUnderNone n
  unfolding readings estimate_of
  unknown_from zero total e = let z : ◌≡◌ {A = ℕ} 0 1 = cc in absurd (omega arith)
  unknown_from (suc n) total e = unknown_step n total _ refl (unknown_from n (total + length (reading_at salt n f).listed)) e

  -- nothing is listed in stratum n, and it is complete
  pass : (n : ℕ) → strata_verdict (reading_at salt n f) ≡ Complete → (reading_at salt n f).listed ≡ []
      → estimate_of 0 (readings salt (suc n) f) ≡ estimate_of 0 (readings salt n f)
  pass n v l =
      estimate-step salt f n 0 true (ap is_complete v) ∙ ap (λ (l : List Item). estimate_of (0 + length l) (readings salt n f)) l

  pub zero_to : (n : ℕ) → AllEmpty n → estimate_of 0 (readings salt n f) ≡ Known 0
  unfolding readings estimate_of
  zero_to zero h = refl
  zero_to (suc n) h = let here = h n (omega arith) in pass n here.0 here.1 ∙ zero_to n (λ i k. h i (omega (arith, k)))

  unknown_at : (n : ℕ) (b : Bool) → is_complete (strata_verdict (reading_at salt n f)) ≡ b → (FailsUnderNone n → estimate_of 0 (readings salt n f) ≡ Unknown)
      → FailsUnderNone (suc n) → estimate_of 0 (readings salt (suc n) f) ≡ Unknown
  unknown_at n true t below (i, h, bad, above) =
      let good = complete_is (strata_verdict (reading_at salt n f)) t in
      let other : i ≢ n = λ e. bad (ap (λ (m : ℕ). strata_verdict (reading_at salt m f)) e ∙ good) in
      let lower : i < n = omega (arith, h, other) in
      pass n good (above n lower (omega arith)) ∙ below (i, lower, bad, λ j u v. above j u (omega (arith, v)))
  unknown_at n false t below k = estimate-step salt f n 0 false t ∙ sampled_zero n

  pub unknown_to : (n : ℕ) → FailsUnderNone n → estimate_of 0 (readings salt n f) ≡ Unknown
  unknown_to zero (i, h, bad, above) = absurd (omega (arith, h))
  unknown_to (suc n) k = unknown_at n _ refl (unknown_to n) k

-- ---- a stratum of zeros

module _ (salt i : ℕ) (f : ℕ → Bucket) where
  pub zeros-empty : ((j : ℕ) → j < 79 → stratum i f j ≡ 𝟎)
      → (strata_verdict (reading_at salt i f) ≡ Complete) × ((reading_at salt i f).listed ≡ [])
  zeros-empty z = (
    ap strata_verdict read ∙ ap (λ (t : Bool). verdict_by true t true) (all_zero_of (stratum i f) 79 z),
    ap (λ (r : Outcome). r.listed) read,
  )
    where
      impure : (j : ℕ) → is_pure (stratum_rule salt) j 𝟎 ≡ false
      impure j = unfold is_pure 𝟎 in refl

      read : reading_at salt i f ≡ ended true [] (stratum i f)
      read = (impure_reading (stratum_rule salt) (stratum i f) (λ j h. ap (is_pure (stratum_rule salt) j) (z j h) ∙ impure j)).0

  pub empty-zeros : strata_verdict (reading_at salt i f) ≡ Complete → (reading_at salt i f).listed ≡ [] → (j : ℕ) → j < 79 → stratum i f j ≡ 𝟎
  empty-zeros v l j h =
      sym (reading-sum (stratum_rule salt) (stratum i f) j)
      ∙ ap₂ (λ (m : List Item) (b : Bucket). sum_at (stratum_rule salt) m j ⊕ b) l
      (all_zero_lem (reading_at salt i f).rest 79 j (verdict-complete (reading_at salt i f).fine (all_zero (reading_at salt i f).rest 79) true v).1 h)
      ∙ unfold sum_at in ⊕-idl 𝟎
