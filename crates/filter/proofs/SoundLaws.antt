-- What holds of every reading, whatever was received: what is listed and what remains make up the difference, no ID is listed twice,
-- and a complete reading has found lists that agree with the table and account for the received filter (demand 3, first half, over any rule).
-- Assumes nothing.
use mathlib.Core.Path.{◌≡◌, refl, sym, ap, ◌∙◌}
use mathlib.Core.Bool.{Bool, true, false, and-eq-true_iff}
use mathlib.Core.List.{List, [], ◌∷◌, ◌++◌, Memᴰ}
use mathlib.Core.Logic.{◌⊎◌, inl, inr}
use Prim.Native.Nat.{ℕ, zero, suc, ◌<◌}
use native.Mathlib.Nat.{not-suc-le-zero, le_of_suc-le-suc, eq-or-lt_of_le}
use Rattle.bucket.specs.Bucket.{Bucket, ◌⊕◌, ◌⊖◌, 𝟎, is_zero}
use Rattle.bucket.specs.Lists.{Distinct}
use Rattle.bucket.proofs.BucketLaws.{⊕-assoc, ⊕-comm, ⊕-left-comm, ⊕-right-comm, ⊕-idl, ⊕-idr, ⊕-cancel, neg_then, is_zero_true}
use Rattle.filter.specs.declared.answers.Verdict.TheVariants.{Complete}
use Rattle.filter.specs.Lists.{minus}
use Rattle.filter.specs.Filter.{Item, ids, ours_of, theirs_of, Rule, put, sum_at, filter_of, difference}
use Rattle.filter.specs.Peeling.{all_zero, Next, nothing, again, take, Outcome, agrees, verdict_by, remove, next, run, reading, verdict}
use Rattle.filter.proofs.SideLaws.{distinct-ours, agrees-ours, agrees-theirs}
use Rattle.filter.proofs.SumLaws.{filter_append, sum-minus, sum_sides}
use Rattle.filter.proofs.PeelLaws.{next-take}

-- ---- what the tests of a verdict say

pub all_zero_lem : (f : ℕ → Bucket) (n i : ℕ) → all_zero f n ≡ true → i < n → f i ≡ 𝟎
unfolding all_zero
all_zero_lem f zero i e h = absurd (not-suc-le-zero h)
all_zero_lem f (suc n) i e h = go (eq-or-lt_of_le (le_of_suc-le-suc h)) (all_zero_lem f n i both.1)
  where
    both : (is_zero (f n) ≡ true) × (all_zero f n ≡ true)
    both = (and-eq-true_iff (is_zero (f n)) (all_zero f n)).0 e

    go : (i ≡ n) ⊎ (i < n) → (i < n → f i ≡ 𝟎) → f i ≡ 𝟎
    go (inl p) ih = ap f p ∙ is_zero_true (f n) both.0
    go (inr p) ih = ih p

pub verdict-complete : (a b c : Bool) → verdict_by a b c ≡ Complete → (a ≡ true) × (b ≡ true) × (c ≡ true)
verdict-complete false z t e = (cc, cc, cc)
verdict-complete true false t e = (cc, cc, cc)
verdict-complete true true false e = (cc, cc, cc)
verdict-complete true true true e = (refl, refl, refl)

module _ (R : Rule) where
  -- ---- what every run keeps

  pub run-sum : (k : ℕ) (n : Next) (acc : List Item) (f : ℕ → Bucket) (i : ℕ)
      → sum_at R (run R k n acc f).listed i ⊕ (run R k n acc f).rest i ≡ sum_at R acc i ⊕ f i
  unfolding run
  run-sum zero nothing acc f i = refl
  run-sum zero again acc f i = refl
  run-sum zero (take x) acc f i = refl
  run-sum (suc k) nothing acc f i = refl
  run-sum (suc k) again acc f i = refl
  run-sum (suc k) (take x) acc f i = run-sum k (next R (x ∷ acc) (remove R x f)) (x ∷ acc) (remove R x f) i ∙ step
    where
      put_back : put R x i ⊕ remove R x f i ≡ f i
      put_back = unfold remove in (⊕-comm (put R x i) (f i ⊖ put R x i) ∙ neg_then (f i) (put R x i))

      step : sum_at R (x ∷ acc) i ⊕ remove R x f i ≡ sum_at R acc i ⊕ f i
      step = unfold sum_at in
          (⊕-assoc (put R x i) (sum_at R acc i) (remove R x f i)
          ∙ ⊕-left-comm (put R x i) (sum_at R acc i) (remove R x f i)
          ∙ ap (λ (b : Bucket). sum_at R acc i ⊕ b) put_back)

  pub run-distinct : (k : ℕ) (n : Next) (acc : List Item) (f : ℕ → Bucket) → next R acc f ≡ n → Distinct (ids acc)
      → Distinct (ids (run R k n acc f).listed)
  unfolding run
  run-distinct zero nothing acc f e d = d
  run-distinct zero again acc f e d = d
  run-distinct zero (take x) acc f e d = d
  run-distinct (suc k) nothing acc f e d = d
  run-distinct (suc k) again acc f e d = d
  run-distinct (suc k) (take x) acc f e d =
      run-distinct k (next R (x ∷ acc) (remove R x f)) (x ∷ acc) (remove R x f) refl ((next-take R acc f x e).1, d)

  pub reading-sum : (f : ℕ → Bucket) (i : ℕ) → sum_at R (reading R f).listed i ⊕ (reading R f).rest i ≡ f i
  unfolding reading sum_at
  reading-sum f i = run-sum R.size (next R [] f) [] f i ∙ ⊕-idl (f i)

  pub reading-distinct : (f : ℕ → Bucket) → Distinct (ids (reading R f).listed)
  unfolding reading
  reading-distinct f = run-distinct R.size (next R [] f) [] f refl tt

  -- ---- demand 3, first half: a complete reading

  module _ (t : List ℕ) (g : ℕ → Bucket) (v : verdict R t (reading R (difference R t g)) ≡ Complete) where
    tests : let r = reading R (difference R t g) in (r.fine ≡ true) × (all_zero r.rest R.size ≡ true) × (agrees t r.listed ≡ true)
    unfolding verdict
    tests = let r = reading R (difference R t g) in verdict-complete r.fine (all_zero r.rest R.size) (agrees t r.listed) v

    pub sound-ours : (a : ℕ) → Memᴰ a (ours_of (reading R (difference R t g)).listed) → Memᴰ a t
    sound-ours = agrees-ours t (reading R (difference R t g)).listed tests.2

    pub sound-theirs : (a : ℕ) → Memᴰ a (theirs_of (reading R (difference R t g)).listed) → Memᴰ a t → ⊥
    sound-theirs = agrees-theirs t (reading R (difference R t g)).listed tests.2

    pub sound : Distinct t → (i : ℕ) → i < R.size
        → let l = (reading R (difference R t g)).listed in g i ≡ filter_of R (minus t (ours_of l) ++ theirs_of l) i
    sound d i h = ⊕-cancel (filter_of R (ours_of l) i) (g i) (filter_of R (minus t (ours_of l) ++ theirs_of l) i) chain
      where
        f : ℕ → Bucket
        f = difference R t g

        r : Outcome
        r = reading R f

        l : List Item
        l = r.listed

        -- nothing remains, so the listed items make up the difference
        listed-sum : sum_at R l i ≡ f i
        listed-sum =
            sym (⊕-idr (sum_at R l i))
            ∙ ap (λ (b : Bucket). sum_at R l i ⊕ b) (sym (all_zero_lem r.rest R.size i tests.1 h))
            ∙ reading-sum f i

        plus : sum_at R l i ⊕ g i ≡ filter_of R t i
        plus = ap (λ (b : Bucket). b ⊕ g i) listed-sum ∙ (unfold difference in neg_then (filter_of R t i) (g i))

        chain : filter_of R (ours_of l) i ⊕ g i ≡ filter_of R (ours_of l) i ⊕ filter_of R (minus t (ours_of l) ++ theirs_of l) i
        chain =
            ap (λ (b : Bucket). b ⊕ g i) (sym (sum_sides R l i))
            ∙ ⊕-right-comm (sum_at R l i) (filter_of R (theirs_of l) i) (g i)
            ∙ ap (λ (b : Bucket). b ⊕ filter_of R (theirs_of l) i)
            (plus ∙ sum-minus R t (ours_of l) i d (distinct-ours l (reading-distinct f)) sound-ours)
            ∙ ⊕-assoc (filter_of R (ours_of l) i) (filter_of R (minus t (ours_of l)) i) (filter_of R (theirs_of l) i)
            ∙ ap (λ (b : Bucket). filter_of R (ours_of l) i ⊕ b) (sym (filter_append R (minus t (ours_of l)) (theirs_of l) i))
