-- The laws of an estimator's strata: which buckets are whose, one stratum put in the place of another, and that readings, the estimate and what
-- is left go by the buckets of their own strata alone. Assumes nothing.
use mathlib.Core.Path.{◌≡◌, refl, sym, ap, ap₂, ◌∙◌, fun_ext}
use mathlib.Core.Logic.{◌≢◌}
use mathlib.Core.Bool.{Bool, true, false, ◌&&◌, ◌||◌, cond, false≢true}
use mathlib.Core.List.{List, [], ◌∷◌, map}
use Prim.Native.Nat.{ℕ, zero, suc, ◌+◌, ◌*◌, ◌/◌, ◌%◌, ◌^◌, ◌≤◌, ◌<◌}
use native.Mathlib.Omega.{arith}
use borrow.Author.Tests.{eqb-true, eqb-false, eq-eqb, ne_eqb, ltb-true, ltb-false}
use lib.Dec.{eqb, ltb}
use lib.ListN.{length}
use Rattle.bucket.specs.Bucket.{Bucket}
use Rattle.bucket.specs.Columns.{Columns, view}
use Rattle.bucket.specs.Lists.{elem}
use Rattle.bucket.specs.Salt.{rot, salted}
use Rattle.bucket.proofs.ListLaws.{elem-nil, elem_cases, elem-head, elem_tail}
use Rattle.filter.specs.declared.answers.Estimate.{Estimate}
use Rattle.filter.specs.declared.answers.Estimate.TheVariants.{Known, Unknown}
use Rattle.filter.specs.declared.answers.Verdict.{Verdict}
use Rattle.filter.specs.declared.answers.Verdict.TheVariants.{Complete, Stuck, False}
use Rattle.filter.specs.Filter.{Item}
use Rattle.filter.specs.Peeling.{Outcome, verdict_by, is_complete}
use Rattle.filter.specs.Calls.{filled}
use Rattle.filter.specs.Estimator.{
  stratum_rule,
  stratum,
  with_stratum,
  strata_verdict,
  reading_at,
  readings,
  sampled,
  estimate_of,
  left_by,
  left_at,
  remaining,
}
use Rattle.filter.specs.Steps.{Wide}
use Rattle.filter.proofs.FilledLaws.{view-filled_in, view-filled-out}
use Rattle.filter.proofs.PeelLaws.{Alike, all_zero_cong, reading_cong}

-- at salt 0 an ID is its own salted form, so its stratum is that of the ID itself
pub salted-none : (x : ℕ) → salted 0 x ≡ x
unfolding salted rot
salted-none x = omega arith

-- ---- whose bucket is whose

-- bucket b is bucket b % 79 of its stratum
pub in_stratum_lem : (s b : ℕ) → b / 79 ≡ s → b ≡ 79 * s + b % 79
in_stratum_lem s b e = omega (arith, e)

-- numbers of a list, all moved up by n
pub elem-moved : (n a : ℕ) (l : List ℕ) → elem (n + a) (map (λ i. n + i) l) ≡ elem a l
unfolding elem
elem-moved n a [] = refl
elem-moved n a (b ∷ l) = ap₂ ◌||◌ (same (eqb a b) refl) (elem-moved n a l)
  where
    same : (t : Bool) → eqb a b ≡ t → eqb (n + a) (n + b) ≡ eqb a b
    same true e = eq-eqb (n + a) (n + b) (ap (λ (i : ℕ). n + i) (eqb-true a b e)) ∙ sym e
    same false e = ne_eqb (n + a) (n + b) (λ p. eqb-false a b e (omega (arith, p))) ∙ sym e

pub moved-from : (n a m : ℕ) (l : List ℕ) → ((i : ℕ) → elem i l ≡ true → i < m) → elem a (map (λ i. n + i) l) ≡ true → (n ≤ a) × (a < n + m)
moved-from n a m [] below e = absurd (false≢true (sym (elem-nil a) ∙ e))
moved-from n a m (b ∷ l) below e =
    let first = below b (elem-head b l) in
    elem_cases (λ (i : ℕ). (n ≤ i) × (i < n + m)) a (n + b) (map (λ i. n + i) l) e (omega arith, omega (arith, first))
    (λ r. moved-from n a m l (λ i q. below i (elem_tail i b l q)) r)

-- of places moved into stratum st, those of stratum s
pub elem-stratum : (s st i : ℕ) (ps : List ℕ) → i < 79 → ((p : ℕ) → elem p ps ≡ true → p < 79)
    → elem (79 * s + i) (map (λ j. 79 * st + j) ps) ≡ eqb st s && elem i ps
elem-stratum s st i ps h below = go (eqb st s) refl
  where
    other : (t : Bool) → elem (79 * s + i) (map (λ j. 79 * st + j) ps) ≡ t → st ≢ s → t ≡ false
    other true e n = let r = moved-from (79 * st) (79 * s + i) 79 ps below e in absurd (n (omega (arith, r.0, r.1, h)))
    other false e n = refl

    go : (t : Bool) → eqb st s ≡ t → elem (79 * s + i) (map (λ j. 79 * st + j) ps) ≡ t && elem i ps
    go true e = ap (λ (u : ℕ). elem (79 * s + i) (map (λ j. 79 * u + j) ps)) (eqb-true st s e) ∙ elem-moved (79 * s) i ps
    go false e = other (elem (79 * s + i) (map (λ j. 79 * st + j) ps)) refl (eqb-false st s e)

-- ---- a stratum among the others

module _ (s : ℕ) (g f : ℕ → Bucket) where
  pub with_stratum_in : (b : ℕ) → b / 79 ≡ s → with_stratum s g f b ≡ g (b % 79)
  unfolding with_stratum
  with_stratum_in b e = ap (λ (t : Bool). cond t (g (b % 79)) (f b)) (eq-eqb (b / 79) s e)

  pub with_stratum-out : (b : ℕ) → b / 79 ≢ s → with_stratum s g f b ≡ f b
  unfolding with_stratum
  with_stratum-out b n = ap (λ (t : Bool). cond t (g (b % 79)) (f b)) (ne_eqb (b / 79) s n)

-- columns in which stratum s was replaced show that, and nothing else
pub view_with_stratum : (s : ℕ) (g : ℕ → Bucket) (c c' : Columns) → s < 32 → Wide 2528 c → c' ≡ filled 2528 (with_stratum s g (view c)) c
    → view c' ≡ with_stratum s g (view c)
view_with_stratum s g c c' h w e = fun_ext (λ i. ap (λ (d : Columns). view d i) e ∙ go i (ltb i 2528) refl)
  where
    go : (i : ℕ) (t : Bool) → ltb i 2528 ≡ t → view (filled 2528 (with_stratum s g (view c)) c) i ≡ with_stratum s g (view c) i
    go i true k = view-filled_in 2528 (with_stratum s g (view c)) c i w (ltb-true i 2528 k)
    go i false k =
        let far = ltb-false i 2528 k in
        view-filled-out 2528 (with_stratum s g (view c)) c i far ∙ sym (with_stratum-out s g (view c) i (λ m. omega (arith, far, m, h)))

-- ---- readings that a stratum cannot tell apart

abbrev pub Like : ℕ → Outcome → Outcome → Type 0
Like salt r q = Alike (stratum_rule salt) r q

pub verdict_like : (salt : ℕ) (r q : Outcome) → Like salt r q → strata_verdict r ≡ strata_verdict q
verdict_like salt r q a = ap₂ (λ (t z : Bool). verdict_by t z true) a.fine (all_zero_cong r.rest q.rest 79 a.rest)

left_by_cong : (v : Verdict) (r q : Outcome) (i : ℕ) → r.rest i ≡ q.rest i → left_by v r i ≡ left_by v q i
left_by_cong Complete r q i e = e
left_by_cong Stuck r q i e = e
left_by_cong False r q i e = refl

pub left_like : (salt : ℕ) (r q : Outcome) → Like salt r q → (i : ℕ) → i < 79 → left_by (strata_verdict r) r i ≡ left_by (strata_verdict q) q i
left_like salt r q a i h =
    left_by_cong (strata_verdict r) r q i (a.rest i h) ∙ ap (λ (v : Verdict). left_by v q i) (verdict_like salt r q a)

-- ---- buckets that agree below a bound

abbrev pub Agree : ℕ → (ℕ → Bucket) → (ℕ → Bucket) → Type 0
Agree m f g = (b : ℕ) → b < m → f b ≡ g b

cond_same : (t : Bool) {x y x' y' : Bucket} → x ≡ x' → y ≡ y' → cond t x y ≡ cond t x' y'
cond_same t p q = λ k. cond t (p k) (q k)

cond-at : (t : Bool) (f g f' g' : ℕ → Bucket) (b : ℕ) → f b ≡ f' b → g b ≡ g' b → cond t f g b ≡ cond t f' g' b
cond-at true f g f' g' b p q = p
cond-at false f g f' g' b p q = q

-- the estimate at a stratum that is not complete, by what is listed above it
pub sampled_cases : (total i : ℕ) (P : Estimate → Type 0) → (total ≡ 0 → P Unknown) → (0 < total → P (Known (total * 2 ^ (i + 1)))) → P (sampled total i)
unfolding sampled
sampled_cases total i P none some = by (eqb total 0) refl
  where
    by : (t : Bool) → eqb total 0 ≡ t → P (cond t Unknown (Known (total * 2 ^ (i + 1))))
    by true t = none (eqb-true total 0 t)
    by false t = some (omega (arith, eqb-false total 0 t))

module _ (salt : ℕ) where
  pub readings-length : (n : ℕ) (f : ℕ → Bucket) → length (readings salt n f) ≡ n
  unfolding readings
  readings-length zero f = refl
  readings-length (suc n) f = ap suc (readings-length n f)

  -- one stratum, s, of buckets that agree up to its end
  module _ (s : ℕ) (f g : ℕ → Bucket) (e : Agree (79 * suc s) f g) where
    reading-at_cong : Like salt (reading_at salt s f) (reading_at salt s g)
    unfolding stratum
    reading-at_cong = reading_cong (stratum_rule salt) (stratum s f) (stratum s g) (λ i h. e (79 * s + i) (omega arith))

    complete_cong : is_complete (strata_verdict (reading_at salt s f)) ≡ is_complete (strata_verdict (reading_at salt s g))
    complete_cong = ap is_complete (verdict_like salt (reading_at salt s f) (reading_at salt s g) reading-at_cong)

  left-at_cong : (s m : ℕ) (f g : ℕ → Bucket) → 79 * suc s ≤ m → Agree m f g → Agree m (left_at salt s f) (left_at salt s g)
  unfolding with_stratum
  left-at_cong s m f g l e b h =
      cond_same (eqb (b / 79) s)
      (left_like salt (reading_at salt s f) (reading_at salt s g) (reading-at_cong s f g (λ i k. e i (omega arith))) (b % 79) (omega arith)) (e b h)

  -- the estimate, one stratum further down, by how that one ends
  pub estimate-step : (f : ℕ → Bucket) (n total : ℕ) (b : Bool) → is_complete (strata_verdict (reading_at salt n f)) ≡ b
      → estimate_of total (readings salt (suc n) f)
      ≡ cond b (estimate_of (total + length (reading_at salt n f).listed) (readings salt n f)) (sampled total n)
  unfolding readings estimate_of
  estimate-step f n total b e =
      ap₂ (λ (t : Bool) (m : ℕ). cond t (estimate_of (total + length (reading_at salt n f).listed) (readings salt n f)) (sampled total m)) e
      (readings-length n f)

  -- two functions that agree below 79 n give the same estimate
  pub estimate_cong : (n : ℕ) (f g : ℕ → Bucket) (total : ℕ) → Agree (79 * n) f g
      → estimate_of total (readings salt n f) ≡ estimate_of total (readings salt n g)
  unfolding readings estimate_of
  estimate_cong zero f g total e = refl
  estimate_cong (suc n) f g total e =
      let a = reading-at_cong n f g e in
      let more = ap (λ (l : List Item). estimate_of (total + length l) (readings salt n f)) a.listed
      ∙ estimate_cong n f g (total + length (reading_at salt n g).listed) (λ b h. e b (omega arith)) in
      let last = ap (sampled total) (readings-length n f ∙ sym (readings-length n g)) in
      λ k. cond (complete_cong n f g e k) (more k) (last k)

  -- and where they agree below m, at least 79 n, the same is left below m
  pub remaining_cong : (n m : ℕ) (f g : ℕ → Bucket) → 79 * n ≤ m → Agree m f g → Agree m (remaining salt n f) (remaining salt n g)
  unfolding remaining
  remaining_cong zero m f g l e b h = e b h
  remaining_cong (suc n) m f g l e b h =
      let left = left-at_cong n m f g l e in
      cond-at (is_complete (strata_verdict (reading_at salt n f))) (remaining salt n (left_at salt n f)) (left_at salt n f)
      (remaining salt n (left_at salt n g)) (left_at salt n g) b
      (remaining_cong n m (left_at salt n f) (left_at salt n g) (omega arith) left b h) (left b h)
      ∙ ap (λ (t : Bool). cond t (remaining salt n (left_at salt n g)) (left_at salt n g) b) (complete_cong n f g (λ i k. e i (omega arith)))
