-- The strata of an estimator: each is a filter of its own, of the IDs of that stratum; its reading, if complete, lists as many IDs as differ
-- there; and the strata share out every list, so these are all that differ. Assumes nothing.
use mathlib.Core.Path.{◌≡◌, refl, sym, ap, ap₂, ◌∙◌}
use mathlib.Core.Bool.{Bool, true, false, not, ◌&&◌, cond, true≢false}
use mathlib.Core.List.{List, [], ◌∷◌, Memᴰ}
use mathlib.Core.Logic.{◌⊎◌, inl, inr}
use Prim.Native.Nat.{ℕ, zero, suc, ◌+◌, ◌*◌, ◌^◌, ◌≤◌, ◌<◌}
use native.Mathlib.Nat.{eq-or-lt_of_le, le_of_suc-le-suc}
use native.Mathlib.Omega.{arith}
use lib.Dec.{eqb}
use lib.ListN.{length}
use borrow.Author.Tests.{eq-eqb, ne_eqb}
use Rattle.bucket.specs.Bucket.{Bucket, ◌⊕◌, ◌⊖◌, 𝟎}
use Rattle.bucket.specs.Counts.{stratum_of}
use Rattle.bucket.specs.Crc.{crc_of}
use Rattle.bucket.specs.Lists.{elem, Distinct}
use Rattle.bucket.specs.Places.{crc_next, places}
use Rattle.bucket.specs.Salt.{salted}
use Rattle.bucket.proofs.BucketLaws.{⊕-idl}
use Rattle.bucket.proofs.CountLaws.{stratum_le}
use Rattle.bucket.proofs.ListLaws.{distinct-count}
use Rattle.bucket.proofs.PlaceLaws.{places-below}
use Rattle.filter.specs.declared.answers.Estimate.TheVariants.{Known}
use Rattle.filter.specs.declared.answers.Verdict.TheVariants.{Complete, Stuck}
use Rattle.filter.specs.Lists.{select, minus}
use Rattle.filter.specs.Filter.{Item, ours, theirs, ids, ours_of, theirs_of, Rule, touches, cell, put, sum_at, filter_of, difference}
use Rattle.filter.specs.Peeling.{Outcome, all_zero, agrees, verdict_by, is_complete, reading, verdict}
use Rattle.filter.specs.Stopping.{differing, Clear, StoppingSet, Exactly}
use Rattle.filter.specs.Estimator.{estimator_rule, in_stratum, stratum_rule, stratum, less, strata_verdict, reading_at, readings, estimate_of}
use Rattle.filter.proofs.SelectLaws.{elem_mem, mem_select, distinct-minus, minus-select, distinct-select}
use Rattle.filter.proofs.SideLaws.{ours_mem, theirs_mem, distinct-ours, distinct-theirs, differing-ours, differing-theirs, sides_length, differing-length}
use Rattle.filter.proofs.PeelLaws.{reading_cong}
use Rattle.filter.proofs.StrataLaws.{elem-stratum, Like, verdict_like, estimate-step}
use Rattle.filter.proofs.SoundLaws.{verdict-complete, reading-distinct}
use Rattle.filter.proofs.LeftLaws.{Fair}
use Rattle.filter.proofs.ExactLaws.{Placed, exactly, never_false, whole}
use Rattle.filter.proofs.IdLaws.{fair, placed}

-- ---- the buckets of a stratum

cond_and : {A : Type 0} (a b : Bool) (x y : A) → cond (a && b) x y ≡ cond a (cond b x y) y
cond_and true b x y = refl
cond_and false b x y = refl

put-stratum : (salt s a i : ℕ) → i < 79
    → put (estimator_rule salt) (ours a) (79 * s + i) ≡ cond (eqb (stratum_of (salted salt a)) s) (put (stratum_rule salt) (ours a) i) 𝟎
unfolding put touches cell
put-stratum salt s a i h =
    ap (λ (b : Bool). cond b (cell (stratum_rule salt) (ours a)) 𝟎)
    (elem-stratum s (stratum_of (salted salt a)) i (places 3 79 (crc_of (salted salt a))) h
    (λ p e. places-below crc_next 3 79 (crc_of (salted salt a)) p e))
    ∙ cond_and (eqb (stratum_of (salted salt a)) s) (elem i (places 3 79 (crc_of (salted salt a)))) (cell (stratum_rule salt) (ours a)) 𝟎

-- "bucket i of stratum s is bucket 79 s + i": a stratum of an estimator is the filter of its IDs
pub filter_stratum : (salt s i : ℕ) (t : List ℕ) → i < 79
    → filter_of (estimator_rule salt) t (79 * s + i) ≡ filter_of (stratum_rule salt) (in_stratum salt s t) i
unfolding filter_of sum_at in_stratum select
filter_stratum salt s i [] h = refl
filter_stratum salt s i (a ∷ t) h =
    ap₂ (λ (x y : Bucket). x ⊕ y) (put-stratum salt s a i h) (filter_stratum salt s i t h) ∙ go (eqb (stratum_of (salted salt a)) s)
  where
    go : (b : Bool) → cond b (put (stratum_rule salt) (ours a) i) 𝟎 ⊕ filter_of (stratum_rule salt) (in_stratum salt s t) i
        ≡ filter_of (stratum_rule salt) (cond b (a ∷ in_stratum salt s t) (in_stratum salt s t)) i
    go true = refl
    go false = ⊕-idl (filter_of (stratum_rule salt) (in_stratum salt s t) i)

-- ---- as many are listed as differ

distinct-same : (l m : List ℕ) → Distinct l → Distinct m → ((a : ℕ) → elem a l ≡ elem a m) → length l ≡ length m
distinct-same l m dl dm same =
    omega (arith, distinct-count l m dl (λ a e. sym (same a) ∙ e), distinct-count m l dm (λ a e. same a ∙ e))

and_not : (a b : Bool) → (a ≡ true → b ≡ false) → a && not b ≡ a
and_not true b h = ap not (h refl)
and_not false b h = refl

not_stuck : (b : Bool) → verdict_by true true b ≡ Stuck → ⊥
not_stuck true e = let z : ◌≡◌ {A = ℕ} 0 1 = cc in omega arith
not_stuck false e = let z : ◌≡◌ {A = ℕ} 0 1 = cc in omega arith

-- what is complete with the table's test is so without it
without_table : (R : Rule) (t : List ℕ) (r : Outcome) → verdict R t r ≡ Complete
    → verdict_by r.fine (all_zero r.rest R.size) true ≡ Complete
unfolding verdict
without_table R t r e =
    let tests = verdict-complete r.fine (all_zero r.rest R.size) (agrees t r.listed) e in rw (tests.0, tests.1)

module _ (R : Rule) (t s : List ℕ) (dt : Distinct t) (ds : Distinct s) where
  -- a complete reading leaves no stopping set, so nothing is missing
  exactly_counted : (l : List Item) → Distinct (ids l) → Exactly R t s (ours_of l) (theirs_of l) true → length l ≡ length (differing t s)
  exactly_counted l dl e =
      sym (sides_length l)
      ∙ ap₂ ◌+◌
      (distinct-same (ours_of l) (minus t s) (distinct-ours l dl) (distinct-minus t s dt)
      (λ a. e.ours_are a ∙ and_not (elem a (minus t s)) (e.core (ours a)) (λ m. taken (ours a) (ours_in_lem a m))))
      (distinct-same (theirs_of l) (minus s t) (distinct-theirs l dl) (distinct-minus s t ds)
      (λ a. e.theirs_are a ∙ and_not (elem a (minus s t)) (e.core (theirs a)) (λ m. taken (theirs a) (theirs_in_lem a m))))
      ∙ sym (differing-length t s)
    where
      ours_in_lem : (a : ℕ) → elem a (minus t s) ≡ true → Memᴰ (ours a) (differing t s)
      ours_in_lem a m = ours_mem a (differing t s) (rw differing-ours (elem_mem a (minus t s) m))

      theirs_in_lem : (a : ℕ) → elem a (minus s t) ≡ true → Memᴰ (theirs a) (differing t s)
      theirs_in_lem a m = theirs_mem a (differing t s) (rw differing-theirs (elem_mem a (minus s t) m))

      taken : (x : Item) → Memᴰ x (differing t s) → e.core x ≡ false
      taken x m = go (e.core x) refl
        where
          go : (b : Bool) → e.core x ≡ b → b ≡ false
          go true k =
              absurd (true≢false (e.stopped e.core (record { someone = x; belongs = m; taken = k; closed = e.is_core.closed })))
          go false k = refl

  module _ (placed : Placed R) (g : ℕ → Bucket) (made : (i : ℕ) → i < R.size → g i ≡ filter_of R s i) (fair : Fair R (differing t s)) where
    -- the table's test holds of a reading of what was made by the rules
    complete_anyway : verdict_by (reading R (difference R t g)).fine (all_zero (reading R (difference R t g)).rest R.size) true ≡ Complete
        → verdict R t (reading R (difference R t g)) ≡ Complete
    unfolding verdict
    complete_anyway e = go (never_false R placed t s dt ds g made fair)
      where
        r : Outcome
        r = reading R (difference R t g)

        go : (verdict R t r ≡ Complete) ⊎ (verdict R t r ≡ Stuck) → verdict R t r ≡ Complete
        go (inl k) = k
        go (inr k) =
            let tests = verdict-complete r.fine (all_zero r.rest R.size) true e in
            absurd (not_stuck (agrees t r.listed) (rw (tests.0, tests.1) at k))

    pub complete-counted : verdict_by (reading R (difference R t g)).fine (all_zero (reading R (difference R t g)).rest R.size) true ≡ Complete
        → length (reading R (difference R t g)).listed ≡ length (differing t s)
    complete-counted e =
        exactly_counted (reading R (difference R t g)).listed (reading-distinct R (difference R t g))
        (rw (complete_anyway e) at (exactly R placed t s dt ds g made fair))

-- ---- the strata of a list

pub stratum-distinct : (salt i : ℕ) (l : List ℕ) → Distinct l → Distinct (in_stratum salt i l)
unfolding in_stratum
stratum-distinct salt i l d = distinct-select (λ a. eqb (stratum_of (salted salt a)) i) l d

pub stratum-part : (salt i : ℕ) (l : List ℕ) (a : ℕ) → Memᴰ a (in_stratum salt i l) → Memᴰ a l
unfolding in_stratum
stratum-part salt i l a m = mem_select (λ b. eqb (stratum_of (salted salt b)) i) a l m

pub stratum-minus : (salt i : ℕ) (t s : List ℕ) → minus (in_stratum salt i t) (in_stratum salt i s) ≡ in_stratum salt i (minus t s)
unfolding in_stratum
stratum-minus salt i t s = minus-select (λ a. eqb (stratum_of (salted salt a)) i) t s

-- ---- sums over the strata

-- f 0 + .. + f (n − 1)
unfoldable pub total : (ℕ → ℕ) → ℕ → ℕ
total f zero = 0
total f (suc n) = f n + total f n

pub total_cong : (f g : ℕ → ℕ) (n : ℕ) → ((i : ℕ) → i < n → f i ≡ g i) → total f n ≡ total g n
unfolding total
total_cong f g zero h = refl
total_cong f g (suc n) h = ap₂ ◌+◌ (h n (omega arith)) (total_cong f g n (λ i k. h i (omega arith)))

pub total-add : (f g : ℕ → ℕ) (n : ℕ) → total (λ i. f i + g i) n ≡ total f n + total g n
unfolding total
total-add f g zero = refl
total-add f g (suc n) = omega (arith, total-add f g n)

-- 1 at k alone
abbrev mark : ℕ → ℕ → ℕ
mark k i = cond (eqb k i) 1 0

mark_above : (k n : ℕ) → n ≤ k → total (mark k) n ≡ 0
unfolding total
mark_above k zero h = refl
mark_above k (suc n) h =
    ap₂ ◌+◌ (ap (λ (b : Bool). cond b 1 0) (ne_eqb k n (λ e. omega arith))) (mark_above k n (omega arith))

mark-below : (k n : ℕ) → k < n → total (mark k) n ≡ 1
unfolding total
mark-below k zero h = absurd (omega arith)
mark-below k (suc n) h = go (eq-or-lt_of_le (le_of_suc-le-suc h)) (mark-below k n)
  where
    go : (k ≡ n) ⊎ (k < n) → (k < n → total (mark k) n ≡ 1) → mark k n + total (mark k) n ≡ 1
    go (inl e) ih = ap₂ ◌+◌ (ap (λ (b : Bool). cond b 1 0) (eq-eqb k n e)) (mark_above k n (omega arith))
    go (inr l) ih = ap₂ ◌+◌ (ap (λ (b : Bool). cond b 1 0) (ne_eqb k n (λ e. omega arith))) (ih l)

module _ (key : ℕ → ℕ) where
  abbrev keyed : List ℕ → ℕ → ℕ
  keyed l i = length (select (λ a. eqb (key a) i) l)

  keyed-cons : (a : ℕ) (l : List ℕ) (i : ℕ) → keyed (a ∷ l) i ≡ mark (key a) i + keyed l i
  unfolding select
  keyed-cons a l i = go (eqb (key a) i)
    where
      go : (b : Bool) → length (cond b (a ∷ select (λ c. eqb (key c) i) l) (select (λ c. eqb (key c) i) l)) ≡ cond b 1 0 + keyed l i
      go true = omega arith
      go false = omega arith

  keyed-none : (n : ℕ) → total (keyed []) n ≡ 0
  unfolding total select
  keyed-none zero = refl
  keyed-none (suc n) = omega (arith, keyed-none n)

  -- each element has one key, below n
  keyed-total : (n : ℕ) (l : List ℕ) → ((a : ℕ) → key a < n) → total (keyed l) n ≡ length l
  keyed-total n [] h = keyed-none n
  keyed-total n (a ∷ l) h =
      total_cong (keyed (a ∷ l)) (λ i. mark (key a) i + keyed l i) n (λ i k. keyed-cons a l i)
      ∙ total-add (mark (key a)) (keyed l) n
      ∙ ap₂ ◌+◌ (mark-below (key a) n (h a)) (keyed-total n l h)
      ∙ omega arith

pub strata_total : (salt : ℕ) (l : List ℕ) → total (λ i. length (in_stratum salt i l)) 32 ≡ length l
unfolding in_stratum
strata_total salt l = keyed-total (λ a. stratum_of (salted salt a)) 32 l (λ a. omega (arith, stratum_le (salted salt a)))

-- what differs is what differs in the strata
pub strata_differing : (salt : ℕ) (t s : List ℕ)
    → total (λ i. length (differing (in_stratum salt i t) (in_stratum salt i s))) 32 ≡ length (differing t s)
strata_differing salt t s =
    total_cong (λ i. length (differing (in_stratum salt i t) (in_stratum salt i s)))
    (λ i. length (in_stratum salt i (minus t s)) + length (in_stratum salt i (minus s t))) 32
    (λ i h. differing-length (in_stratum salt i t) (in_stratum salt i s)
    ∙ ap₂ (λ (a b : List ℕ). length a + length b) (stratum-minus salt i t s) (stratum-minus salt i s t))
    ∙ total-add (λ i. length (in_stratum salt i (minus t s))) (λ i. length (in_stratum salt i (minus s t))) 32
    ∙ ap₂ ◌+◌ (strata_total salt (minus t s)) (strata_total salt (minus s t))
    ∙ sym (differing-length t s)

estimate-total : (salt : ℕ) (f : ℕ → Bucket) (n sum : ℕ) → ((i : ℕ) → i < n → strata_verdict (reading_at salt i f) ≡ Complete)
    → estimate_of sum (readings salt n f) ≡ Known (sum + total (λ i. length (reading_at salt i f).listed) n)
unfolding estimate_of readings total
estimate-total salt f zero sum h = ap Known (omega arith)
estimate-total salt f (suc n) sum h =
    estimate-step salt f n sum true (ap is_complete (h n (omega arith)))
    ∙ estimate-total salt f n (sum + length (reading_at salt n f).listed) (λ i k. h i (omega arith))
    ∙ ap Known (omega arith)

-- "If all are complete the estimate is the total listed."
pub estimate-listed : (salt : ℕ) (f : ℕ → Bucket) (n : ℕ) → ((i : ℕ) → i < n → strata_verdict (reading_at salt i f) ≡ Complete)
    → estimate_of 0 (readings salt n f) ≡ Known (total (λ i. length (reading_at salt i f).listed) n)
estimate-listed salt f n h = estimate-total salt f n 0 h ∙ ap Known (omega arith)

-- ---- one stratum of the difference of two estimators

module _ (salt i : ℕ) (t s : List ℕ) (dt : Distinct t) (ds : Distinct s) (small-t : (a : ℕ) → Memᴰ a t → a < 2 ^ 64)
    (small-s : (a : ℕ) → Memᴰ a s → a < 2 ^ 64) (f g : ℕ → Bucket) (inside : i < 32)
    (made-t : (j : ℕ) → j < 2528 → f j ≡ filter_of (estimator_rule salt) t j)
    (made-s : (j : ℕ) → j < 2528 → g j ≡ filter_of (estimator_rule salt) s j)
    (clear : Clear (stratum_rule salt) (differing (in_stratum salt i t) (in_stratum salt i s))) where
  abbrev R : Rule
  R = stratum_rule salt

  abbrev tᵢ : List ℕ
  tᵢ = in_stratum salt i t

  abbrev sᵢ : List ℕ
  sᵢ = in_stratum salt i s

  abbrev alone : Outcome
  alone = reading R (difference R tᵢ (filter_of R sᵢ))

  -- it reads as the filters of its IDs read
  alike : Like salt (reading_at salt i (less f g)) alone
  alike = reading_cong R (stratum i (less f g)) (difference R tᵢ (filter_of R sᵢ)) same
    where
      same : (j : ℕ) → j < 79 → stratum i (less f g) j ≡ difference R tᵢ (filter_of R sᵢ) j
      same j h =
          unfold stratum difference in
          ap₂ (λ (x y : Bucket). x ⊖ y) (made-t (79 * i + j) (omega arith) ∙ filter_stratum salt i j t h)
          (made-s (79 * i + j) (omega arith) ∙ filter_stratum salt i j s h)

  rule-placed : Placed R
  rule-placed = placed 3 79 salt (omega arith) (omega arith)

  rule_fair : Fair R (differing tᵢ sᵢ)
  rule_fair =
      fair 3 79 salt tᵢ sᵢ (λ a m. small-t a (stratum-part salt i t a m)) (λ a m. small-s a (stratum-part salt i s a m)) clear

  pub stratum-listed : strata_verdict (reading_at salt i (less f g)) ≡ Complete
      → length (reading_at salt i (less f g)).listed ≡ length (differing (in_stratum salt i t) (in_stratum salt i s))
  stratum-listed e =
      ap length alike.listed
      ∙ complete-counted R tᵢ sᵢ (stratum-distinct salt i t dt) (stratum-distinct salt i s ds) rule-placed (filter_of R sᵢ) (λ j h. refl) rule_fair
      (sym (verdict_like salt (reading_at salt i (less f g)) alone alike) ∙ e)

  pub stratum-whole : ((q : Item → Bool) → StoppingSet (stratum_rule salt) (differing (in_stratum salt i t) (in_stratum salt i s)) q → ⊥)
      → strata_verdict (reading_at salt i (less f g)) ≡ Complete
  stratum-whole none =
      verdict_like salt (reading_at salt i (less f g)) alone alike
      ∙ without_table R tᵢ alone
      (whole R rule-placed tᵢ sᵢ (stratum-distinct salt i t dt) (stratum-distinct salt i s ds) (filter_of R sᵢ) (λ j h. refl) rule_fair none)
