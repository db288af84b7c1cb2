-- The reading of a filter that was made by the rules, over any rule whose places are buckets (demand 3, second half): it is never false,
-- what is left at its end is the largest stopping set or nothing, and it is complete exactly if nothing is left. Assumes nothing.
use mathlib.Core.Path.{◌≡◌, refl, sym, ap, ◌∙◌}
use mathlib.Core.Bool.{Bool, true, false, not, ◌&&◌, and-eq-true_iff}
use mathlib.Core.List.Memᴰ
use mathlib.Core.List.{List, [], ◌∷◌, Memᴰ}
use mathlib.Core.List.Memᴰ.{head}
use mathlib.Core.Logic.{◌⊎◌, inl, inr}
use mathlib.Core.Option.{none, some-ne-none}
use Prim.Native.Nat.{ℕ, zero, suc, ◌≤◌, ◌<◌}
use native.Mathlib.Nat.{not-suc-le-zero, le_of_suc-le-suc, eq-or-lt_of_le}
use native.Mathlib.Omega.{arith}
use Rattle.bucket.specs.Bucket.{Bucket, 𝟎, is_zero}
use Rattle.bucket.specs.Lists.{elem, Distinct}
use Rattle.bucket.proofs.BucketLaws.{is_zero_zero}
use Rattle.bucket.proofs.TestLaws.{and_fails, and_holds}
use Rattle.filter.specs.declared.answers.Verdict.TheVariants.{Complete, Stuck}
use Rattle.filter.specs.Lists.{select}
use Rattle.filter.specs.Filter.{Item, ours, theirs, id_of, ids, ours_of, theirs_of, Rule, touches, sum_at, load, filter_of, difference}
use Rattle.filter.specs.Peeling.{all_zero, Outcome, agrees, is_complete, look, next, reading, verdict}
use Rattle.filter.specs.Stopping.{differing, IsClosed, StoppingSet, Exactly}
use Rattle.filter.proofs.OrderLaws.{same_test}
use Rattle.filter.proofs.SelectLaws.{
  select_mem,
  mem_select,
  mem_select_true,
  elem_mem,
  mem_elem,
  not_both,
  mem_key,
  map_mem,
  key_same,
  distinct_append,
}
use Rattle.filter.proofs.SideLaws.{
  mem_ours,
  mem_theirs,
  ours_mem,
  theirs_mem,
  distinct-ours,
  distinct-theirs,
  sides_apart,
  differing-distinct,
  differing-ours,
  differing-theirs,
  differing-agrees,
}
use Rattle.filter.proofs.SumLaws.{sum-nil, difference-sum}
use Rattle.filter.proofs.LoadLaws.{look-cell, load_one, mem_load, busy_le}
use Rattle.filter.proofs.PeelLaws.{first-none, looks}
use Rattle.filter.proofs.SoundLaws.{reading-distinct}
use Rattle.filter.proofs.LeftLaws.{left, left-nil, Fair, End, run_end}

-- ---- the verdict's tests

pub all_zero_of : (f : ℕ → Bucket) (n : ℕ) → ((i : ℕ) → i < n → f i ≡ 𝟎) → all_zero f n ≡ true
unfolding all_zero
all_zero_of f zero h = refl
all_zero_of f (suc n) h =
    and_holds (ap is_zero (h n (omega arith)) ∙ is_zero_zero) (all_zero_of f n (λ i l. h i (omega arith)))

not_all_zero : (f : ℕ → Bucket) (n i : ℕ) → i < n → is_zero (f i) ≡ false → all_zero f n ≡ false
unfolding all_zero
not_all_zero f zero i h e = absurd (not-suc-le-zero h)
not_all_zero f (suc n) i h e = go (eq-or-lt_of_le (le_of_suc-le-suc h)) (λ p. not_all_zero f n i p e)
  where
    go : (i ≡ n) ⊎ (i < n) → (i < n → all_zero f n ≡ false) → is_zero (f n) && all_zero f n ≡ false
    go (inl p) ih = ap (λ (b : Bool). b && all_zero f n) (ap (λ (k : ℕ). is_zero (f k)) (sym p) ∙ e)
    go (inr p) ih = and_fails (is_zero (f n)) (ih p)

module _ (R : Rule) (t : List ℕ) (r : Outcome) (fine : r.fine ≡ true) where
  is_complete_lem : all_zero r.rest R.size ≡ true → agrees t r.listed ≡ true → verdict R t r ≡ Complete
  unfolding verdict
  is_complete_lem z w = rw (fine, z, w)

  is_stuck : all_zero r.rest R.size ≡ false → verdict R t r ≡ Stuck
  unfolding verdict
  is_stuck z = rw (fine, z)

-- ---- what is listed

-- of a list without a repeated ID, an item is in a part or its ID is not
listed_or_left : (d l : List Item) → Distinct (ids d) → ((x : Item) → Memᴰ x l → Memᴰ x d) → (x : Item) → Memᴰ x d
    → Memᴰ x l ⊎ (left l x ≡ true)
unfolding left
listed_or_left d l dd sub x m = go (elem (id_of x) (ids l)) refl
  where
    go : (t : Bool) → elem (id_of x) (ids l) ≡ t → Memᴰ x l ⊎ (not t ≡ true)
    go true e =
        let y = map_mem id_of (id_of x) l (elem_mem (id_of x) (ids l) e) in
        inl (Memᴰ.cast (key_same id_of d dd x y.0 m (sub y.0 y.1) y.2) y.1)
    go false e = inr refl

listed_not_left : (l : List Item) (x : Item) → Memᴰ x l → not (left l x) ≡ true
unfolding left
listed_not_left l x m = ap (λ (b : Bool). not (not b)) (mem_key id_of m)

module _ (d l : List Item) (dd : Distinct (ids d)) (sub : (x : Item) → Memᴰ x l → Memᴰ x d) where
  listed_of : (x : Item) → Memᴰ x d → not (left l x) ≡ true → Memᴰ x l
  listed_of x m e = go (listed_or_left d l dd sub x m)
    where
      go : Memᴰ x l ⊎ (left l x ≡ true) → Memᴰ x l
      go (inl k) = k
      go (inr k) = absurd (not_both (left l x) k e)

  -- on either side: the IDs listed are those of the difference that are not left
  module _ (side : ℕ → Item) (of : List Item → List ℕ) (into : (a : ℕ) (m : List Item) → Memᴰ (side a) m → Memᴰ a (of m))
      (from : (a : ℕ) (m : List Item) → Memᴰ a (of m) → Memᴰ (side a) m) where
    side_listed : (a : ℕ) → elem a (of l) ≡ elem a (of d) && not (left l (side a))
    side_listed a = same_test (elem a (of l)) (elem a (of d) && not (left l (side a))) there back
      where
        there : elem a (of l) ≡ true → elem a (of d) && not (left l (side a)) ≡ true
        there e =
            let m = from a l (elem_mem a (of l) e) in
            and_holds (mem_elem (into a d (sub (side a) m))) (listed_not_left l (side a) m)

        back : elem a (of d) && not (left l (side a)) ≡ true → elem a (of l) ≡ true
        back e =
            let both = (and-eq-true_iff (elem a (of d)) (not (left l (side a)))).0 e in
            mem_elem (into a l (listed_of (side a) (from a d (elem_mem a (of d) both.0)) both.1))

-- ---- the reading of table minus received filter

-- a rule's places are buckets, and each code has one
pub record Placed (R : Rule) : Type 0 where
  pub inside : (w i : ℕ) → elem i (R.places w) ≡ true → i < R.size
  pub place : ℕ → ℕ
  pub at_place : (w : ℕ) → elem (place w) (R.places w) ≡ true

module _ (R : Rule) (placed : Placed R) (t s : List ℕ) (dt : Distinct t) (ds : Distinct s) (g : ℕ → Bucket)
    (made : (i : ℕ) → i < R.size → g i ≡ filter_of R s i) (fair : Fair R (differing t s)) where
  abbrev d : List Item
  d = differing t s

  abbrev r : Outcome
  r = reading R (difference R t g)

  abbrev core : Item → Bool
  core = left r.listed

  abbrev rest : List Item
  rest = select core d

  end : End R d [] r
  unfolding reading
  end =
      run_end R d (differing-distinct t s dt ds) fair R.size (next R [] (difference R t g)) [] (difference R t g) refl
      (record { from = λ x m. elim m [ ]; holds = λ i h. rw left-nil (difference-sum R t s dt ds g i (made i h)) })
      (busy_le R (select (left []) d) R.size)

  closed : IsClosed R d core
  closed i h o = go (load R rest i) refl
    where
      unseen : look R i (sum_at R rest i) ≡ none
      unseen =
          ap (look R i) (sym (end.state.holds i h))
          ∙ first-none (looks R r.rest) 0 R.size end.done i (omega arith) (omega arith)

      go : (n : ℕ) → load R rest i ≡ n → 2 ≤ load R rest i
      go zero e = absurd (omega arith)
      go (suc zero) e =
          let y = load_one R rest i e in
          let code = fair.codes y.0 (mem_select core y.0 d y.1) in
          absurd (some-ne-none y.0 (sym (ap (look R i) y.3 ∙ look-cell R y.0 i code y.2) ∙ unseen))
      go (suc (suc n)) e = omega arith

  largest : (q : Item → Bool) → IsClosed R d q → (x : Item) → Memᴰ x d → q x ≡ true → core x ≡ true
  largest q c = end.spared q c (λ x m k. unfold left elem in refl)

  -- nothing is left: complete
  if_empty : rest ≡ [] → verdict R t r ≡ Complete
  if_empty e =
      is_complete_lem R t r end.fine
      (all_zero_of r.rest R.size (λ i h. end.state.holds i h ∙ ap (λ (l : List Item). sum_at R l i) e ∙ sum-nil R i))
      (differing-agrees t s r.listed end.state.from)

  -- something is left: a bucket of it is shared, so it is not zero
  if_some : (x : Item) → Memᴰ x rest → verdict R t r ≡ Stuck
  if_some x m =
      let w = R.code (id_of x) in
      let i = placed.place w in
      let touched : touches R x i ≡ true = (unfold touches in placed.at_place w) in
      let h = placed.inside w i (placed.at_place w) in
      is_stuck R t r end.fine
      (not_all_zero r.rest R.size i h
      (ap is_zero (end.state.holds i h) ∙ (fair.clear core i h (closed i h (mem_load R x rest i m touched))).1))

  stopping : (x : Item) → Memᴰ x rest → StoppingSet R d core
  stopping x m = record { someone = x; belongs = mem_select core x d m; taken = mem_select_true core x d m; closed = closed }

  pub whole : ((q : Item → Bool) → StoppingSet R (differing t s) q → ⊥) → verdict R t (reading R (difference R t g)) ≡ Complete
  whole none-there = go rest refl
    where
      go : (l : List Item) → rest ≡ l → verdict R t r ≡ Complete
      go [] e = if_empty e
      go (x ∷ l) e = absurd (none-there core (stopping x (rw e (head refl))))

  pub stopped : (q : Item → Bool) → StoppingSet R (differing t s) q → verdict R t (reading R (difference R t g)) ≡ Stuck
  stopped q k =
      if_some k.someone (select_mem core k.someone d k.belongs (largest q k.closed k.someone k.belongs k.taken))

  pub never_false : (verdict R t (reading R (difference R t g)) ≡ Complete) ⊎ (verdict R t (reading R (difference R t g)) ≡ Stuck)
  never_false = go rest refl
    where
      go : (l : List Item) → rest ≡ l → (verdict R t r ≡ Complete) ⊎ (verdict R t r ≡ Stuck)
      go [] e = inl (if_empty e)
      go (x ∷ l) e = inr (if_some x (rw e (head refl)))

  pub exactly :
      let q = reading R (difference R t g) in
      Exactly R t s (ours_of q.listed) (theirs_of q.listed) (is_complete (verdict R t q))
  exactly = record {
    core = core;
    is_core = record { closed = closed; largest = largest };
    ours_are = λ a. side_listed d r.listed dd end.state.from ours ours_of mem_ours ours_mem a
        ∙ ap (λ (l : List ℕ). elem a l && not (core (ours a))) (differing-ours t s);
    theirs_are = λ a. side_listed d r.listed dd end.state.from theirs theirs_of mem_theirs theirs_mem a
        ∙ ap (λ (l : List ℕ). elem a l && not (core (theirs a))) (differing-theirs t s);
    once = distinct_append (ours_of r.listed) (theirs_of r.listed) (distinct-ours r.listed dl) (distinct-theirs r.listed dl) (sides_apart r.listed dl);
    whole = λ none-there. ap is_complete (whole none-there);
    stopped = λ q k. ap is_complete (stopped q k);
  }
    where
      dd : Distinct (ids d)
      dd = differing-distinct t s dt ds

      dl : Distinct (ids r.listed)
      dl = reading-distinct R (difference R t g)
