-- A peeling, step by step: the search for the first pure bucket and how far it goes, what each kind of step leaves of the invariant
-- `reading R f₀ ≡ run R k (next R acc f) acc f`, and that a reading goes by the buckets below the size alone. Assumes nothing.
use mathlib.Core.Path.{◌≡◌, refl, sym, ap, ap₂, subst, ◌∙◌}
use mathlib.Core.Bool.{Bool, true, false, ◌&&◌, ◌||◌, cond, and-eq-true_iff}
use mathlib.Core.List.{List, [], ◌∷◌}
use mathlib.Core.Logic.{◌⊎◌, inl, inr}
use mathlib.Core.Option.{Option, none, some, none-ne-some, some-ne-none}
use Prim.Native.Nat.{ℕ, zero, suc, ◌+◌, ◌≤◌, ◌<◌}
use native.Mathlib.Nat.{eq-or-lt_of_le}
use native.Mathlib.Omega.{arith}
use lib.Dec.{eqb, ltb}
use lib.ListN.{length}
use borrow.Author.Tests.{ltb-true, lt-ltb}
use Rattle.bucket.specs.Bucket.{Bucket, ◌⊖◌, is_zero}
use Rattle.bucket.specs.Lists.{elem}
use Rattle.bucket.proofs.ListLaws.{or_assoc}
use Rattle.filter.specs.Filter.{Item, ours, theirs, id_of, ids, ours_of, theirs_of, Rule, put}
use Rattle.filter.specs.Peeling.{
  sided,
  or_else,
  first,
  up_to,
  reach,
  all_zero,
  Next,
  nothing,
  again,
  take,
  chosen,
  Outcome,
  ended,
  is_pure,
  look,
  remove,
  next,
  run,
  reading,
  looking,
  looked,
}
use Rattle.filter.proofs.MarkLaws.{Least}
use Rattle.filter.specs.Steps.{shows}
use Rattle.filter.proofs.SetLaws.{or_swap}

-- ---- the search

module _ (g : ℕ → Option Item) where
  pub first_some : (i n : ℕ) (x : Item) → first g i n ≡ some x → (j : ℕ) × (i ≤ j) × (j < i + n) × (g j ≡ some x)
  unfolding first
  first_some i zero x e = absurd (none-ne-some x e)
  first_some i (suc n) x e = go (g i) refl e (first_some (suc i) n x)
    where
      go : (o : Option Item) → g i ≡ o → or_else o (first g (suc i) n) ≡ some x
          → (first g (suc i) n ≡ some x → (j : ℕ) × (suc i ≤ j) × (j < suc i + n) × (g j ≡ some x))
          → (j : ℕ) × (i ≤ j) × (j < i + suc n) × (g j ≡ some x)
      go (some y) h k ih = (i, omega arith, omega arith, h ∙ k)
      go none h k ih = let r = ih k in (r.0, omega arith, omega arith, r.3)

  pub first-none : (i n : ℕ) → first g i n ≡ none → (j : ℕ) → i ≤ j → j < i + n → g j ≡ none
  unfolding first
  first-none i zero e j l h = absurd (omega arith)
  first-none i (suc n) e j l h = go (g i) refl e (eq-or-lt_of_le l) (first-none (suc i) n)
    where
      go : (o : Option Item) → g i ≡ o → or_else o (first g (suc i) n) ≡ none → (i ≡ j) ⊎ (i < j)
          → (first g (suc i) n ≡ none → (j : ℕ) → suc i ≤ j → j < suc i + n → g j ≡ none) → g j ≡ none
      go (some y) k m c ih = absurd (some-ne-none y m)
      go none k m (inl p) ih = ap g (sym p) ∙ k
      go none k m (inr p) ih = ih m j p (omega arith)

  -- what a look finds, and how many buckets it goes over
  abbrev pub Finds : ℕ → ℕ → Option Item → ℕ → Type 0
  Finds i n o m = (first g i n ≡ o) × (reach g i n ≡ m)

  one_on : (i n : ℕ) {o p : Option Item} {m : ℕ} → g i ≡ o → Finds (suc i) n p m → Finds i (suc n) (or_else o p) (up_to o (i + 1) m)
  unfolding first reach
  one_on i n e (d, r) = (ap₂ or_else e d, ap₂ (λ (o : Option Item) (m : ℕ). up_to o (i + 1) m) e r)

  -- nothing is found where there is nothing
  pub first_of_none : (i n : ℕ) → ((j : ℕ) → i ≤ j → j < i + n → g j ≡ none) → Finds i n none (i + n)
  unfolding first reach
  first_of_none i zero h = (refl, omega arith)
  first_of_none i (suc n) h =
      let r = one_on i n (h i (omega arith) (omega arith)) (first_of_none (suc i) n (λ j l k. h j (omega arith) (omega arith))) in
      (r.0, omega (arith, r.1))

  -- nothing before j, then an answer at j
  pub first_found : (i n j : ℕ) (x : Item) → ((k : ℕ) → i ≤ k → k < j → g k ≡ none) → i ≤ j → j < i + n → g j ≡ some x
      → Finds i n (some x) (j + 1)
  first_found i zero j x h l b e = absurd (omega arith)
  first_found i (suc n) j x h l b e = go (eq-or-lt_of_le l) (first_found (suc i) n j x (λ k p q. h k (omega arith) q))
    where
      go : (i ≡ j) ⊎ (i < j) → (suc i ≤ j → j < suc i + n → g j ≡ some x → Finds (suc i) n (some x) (j + 1))
          → Finds i (suc n) (some x) (j + 1)
      go (inl p) ih = let r = one_on i n (ap g p ∙ e) (refl, refl) in (r.0, r.1 ∙ ap (λ (m : ℕ). m + 1) p)
      go (inr p) ih = one_on i n (h i (omega arith) p) (ih p (omega arith) e)

  pub reach-most : (i n : ℕ) → reach g i n ≤ i + n
  unfolding reach
  reach-most i zero = omega arith
  reach-most i (suc n) = go (g i) (reach-most (suc i) n)
    where
      go : (o : Option Item) → reach g (suc i) n ≤ suc i + n → up_to o (i + 1) (reach g (suc i) n) ≤ i + suc n
      go (some x) m = omega arith
      go none m = omega arith

pub first_cong : (g h : ℕ → Option Item) (i n : ℕ) → ((j : ℕ) → i ≤ j → j < i + n → g j ≡ h j) → Finds g i n (first h i n) (reach h i n)
unfolding first reach
first_cong g h i zero e = (refl, refl)
first_cong g h i (suc n) e =
    one_on g i n (e i (omega arith) (omega arith)) (first_cong g h (suc i) n (λ j l k. e j (omega arith) (omega arith)))

-- ---- what a look shows

module _ (R : Rule) where
  -- the item that a bucket shows where it looks pure
  abbrev pub shown : Bucket → Item
  shown b = sided b.count (R.decode b.idsum)

  pub look_pure : (i : ℕ) (b : Bucket) → is_pure R i b ≡ true → look R i b ≡ some (shown b)
  unfolding look
  look_pure i b e = ap (λ (t : Bool). cond t (some (shown b)) none) e

  pub look_not : (i : ℕ) (b : Bucket) → is_pure R i b ≡ false → look R i b ≡ none
  unfolding look
  look_not i b e = ap (λ (t : Bool). cond t (some (shown b)) none) e

  pub look-some : (i : ℕ) (b : Bucket) (x : Item) → look R i b ≡ some x → is_pure R i b ≡ true
  unfolding look
  look-some i b x e = go (is_pure R i b) e
    where
      go : (t : Bool) → cond t (some (shown b)) none ≡ some x → t ≡ true
      go true k = refl
      go false k = absurd (none-ne-some x k)

  abbrev pub looks : (ℕ → Bucket) → ℕ → Option Item
  looks f i = look R i (f i)

  -- nothing pure below i, and bucket i pure
  pub first_pure : (f : ℕ → Bucket) (n i : ℕ) → ((j : ℕ) → j < i → is_pure R j (f j) ≡ false) → i < n → is_pure R i (f i) ≡ true
      → Finds (looks f) 0 n (some (shown (f i))) (i + 1)
  first_pure f n i h l e =
      first_found (looks f) 0 n i (shown (f i)) (λ k p q. look_not k (f k) (h k q)) (omega arith) (omega arith) (look_pure i (f i) e)

  pub first_impure : (f : ℕ → Bucket) (n : ℕ) → ((j : ℕ) → j < n → is_pure R j (f j) ≡ false) → Finds (looks f) 0 n none (0 + n)
  first_impure f n h = first_of_none (looks f) 0 n (λ j l k. look_not j (f j) (h j (omega arith)))

-- ---- what comes next

pub chosen-take : (o : Option Item) (acc : List Item) (x : Item) → chosen o acc ≡ take x → (o ≡ some x) × (elem (id_of x) (ids acc) ≡ false)
chosen-take none acc x e = (cc, cc)
chosen-take (some y) acc x e = go (elem (id_of y) (ids acc)) refl e
  where
    go : (t : Bool) → elem (id_of y) (ids acc) ≡ t → cond t again (take y) ≡ take x
        → (◌≡◌ {A = Option Item} (some y) (some x)) × (elem (id_of x) (ids acc) ≡ false)
    go true h k = (cc, cc)
    go false h k = (cc, cc)

pub chosen-nothing : (o : Option Item) (acc : List Item) → chosen o acc ≡ nothing → o ≡ none
chosen-nothing none acc e = refl
chosen-nothing (some y) acc e = go (elem (id_of y) (ids acc)) e
  where
    go : (t : Bool) → cond t again (take y) ≡ nothing → ◌≡◌ {A = Option Item} (some y) none
    go true k = cc
    go false k = cc

pub chosen-again : (o : Option Item) (acc : List Item) → chosen o acc ≡ again → (x : Item) × (o ≡ some x) × (elem (id_of x) (ids acc) ≡ true)
chosen-again none acc e = (ours 0, cc, cc)
chosen-again (some y) acc e = (y, refl, go (elem (id_of y) (ids acc)) e)
  where
    go : (t : Bool) → cond t again (take y) ≡ again → t ≡ true
    go true k = refl
    go false k = cc

module _ (R : Rule) (acc : List Item) (f : ℕ → Bucket) where
  pub next-take : (x : Item) → next R acc f ≡ take x → (first (looks R f) 0 R.size ≡ some x) × (elem (id_of x) (ids acc) ≡ false)
  unfolding next
  next-take x e = chosen-take (first (looks R f) 0 R.size) acc x e

  pub next-nothing : next R acc f ≡ nothing → first (looks R f) 0 R.size ≡ none
  unfolding next
  next-nothing e = chosen-nothing (first (looks R f) 0 R.size) acc e

  pub next-again : next R acc f ≡ again → (x : Item) × (first (looks R f) 0 R.size ≡ some x) × (elem (id_of x) (ids acc) ≡ true)
  unfolding next
  next-again e = chosen-again (first (looks R f) 0 R.size) acc e

  pub next-none : ((i : ℕ) → i < R.size → is_pure R i (f i) ≡ false) → next R acc f ≡ nothing
  unfolding next
  next-none h = ap (λ (o : Option Item). chosen o acc) (first_impure R f R.size h).0

  module _ (i : ℕ) (below : (j : ℕ) → j < i → is_pure R j (f j) ≡ false) (inside : i < R.size) (here : is_pure R i (f i) ≡ true) where
    next_pure : next R acc f ≡ cond (elem (id_of (shown R (f i))) (ids acc)) again (take (shown R (f i)))
    unfolding next
    next_pure = ap (λ (o : Option Item). chosen o acc) (first_pure R f R.size i below inside here).0

    pub next-fresh : elem (id_of (shown R (f i))) (ids acc) ≡ false → next R acc f ≡ take (shown R (f i))
    next-fresh e = next_pure ∙ ap (λ (t : Bool). cond t again (take (shown R (f i)))) e

    pub next_repeat : elem (id_of (shown R (f i))) (ids acc) ≡ true → next R acc f ≡ again
    next_repeat e = next_pure ∙ ap (λ (t : Bool). cond t again (take (shown R (f i)))) e

-- the set of pure buckets below the size
module _ (R : Rule) (f : ℕ → Bucket) where
  shows-inside : (i : ℕ) → i < R.size → shows R f i ≡ is_pure R i (f i)
  shows-inside i h = ap (λ (t : Bool). t && is_pure R i (f i)) (lt-ltb i R.size h)

  pub shows-none : ((i : ℕ) → i < R.size → shows R f i ≡ false) → (i : ℕ) → i < R.size → is_pure R i (f i) ≡ false
  shows-none h i l = sym (shows-inside i l) ∙ h i l

  pub least-inside : (r : ℕ) → Least (shows R f) r → r < R.size
  least-inside r l = ltb-true r R.size ((and-eq-true_iff (ltb r R.size) (is_pure R r (f r))).0 l.here).0

  pub least_pure : (r : ℕ) → Least (shows R f) r → is_pure R r (f r) ≡ true
  least_pure r l = ((and-eq-true_iff (ltb r R.size) (is_pure R r (f r))).0 l.here).1

  pub least-below : (r : ℕ) → Least (shows R f) r → (j : ℕ) → j < r → is_pure R j (f j) ≡ false
  least-below r l j h = let b = least-inside r l in sym (shows-inside j (omega arith)) ∙ l.below j h

-- an ID was listed if it was listed on one of the sides
pub listed_sides : (a : ℕ) (l : List Item) → elem a (ids l) ≡ elem a (ours_of l) || elem a (theirs_of l)
unfolding elem ours_of theirs_of
listed_sides a [] = refl
listed_sides a (ours b ∷ l) =
    ap (λ (t : Bool). eqb a b || t) (listed_sides a l) ∙ sym (or_assoc (eqb a b) (elem a (ours_of l)) (elem a (theirs_of l)))
listed_sides a (theirs b ∷ l) = ap (λ (t : Bool). eqb a b || t) (listed_sides a l) ∙ or_swap (elem a (ours_of l)) (eqb a b) (elem a (theirs_of l))

-- ---- the invariant of a loop that peels: k more peels may be made, and looks have gone over l buckets

module _ (R : Rule) (f₀ : ℕ → Bucket) where
  -- the steps to come, by what comes next
  abbrev From : ℕ → Next → List Item → (ℕ → Bucket) → ℕ → Type 0
  From k y acc f l = (reading R f₀ ≡ run R k y acc f) × (looked R f₀ ≡ l + looking R k y acc f)

  abbrev pub Inv : ℕ → List Item → (ℕ → Bucket) → ℕ → Type 0
  Inv k acc f l = From k (next R acc f) acc f l

  -- how it ended
  abbrev pub Ended : Bool → List Item → (ℕ → Bucket) → ℕ → Type 0
  Ended fine acc f l = (reading R f₀ ≡ ended fine acc f) × (looked R f₀ ≡ l)

  abbrev one : (ℕ → Bucket) → ℕ
  one f = reach (looks R f) 0 R.size

  pub inv-start : Inv R.size [] f₀ 0
  unfolding reading looked
  inv-start = (refl, omega arith)

  module _ (acc : List Item) (f : ℕ → Bucket) (l : ℕ) where
    leads : (k : ℕ) (y : Next) → Inv k acc f l → next R acc f ≡ y → From k y acc f l
    leads k y i e = subst (λ (z : Next). From k z acc f l) e i

    pub inv-take : (k : ℕ) (x : Item) → Inv (suc k) acc f l → next R acc f ≡ take x → Inv k (x ∷ acc) (remove R x f) (l + one f)
    unfolding run looking
    inv-take k x i e = let r = leads (suc k) (take x) i e in (r.0, omega (arith, r.1))

    pub inv-nothing : (k : ℕ) → Inv k acc f l → next R acc f ≡ nothing → Ended true acc f (l + one f)
    unfolding run looking
    inv-nothing zero i e = leads zero nothing i e
    inv-nothing (suc k) i e = leads (suc k) nothing i e

    pub inv-again : (k : ℕ) → Inv k acc f l → next R acc f ≡ again → Ended false acc f (l + one f)
    unfolding run looking
    inv-again zero i e = leads zero again i e
    inv-again (suc k) i e = leads (suc k) again i e

    -- one more peel than there are buckets
    pub inv_full : (x : Item) → Inv 0 acc f l → next R acc f ≡ take x → Ended false acc f (l + one f)
    unfolding run looking
    inv_full x i e = leads zero (take x) i e

-- no bucket looks pure
pub impure_reading : (R : Rule) (f : ℕ → Bucket) → ((i : ℕ) → i < R.size → is_pure R i (f i) ≡ false) → Ended R f true [] f R.size
impure_reading R f h =
    let r = inv-nothing R f [] f 0 R.size (inv-start R f) (next-none R [] f h) in
    (r.0, omega (arith, r.1, (first_impure R f R.size h).1))

-- ---- a reading goes by the buckets below the size alone

pub all_zero_cong : (f g : ℕ → Bucket) (n : ℕ) → ((i : ℕ) → i < n → f i ≡ g i) → all_zero f n ≡ all_zero g n
unfolding all_zero
all_zero_cong f g zero s = refl
all_zero_cong f g (suc n) s = ap₂ ◌&&◌ (ap is_zero (s n (omega arith))) (all_zero_cong f g n (λ i h. s i (omega arith)))

module _ (R : Rule) where
  abbrev pub Same : (ℕ → Bucket) → (ℕ → Bucket) → Type 0
  Same f g = (i : ℕ) → i < R.size → f i ≡ g i

  look_cong : (f g : ℕ → Bucket) → Same f g → Finds (looks R f) 0 R.size (first (looks R g) 0 R.size) (reach (looks R g) 0 R.size)
  look_cong f g s = first_cong (looks R f) (looks R g) 0 R.size (λ i l h. ap (look R i) (s i (omega arith)))

  pub next_cong : (acc : List Item) (f g : ℕ → Bucket) → Same f g → next R acc f ≡ next R acc g
  unfolding next
  next_cong acc f g s = ap (λ (o : Option Item). chosen o acc) (look_cong f g s).0

  pub remove_cong : (x : Item) (f g : ℕ → Bucket) → Same f g → Same (remove R x f) (remove R x g)
  unfolding remove
  remove_cong x f g s i h = ap (λ (b : Bucket). b ⊖ put R x i) (s i h)

  pub record Alike (r q : Outcome) : Type 0 where
    pub fine : r.fine ≡ q.fine
    pub listed : r.listed ≡ q.listed
    pub rest : Same r.rest q.rest

  pub run_cong : (k : ℕ) (n : Next) (acc : List Item) (f g : ℕ → Bucket) → Same f g → Alike (run R k n acc f) (run R k n acc g)
  unfolding run
  run_cong zero nothing acc f g s = record { fine = refl; listed = refl; rest = s }
  run_cong zero again acc f g s = record { fine = refl; listed = refl; rest = s }
  run_cong zero (take x) acc f g s = record { fine = refl; listed = refl; rest = s }
  run_cong (suc k) nothing acc f g s = record { fine = refl; listed = refl; rest = s }
  run_cong (suc k) again acc f g s = record { fine = refl; listed = refl; rest = s }
  run_cong (suc k) (take x) acc f g s =
      rw (next_cong (x ∷ acc) (remove R x f) (remove R x g) (remove_cong x f g s))
      (run_cong k (next R (x ∷ acc) (remove R x g)) (x ∷ acc) (remove R x f) (remove R x g) (remove_cong x f g s))

  pub reading_cong : (f g : ℕ → Bucket) → Same f g → Alike (reading R f) (reading R g)
  unfolding reading
  reading_cong f g s = rw (next_cong [] f g s) (run_cong R.size (next R [] g) [] f g s)

  looking_cong : (k : ℕ) (n : Next) (acc : List Item) (f g : ℕ → Bucket) → Same f g → looking R k n acc f ≡ looking R k n acc g
  unfolding looking
  looking_cong zero n acc f g s = (look_cong f g s).1
  looking_cong (suc k) nothing acc f g s = (look_cong f g s).1
  looking_cong (suc k) again acc f g s = (look_cong f g s).1
  looking_cong (suc k) (take x) acc f g s =
      rw (next_cong (x ∷ acc) (remove R x f) (remove R x g) (remove_cong x f g s))
      (ap₂ ◌+◌ (look_cong f g s).1
      (looking_cong k (next R (x ∷ acc) (remove R x g)) (x ∷ acc) (remove R x f) (remove R x g) (remove_cong x f g s)))

  pub looked_cong : (f g : ℕ → Bucket) → Same f g → looked R f ≡ looked R g
  unfolding looked
  looked_cong f g s = rw (next_cong [] f g s) (looking_cong R.size (next R [] g) [] f g s)

  -- ---- at most as many items are listed as peels are made

  run-few : (k : ℕ) (n : Next) (acc : List Item) (f : ℕ → Bucket) → length (run R k n acc f).listed ≤ length acc + k
  unfolding run
  run-few zero nothing acc f = omega arith
  run-few zero again acc f = omega arith
  run-few zero (take x) acc f = omega arith
  run-few (suc k) nothing acc f = omega arith
  run-few (suc k) again acc f = omega arith
  run-few (suc k) (take x) acc f = omega (arith, run-few k (next R (x ∷ acc) (remove R x f)) (x ∷ acc) (remove R x f))

  pub listed-few : (f : ℕ → Bucket) → length (reading R f).listed ≤ R.size
  unfolding reading
  listed-few f = omega (arith, run-few R.size (next R [] f) [] f)
