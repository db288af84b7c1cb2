-- How many items of a list lie in a bucket, what the bucket then holds, and the measure of peeling: how many buckets are touched.
-- Assumes nothing.
use mathlib.Core.Path.{◌≡◌, refl, sym, ap, ◌∙◌, subst}
use mathlib.Core.Bool.{Bool, true, false}
use mathlib.Core.List.{List, [], ◌∷◌, Memᴰ}
use mathlib.Core.List.Memᴰ.{head}
use mathlib.Core.List.Memᴰ.{tail}
use mathlib.Core.Option.{some}
use mathlib.Core.Logic.{◌⊎◌, inl, inr}
use Prim.Native.Nat.{ℕ, zero, suc, ◌+◌, ◌≤◌, ◌<◌, min}
use native.Mathlib.Nat.{not-suc-le-zero, le_of_suc-le-suc, eq-or-lt_of_le}
use native.Mathlib.Omega.{arith}
use Rattle.bucket.specs.Bucket.{Bucket, ◌⊕◌, 𝟎}
use Rattle.bucket.specs.Lists.{elem}
use Rattle.bucket.proofs.BucketLaws.{⊕-idl, ⊕-idr}
use Rattle.bucket.proofs.ListLaws.{eqb_self}
use Rattle.filter.specs.Lists.{select}
use Rattle.filter.specs.Filter.{Item, ours, theirs, id_of, Rule, touches, cell, put, sum_at, load}
use Rattle.filter.specs.Peeling.{is_pure, look}
use Rattle.filter.proofs.SelectLaws.{Pick, here, there, select_yes, select_no, select_cases}

module _ (R : Rule) where
  -- a bucket that holds one item shows it
  pub look-cell : (x : Item) (i : ℕ) → R.decode (R.code (id_of x)) ≡ id_of x → touches R x i ≡ true → look R i (cell R x) ≡ some x
  unfolding look is_pure cell touches
  look-cell (ours a) i c e = rw (eqb_self, e, c)
  look-cell (theirs a) i c e = rw (eqb_self, e, c)

  pub pure_zero : (i : ℕ) → is_pure R i 𝟎 ≡ false
  unfolding is_pure 𝟎
  pure_zero i = refl

  pub touches-id : (x y : Item) (i : ℕ) → id_of y ≡ id_of x → touches R x i ≡ true → touches R y i ≡ true
  unfolding touches
  touches-id x y i p e = ap (λ (a : ℕ). elem i (R.places (R.code a))) p ∙ e

  -- ---- one item more

  put_in : (x : Item) (i : ℕ) → touches R x i ≡ true → put R x i ≡ cell R x
  unfolding put
  put_in x i e = rw e

  put-out : (x : Item) (i : ℕ) → touches R x i ≡ false → put R x i ≡ 𝟎
  unfolding put
  put-out x i e = rw e

  load_in : (x : Item) (l : List Item) (i : ℕ) → touches R x i ≡ true → load R (x ∷ l) i ≡ suc (load R l i)
  unfolding load
  load_in x l i e = rw e (omega arith)

  load-out : (x : Item) (l : List Item) (i : ℕ) → touches R x i ≡ false → load R (x ∷ l) i ≡ load R l i
  unfolding load
  load-out x l i e = rw e (omega arith)

  sum_in : (x : Item) (l : List Item) (i : ℕ) → touches R x i ≡ true → sum_at R (x ∷ l) i ≡ cell R x ⊕ sum_at R l i
  unfolding sum_at
  sum_in x l i e = ap (λ (b : Bucket). b ⊕ sum_at R l i) (put_in x i e)

  sum-out : (x : Item) (l : List Item) (i : ℕ) → touches R x i ≡ false → sum_at R (x ∷ l) i ≡ sum_at R l i
  unfolding sum_at
  sum-out x l i e = ap (λ (b : Bucket). b ⊕ sum_at R l i) (put-out x i e) ∙ ⊕-idl (sum_at R l i)

  load_cons : (x : Item) (l m : List Item) (i : ℕ) → load R l i ≤ load R m i → load R (x ∷ l) i ≤ load R (x ∷ m) i
  unfolding load
  load_cons x l m i h = omega arith

  load-more : (x : Item) (l : List Item) (i : ℕ) → load R l i ≤ load R (x ∷ l) i
  unfolding load
  load-more x l i = omega arith

  -- ---- buckets with none, one or some

  pub load_zero : (l : List Item) (i : ℕ) → load R l i ≡ 0 → sum_at R l i ≡ 𝟎
  load_zero [] i e = unfold sum_at in refl
  load_zero (x ∷ l) i e = go (touches R x i) refl (load_zero l i)
    where
      go : (t : Bool) → touches R x i ≡ t → (load R l i ≡ 0 → sum_at R l i ≡ 𝟎) → sum_at R (x ∷ l) i ≡ 𝟎
      go true h ih = let more = load_in x l i h in absurd (omega arith)
      go false h ih = sum-out x l i h ∙ ih (sym (load-out x l i h) ∙ e)

  pub load_one : (l : List Item) (i : ℕ) → load R l i ≡ 1
      → (x : Item) × Memᴰ x l × (touches R x i ≡ true) × (sum_at R l i ≡ cell R x)
  load_one [] i e = absurd (unfold load in omega arith)
  load_one (x ∷ l) i e = go (touches R x i) refl (load_one l i)
    where
      go : (t : Bool) → touches R x i ≡ t
          → (load R l i ≡ 1 → (x : Item) × Memᴰ x l × (touches R x i ≡ true) × (sum_at R l i ≡ cell R x))
          → (y : Item) × Memᴰ y (x ∷ l) × (touches R y i ≡ true) × (sum_at R (x ∷ l) i ≡ cell R y)
      go true h ih =
          let more = load_in x l i h in
          (x, head refl, h, sum_in x l i h ∙ ap (λ (b : Bucket). cell R x ⊕ b) (load_zero l i (omega arith)) ∙ ⊕-idr (cell R x))
      go false h ih =
          let r = ih (sym (load-out x l i h) ∙ e) in
          (r.0, tail r.1, r.2, sum-out x l i h ∙ r.3)

  pub mem_load : (x : Item) (l : List Item) (i : ℕ) → Memᴰ x l → touches R x i ≡ true → 1 ≤ load R l i
  mem_load x [] i m e = elim m [ ]
  mem_load x (y ∷ l) i (head h) e = let k = load_in y l i (subst (λ (z : Item). touches R z i ≡ true) h e) in omega arith
  mem_load x (y ∷ l) i (tail m) e = omega (arith, mem_load x l i m e, load-more y l i)

  -- ---- an item taken out, and parts of parts

  pub load_pick_in : (i : ℕ) {x : Item} {l r : List Item} → Pick x l r → touches R x i ≡ true → load R l i ≡ suc (load R r i)
  load_pick_in i {x} (here {l = l} e) h = subst (λ (y : Item). load R (y ∷ l) i ≡ suc (load R l i)) e (load_in x l i h)
  load_pick_in i {x} (there {y = y} {l = l} {r = r} p) h = go (touches R y i) refl (load_pick_in i p h)
    where
      go : (t : Bool) → touches R y i ≡ t → load R l i ≡ suc (load R r i) → load R (y ∷ l) i ≡ suc (load R (y ∷ r) i)
      go true k ih = omega (arith, load_in y l i k, load_in y r i k)
      go false k ih = omega (arith, load-out y l i k, load-out y r i k)

  pub pick_less : (i : ℕ) {x : Item} {l r : List Item} → Pick x l r → load R r i ≤ load R l i
  pick_less i (here {y = y} {l = l} e) = load-more y l i
  pick_less i (there {y = y} {l = l} {r = r} p) = load_cons y r l i (pick_less i p)

  pub load_mono : (p q : Item → Bool) (l : List Item) (i : ℕ) → ((y : Item) → Memᴰ y l → p y ≡ true → q y ≡ true)
      → load R (select p l) i ≤ load R (select q l) i
  load_mono p q [] i h = unfold select in omega arith
  load_mono p q (x ∷ l) i h = go (p x) refl (load_mono p q l i (λ y m. h y (tail m)))
    where
      up : load R (select q l) i ≤ load R (select q (x ∷ l)) i
      up =
          select_cases (λ (b : List Item). load R (select q l) i ≤ load R b i) q x l (λ e. load-more x (select q l) i) (λ e. omega arith)

      go : (t : Bool) → p x ≡ t → load R (select p l) i ≤ load R (select q l) i
          → load R (select p (x ∷ l)) i ≤ load R (select q (x ∷ l)) i
      go true e ih =
          rw (select_yes p x l e, select_yes q x l (h x (head refl) e)) (load_cons x (select p l) (select q l) i ih)
      go false e ih = rw (select_no p x l e) (omega (arith, up))

  -- ---- how many buckets below n are touched

  pub busy : List Item → ℕ → ℕ
  busy l zero = 0
  busy l (suc n) = min 1 (load R l n) + busy l n

  pub busy_le : (l : List Item) (n : ℕ) → busy l n ≤ n
  unfolding busy
  busy_le l zero = omega arith
  busy_le l (suc n) = omega (arith, busy_le l n)

  busy_mono : (l m : List Item) (n : ℕ) → ((i : ℕ) → load R l i ≤ load R m i) → busy l n ≤ busy m n
  unfolding busy
  busy_mono l m zero h = omega arith
  busy_mono l m (suc n) h = omega (arith, busy_mono l m n h, h n)

  pub busy_less : (l m : List Item) (n j : ℕ) → ((i : ℕ) → load R l i ≤ load R m i) → j < n → load R l j ≡ 0 → 1 ≤ load R m j
      → busy l n < busy m n
  unfolding busy
  busy_less l m zero j h b z o = absurd (not-suc-le-zero b)
  busy_less l m (suc n) j h b z o = go (eq-or-lt_of_le (le_of_suc-le-suc b)) (λ p. busy_less l m n j h p z o)
    where
      go : (j ≡ n) ⊎ (j < n) → (j < n → busy l n < busy m n) → busy l (suc n) < busy m (suc n)
      go (inl p) ih =
          let none_left : load R l n ≡ 0 = subst (λ (k : ℕ). load R l k ≡ 0) p z in
          let some-there : 1 ≤ load R m n = subst (λ (k : ℕ). 1 ≤ load R m k) p o in
          omega (arith, busy_mono l m n h)
      go (inr p) ih = omega (arith, ih p, h n)
