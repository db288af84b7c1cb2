-- Sums over lists of items: the filter of a list does not mind order, joins of lists are sums, the two sides of an ID cancel,
-- and table minus set is the sum of their true difference. Assumes nothing.
use mathlib.Core.Path.{◌≡◌, refl, sym, ap, ap₂, ◌∙◌}
use mathlib.Core.Bool.{Bool, true, false, cond}
use mathlib.Core.List.{List, [], ◌∷◌, ◌++◌, map, reverse, reverse-cons, Memᴰ}
use mathlib.Core.List.Memᴰ.{head}
use mathlib.Core.List.Memᴰ.{tail}
use Prim.Native.Nat.{ℕ}
use Rattle.bucket.specs.Bucket.{Bucket, ◌⊕◌, neg, 𝟎}
use Rattle.bucket.specs.Lists.{elem, Distinct}
use Rattle.bucket.proofs.BucketLaws.{⊕-assoc, ⊕-comm, ⊕-left-comm, ⊕-idl, ⊕-idr, ⊕-invl, ⊕-four, ⊕-cancel-r, neg_then}
use Rattle.filter.specs.Lists.{minus, select}
use Rattle.filter.specs.Filter.{Item, ours, theirs, ours_of, theirs_of, Rule, touches, cell, put, sum_at, filter_of, difference}
use Rattle.filter.specs.Stopping.{differing}
use Rattle.filter.proofs.SelectLaws.{Pick, here, there, pick_map, pick_minus, minus-nil, minus_skip, minus-cons, minus_other, elem_mem}
use Rattle.filter.proofs.SideLaws.{ours_of_lem, theirs_of_lem}

module _ (R : Rule) where
  pub sum-nil : (i : ℕ) → sum_at R [] i ≡ 𝟎
  unfolding sum_at
  sum-nil i = refl

  pub sum_pick : (i : ℕ) {x : Item} {l r : List Item} → Pick x l r → sum_at R l i ≡ put R x i ⊕ sum_at R r i
  unfolding sum_at
  sum_pick i (here {l = l} e) = ap (λ (y : Item). put R y i ⊕ sum_at R l i) (sym e)
  sum_pick i {x} (there {y = y} {r = r} p) =
      ap (λ (b : Bucket). put R y i ⊕ b) (sum_pick i p) ∙ ⊕-left-comm (put R y i) (put R x i) (sum_at R r i)

  pub sum-append : (l m : List Item) (i : ℕ) → sum_at R (l ++ m) i ≡ sum_at R l i ⊕ sum_at R m i
  unfolding sum_at
  sum-append [] m i = sym (⊕-idl (sum_at R m i))
  sum-append (x ∷ l) m i =
      ap (λ (b : Bucket). put R x i ⊕ b) (sum-append l m i) ∙ sym (⊕-assoc (put R x i) (sum_at R l i) (sum_at R m i))

  pub filter_append : (l m : List ℕ) (i : ℕ) → filter_of R (l ++ m) i ≡ filter_of R l i ⊕ filter_of R m i
  unfolding filter_of sum_at
  filter_append [] m i = sym (⊕-idl (filter_of R m i))
  filter_append (a ∷ l) m i =
      ap (λ (b : Bucket). put R (ours a) i ⊕ b) (filter_append l m i)
      ∙ sym (⊕-assoc (put R (ours a) i) (filter_of R l i) (filter_of R m i))

  pub filter_reverse : (l : List ℕ) (i : ℕ) → filter_of R (reverse l) i ≡ filter_of R l i
  unfolding filter_of sum_at
  filter_reverse [] i = refl
  filter_reverse (a ∷ l) i =
      ap (λ (m : List ℕ). filter_of R m i) (reverse-cons a l)
      ∙ filter_append (reverse l) (a ∷ []) i
      ∙ ap₂ ◌⊕◌ (filter_reverse l i) (⊕-idr (put R (ours a) i))
      ∙ ⊕-comm (filter_of R l i) (put R (ours a) i)

  pub put_sides : (a i : ℕ) → put R (theirs a) i ⊕ put R (ours a) i ≡ 𝟎
  unfolding put cell touches neg
  put_sides a i = go (elem i (R.places (R.code a)))
    where
      go : (t : Bool) → cond t (cell R (theirs a)) 𝟎 ⊕ cond t (cell R (ours a)) 𝟎 ≡ 𝟎
      go true = ⊕-invl (cell R (ours a))
      go false = ⊕-idl 𝟎

  pub sum_sides : (l : List Item) (i : ℕ) → sum_at R l i ⊕ filter_of R (theirs_of l) i ≡ filter_of R (ours_of l) i
  unfolding sum_at filter_of theirs_of ours_of
  sum_sides [] i = ⊕-idl 𝟎
  sum_sides (ours a ∷ l) i =
      ⊕-assoc (put R (ours a) i) (sum_at R l i) (filter_of R (theirs_of l) i) ∙ ap (λ (b : Bucket). put R (ours a) i ⊕ b) (sum_sides l i)
  sum_sides (theirs a ∷ l) i =
      ⊕-four (put R (theirs a) i) (sum_at R l i) (put R (ours a) i) (filter_of R (theirs_of l) i)
      ∙ ap₂ ◌⊕◌ (put_sides a i) (sum_sides l i)
      ∙ ⊕-idl (filter_of R (ours_of l) i)

  -- IDs taken out of a table
  pub sum-minus : (t l : List ℕ) (i : ℕ) → Distinct t → Distinct l → ((a : ℕ) → Memᴰ a l → Memᴰ a t)
      → filter_of R t i ≡ filter_of R l i ⊕ filter_of R (minus t l) i
  unfolding filter_of sum_at
  sum-minus t [] i dt dl sub = rw minus-nil (sym (⊕-idl (filter_of R t i)))
  sum-minus t (a ∷ l) i dt dl sub =
      sum-minus t l i dt dl.1 (λ b m. sub b (tail m))
      ∙ ap (λ (b : Bucket). filter_of R l i ⊕ b) (sum_pick i (pick_map ours (pick_minus t l a dt (sub a (head refl)) dl.0)))
      ∙ ⊕-left-comm (filter_of R l i) (put R (ours a) i) (filter_of R (minus t (a ∷ l)) i)
      ∙ sym (⊕-assoc (put R (ours a) i) (filter_of R l i) (filter_of R (minus t (a ∷ l)) i))

  -- table and set differ by what is only in one of them
  pub sum_cross : (t s : List ℕ) (i : ℕ) → Distinct t → Distinct s
      → filter_of R t i ⊕ filter_of R (minus s t) i ≡ filter_of R s i ⊕ filter_of R (minus t s) i
  unfolding filter_of sum_at
  sum_cross [] s i dt ds =
      rw minus-nil (⊕-idl (filter_of R s i) ∙ sym (⊕-idr (filter_of R s i)) ∙ (unfold minus select in refl))
  sum_cross (a ∷ t) s i dt ds = go (elem a s) refl (sum_cross t s i dt.1 ds)
    where
      go : (b : Bool) → elem a s ≡ b → filter_of R t i ⊕ filter_of R (minus s t) i ≡ filter_of R s i ⊕ filter_of R (minus t s) i
          → filter_of R (a ∷ t) i ⊕ filter_of R (minus s (a ∷ t)) i ≡ filter_of R s i ⊕ filter_of R (minus (a ∷ t) s) i
      go true e ih =
          ⊕-assoc (put R (ours a) i) (filter_of R t i) (filter_of R (minus s (a ∷ t)) i)
          ∙ ⊕-left-comm (put R (ours a) i) (filter_of R t i) (filter_of R (minus s (a ∷ t)) i)
          ∙ ap (λ (b : Bucket). filter_of R t i ⊕ b) (sym (sum_pick i (pick_map ours (pick_minus s t a ds (elem_mem a s e) dt.0))))
          ∙ ih
          ∙ ap (λ (l : List ℕ). filter_of R s i ⊕ filter_of R l i) (sym (minus_skip t s a e))
      go false e ih =
          ap (λ (l : List ℕ). filter_of R (a ∷ t) i ⊕ filter_of R l i) (minus_other t s a e)
          ∙ ⊕-assoc (put R (ours a) i) (filter_of R t i) (filter_of R (minus s t) i)
          ∙ ap (λ (b : Bucket). put R (ours a) i ⊕ b) ih
          ∙ ⊕-left-comm (put R (ours a) i) (filter_of R s i) (filter_of R (minus t s) i)
          ∙ ap (λ (l : List ℕ). filter_of R s i ⊕ filter_of R l i) (sym (minus-cons t s a e))

  -- what a reading starts from, where the other filter is made by the rules
  pub difference-sum : (t s : List ℕ) → Distinct t → Distinct s → (g : ℕ → Bucket) (i : ℕ) → g i ≡ filter_of R s i
      → difference R t g i ≡ sum_at R (differing t s) i
  unfolding difference differing
  difference-sum t s dt ds g i made =
      ap (λ (b : Bucket). filter_of R t i ⊕ neg b) made
      ∙ ⊕-cancel-r (filter_of R t i ⊕ neg (filter_of R s i)) (sum_at R d i) (filter_of R s i)
      (neg_then (filter_of R t i) (filter_of R s i) ∙ total ∙ ⊕-comm (filter_of R s i) (sum_at R d i))
    where
      d : List Item
      d = map ours (minus t s) ++ map theirs (minus s t)

      sides : sum_at R d i ⊕ filter_of R (minus s t) i ≡ filter_of R (minus t s) i
      sides =
          ap (λ (l : List ℕ). sum_at R d i ⊕ filter_of R l i) (sym (theirs_of_lem (minus t s) (minus s t)))
          ∙ sum_sides d i
          ∙ ap (λ (l : List ℕ). filter_of R l i) (ours_of_lem (minus t s) (minus s t))

      total : filter_of R t i ≡ filter_of R s i ⊕ sum_at R d i
      total =
          ⊕-cancel-r (filter_of R t i) (filter_of R s i ⊕ sum_at R d i) (filter_of R (minus s t) i)
          (sum_cross t s i dt ds
          ∙ ap (λ (b : Bucket). filter_of R s i ⊕ b) (sym sides)
          ∙ sym (⊕-assoc (filter_of R s i) (sum_at R d i) (filter_of R (minus s t) i)))
