-- The parts of the two calls, over variables: what they ask holds, and columns cleared or negated and then added to are the filter or
-- the difference. Assumes nothing.
use mathlib.Core.Path.{◌≡◌, sym, ap, ap₂, ◌∙◌, subst}
use mathlib.Core.Bool.{true, ◌&&◌, and-eq-true_iff}
use mathlib.Core.List.{List}
use Prim.Native.Nat.{ℕ, ◌≤◌, ◌<◌, ◌^◌}
use native.Mathlib.Omega.{arith}
use borrow.Author.Tests.{leb-true, ltb-true}
use lib.Dec.{leb, ltb}
use lib.IntN.{ℤ, pos, nat_abs, neg_ℤ}
use lib.ListN.{length, get_or}
use Rattle.bucket.specs.Bucket.{Bucket, ◌⊕◌, neg, 𝟎}
use Rattle.bucket.specs.Columns.{Columns, view}
use Rattle.bucket.specs.Places.{place_count}
use Rattle.bucket.proofs.BucketLaws.{⊕-idl, ⊕-comm}
use Rattle.bucket.proofs.PlaceLaws.{place-count-some, place-count-most}
use Rattle.filter.specs.Filter.{Rule, filter_of, difference}
use Rattle.filter.specs.Calls.{in_range, are_counts, filled}
use Rattle.filter.specs.Steps.{Wide, Small, Sound}
use Rattle.filter.proofs.FilledLaws.{view-filled_in, filled-filled, filled_cong}
use Rattle.filter.proofs.FormLaws.{counts-small}
use Rattle.filter.proofs.MadeLaws.{filter_count}
use Rattle.filter.proofs.NegatedLaws.{abs_neg}
use Rattle.filter.proofs.SpreadLaws.{abs_sum}

pub range-sound : (size salt : ℕ) → in_range size salt ≡ true → Sound size (place_count size) salt
unfolding in_range
range-sound size salt h =
    let a = (and-eq-true_iff (leb 37 size) (leb size 4096 && ltb salt 64)).0 h in
    let b = (and-eq-true_iff (leb size 4096) (ltb salt 64)).0 a.1 in
    record { least = leb-true _ _ a.0; most = leb-true _ _ b.0; some = place-count-some size; few = place-count-most size; salt_in = ltb-true _ _ b.1 }

-- counts are those of the buckets
pub small-filled : (n m : ℕ) (f : ℕ → Bucket) (c : Columns) → Wide n c → ((i : ℕ) → i < n → nat_abs (f i).count < m) → Small n m (filled n f c)
small-filled n m f c w h = record { all = λ i l. subst (λ (z : ℤ). nat_abs z < m) (sym (at i l)) (h i l) }
  where
    at : (i : ℕ) → i < n → get_or (filled n f c).counts i (pos 0) ≡ (f i).count
    at i l = unfold view in ap (λ (b : Bucket). b.count) (view-filled_in n f c i w l)

pub small-cleared : (n : ℕ) (c : Columns) → Wide n c → Small n (2 ^ 33) (filled n (λ i. 𝟎) c)
small-cleared n c w = small-filled n (2 ^ 33) (λ i. 𝟎) c w (λ i l. unfold 𝟎 in omega arith)

pub small-difference : (R : Rule) (t : List ℕ) (n : ℕ) (c : Columns) → Wide n c → are_counts n c.counts ≡ true → length t ≤ 4096
    → Small n (2 ^ 34) (filled n (difference R t (view c)) c)
unfolding difference ◌⊕◌ neg view
small-difference R t n c w h l = small-filled n (2 ^ 34) (difference R t (view c)) c w each
  where
    each : (i : ℕ) → i < n → nat_abs (difference R t (view c) i).count < 2 ^ 34
    each i k =
        let s = (counts-small n c w h).all i k in
        omega (arith, abs_sum (filter_of R t i).count (neg_ℤ (view c i).count), filter_count R t i, abs_neg (view c i).count)

module _ (n : ℕ) (g : ℕ → Bucket) (c : Columns) (w : Wide n c) where
  -- h, which is g, added to columns that hold f
  added_after : (f : ℕ → Bucket) {h : ℕ → Bucket} {c₁ c₂ : Columns} → c₁ ≡ filled n f c → h ≡ g → c₂ ≡ filled n (λ i. view c₁ i ⊕ h i) c₁
      → c₂ ≡ filled n (λ i. f i ⊕ g i) c
  added_after f e p q =
      q ∙ ap₂ (λ (d : Columns) (u : ℕ → Bucket). filled n (λ i. view d i ⊕ u i) d) e p
      ∙ filled-filled n f (λ i. view (filled n f c) i ⊕ g i) c w
      ∙ filled_cong n (λ i. view (filled n f c) i ⊕ g i) (λ i. f i ⊕ g i) c (λ i l. ap (λ (b : Bucket). b ⊕ g i) (view-filled_in n f c i w l))

  -- to cleared columns
  pub built-after : {h : ℕ → Bucket} {c₁ c₂ : Columns} → c₁ ≡ filled n (λ i. 𝟎) c → h ≡ g → c₂ ≡ filled n (λ i. view c₁ i ⊕ h i) c₁ → c₂ ≡ filled n g c
  built-after e p q = added_after (λ i. 𝟎) e p q ∙ filled_cong n (λ i. 𝟎 ⊕ g i) g c (λ i l. ⊕-idl (g i))

  -- to negated ones
  pub subtracted-after : {h : ℕ → Bucket} {c₁ c₂ : Columns} → c₁ ≡ filled n (λ i. neg (view c i)) c → h ≡ g → c₂ ≡ filled n (λ i. view c₁ i ⊕ h i) c₁
      → c₂ ≡ filled n (λ i. g i ⊕ neg (view c i)) c
  subtracted-after e p q =
      added_after (λ i. neg (view c i)) e p q
      ∙ filled_cong n (λ i. neg (view c i) ⊕ g i) (λ i. g i ⊕ neg (view c i)) c (λ i l. ⊕-comm (neg (view c i)) (g i))
