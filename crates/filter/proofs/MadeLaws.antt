-- What is made by the rules: a bucket's COUNT is the number of items in it, so at most their number, and the columns that hold it have
-- the form of counts and the room. Assumes nothing.
use mathlib.Core.Path.{◌≡◌, refl, ap, ◌∙◌}
use mathlib.Core.Bool.{Bool, true, false, cond}
use mathlib.Core.List.{List, [], ◌∷◌, map}
use Prim.Native.Nat.{ℕ, suc, ◌+◌, ◌^◌, ◌≤◌, ◌<◌}
use native.Mathlib.Omega.{arith}
use lib.IntN.{ℤ, pos, nat_abs, ◌+ℤ◌}
use lib.ListN.{length, take, get_or, length-take, length-map}
use lib.Seq.{get_or-take}
use borrow.Author.Tests.{le-leb, lt-ltb}
use Rattle.bucket.specs.Bucket.{Bucket, ◌⊕◌, 𝟎}
use Rattle.bucket.specs.Columns.{Columns, view}
use Rattle.bucket.proofs.TestLaws.{and_holds}
use Rattle.filter.specs.Filter.{Item, ours, Rule, touches, cell, put, sum_at, load, filter_of}
use Rattle.filter.specs.Calls.{is_count, all_counts, are_counts, has_room, filled}
use Rattle.filter.specs.Steps.{Wide}
use Rattle.filter.proofs.FilledLaws.{wide-filled, view-filled_in}

module _ (R : Rule) where
  filter_load : (t : List ℕ) (i : ℕ) → (filter_of R t i).count ≡ pos (load R (map ours t) i)
  unfolding filter_of sum_at load put cell 𝟎 ◌⊕◌
  filter_load [] i = refl
  filter_load (a ∷ t) i = go (touches R (ours a) i) (filter_load t i)
    where
      go : (b : Bool) → (sum_at R (map ours t) i).count ≡ pos (load R (map ours t) i)
          → (cond b (cell R (ours a)) 𝟎).count +ℤ (sum_at R (map ours t) i).count ≡ pos (cond b 1 0 + load R (map ours t) i)
      go true e = ap (λ (z : ℤ). pos 1 +ℤ z) e
      go false e = ap (λ (z : ℤ). pos 0 +ℤ z) e

  load_le : (l : List Item) (i : ℕ) → load R l i ≤ length l
  unfolding load
  load_le [] i = omega arith
  load_le (x ∷ l) i = go (touches R x i) (load_le l i)
    where
      go : (b : Bool) → load R l i ≤ length l → cond b 1 0 + load R l i ≤ suc (length l)
      go true h = omega arith
      go false h = omega arith

  pub filter_count : (t : List ℕ) (i : ℕ) → nat_abs (filter_of R t i).count ≤ length t
  filter_count t i = omega (arith, ap nat_abs (filter_load t i), load_le (map ours t) i, length-map t ours)

  count-holds : (t : List ℕ) (i : ℕ) → length t < 2 ^ 32 → is_count (filter_of R t i).count ≡ true
  count-holds t i h =
      ap is_count (filter_load t i) ∙ lt-ltb (load R (map ours t) i) (2 ^ 32) (omega (arith, load_le (map ours t) i, length-map t ours))

counts_hold : (cs : List ℤ) → ((i : ℕ) → i < length cs → is_count (get_or cs i (pos 0)) ≡ true) → all_counts cs ≡ true
unfolding all_counts
counts_hold [] h = refl
counts_hold (z ∷ cs) h = and_holds (h 0 (omega arith)) (counts_hold cs (λ i k. h (suc i) (omega arith)))

-- columns that hold the filter of a table
module _ (R : Rule) (t : List ℕ) (few : length t ≤ 4096) (n : ℕ) (c : Columns) (w : Wide n c) where
  pub made-counts : are_counts n (filled n (filter_of R t) c).counts ≡ true
  unfolding view
  made-counts =
      counts_hold (take n (filled n (filter_of R t) c).counts) (λ i k.
      let l : i < n = omega (arith, k, length-take n (filled n (filter_of R t) c).counts) in
      ap is_count (get_or-take n (filled n (filter_of R t) c).counts i (pos 0) l ∙ ap (λ (b : Bucket). b.count) (view-filled_in n (filter_of R t) c i w l))
      ∙ count-holds R t i (omega arith))

  pub made-room : has_room n (filled n (filter_of R t) c) ≡ true
  unfolding has_room
  made-room =
      let v : Wide n (filled n (filter_of R t) c) = wide-filled n n (filter_of R t) c w in
      and_holds (le-leb _ _ v.idsums) (and_holds (le-leb _ _ v.hashsums) (le-leb _ _ v.counts))
