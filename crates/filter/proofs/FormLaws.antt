-- Laws of the tests of counts: counts tested one after another, and that tested counts are small. Assumes nothing.
use mathlib.Core.Path.{◌≡◌, refl, sym, ap, ◌∙◌}
use mathlib.Core.Bool.{Bool, true, false, ◌&&◌, and-eq-true_iff, false≢true}
use mathlib.Core.List.{List, [], ◌∷◌}
use Prim.Native.Nat.{ℕ, zero, suc, ◌^◌, ◌<◌}
use native.Mathlib.Nat.{le_of_suc-le-suc}
use native.Mathlib.Omega.{arith}
use borrow.Author.Tests.{ltb-true}
use lib.IntN.{ℤ, pos, negsuc, nat_abs}
use lib.ListN.{length, get_or, take, length-take}
use Rattle.std.specs.List.{fold}
use lib.Seq.{get_or-take}
use Rattle.bucket.specs.Columns.{Columns}
use Rattle.filter.specs.Calls.{is_count, all_counts, are_counts}
use Rattle.filter.specs.Steps.{Wide, Small}

-- what was found so far and the counts to come decide
pub fold_counts : (cs : List ℤ) (good : Bool) → fold (λ (g : Bool) (z : ℤ). g && is_count z) good cs ≡ good && all_counts cs
unfolding all_counts
fold_counts [] true = refl
fold_counts [] false = refl
fold_counts (z ∷ cs) true = fold_counts cs (is_count z)
fold_counts (z ∷ cs) false = fold_counts cs false

-- tested counts are small

pub count_small : (z : ℤ) → is_count z ≡ true → nat_abs z < 2 ^ 32
count_small (pos n) e = ltb-true n (2 ^ 32) e
count_small (negsuc n) e = absurd (false≢true e)

all-counts-at : (l : List ℤ) (i : ℕ) → all_counts l ≡ true → i < length l → is_count (get_or l i (pos 0)) ≡ true
unfolding all_counts
all-counts-at [] i e h = absurd (omega arith)
all-counts-at (z ∷ l) zero e h = ((and-eq-true_iff (is_count z) (all_counts l)).0 e).0
all-counts-at (z ∷ l) (suc i) e h = all-counts-at l i ((and-eq-true_iff (is_count z) (all_counts l)).0 e).1 (le_of_suc-le-suc h)

pub are_counts-at : (n : ℕ) (cs : List ℤ) (i : ℕ) → are_counts n cs ≡ true → i < n → i < length cs → is_count (get_or cs i (pos 0)) ≡ true
are_counts-at n cs i e h l =
    ap is_count (sym (get_or-take n cs i (pos 0) h)) ∙ all-counts-at (take n cs) i e (omega (arith, length-take n cs))

pub counts-small : (n : ℕ) (c : Columns) → Wide n c → are_counts n c.counts ≡ true → Small n (2 ^ 32) c
counts-small n c w e = record {
  all = λ i h. count_small (get_or c.counts i (pos 0)) (are_counts-at n c.counts i e h (omega (arith, h, w.counts)));
}
