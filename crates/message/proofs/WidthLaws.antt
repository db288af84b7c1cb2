-- The width of a filter's counters: the smallest that holds them all. Assumes nothing.
use mathlib.Core.Path.{◌≡◌, refl, sym, ap, ◌∙◌}
use mathlib.Core.Bool.{Bool, true, ◌&&◌, and-eq-true_iff, true≢false}
use mathlib.Core.List.{List, [], ◌∷◌}
use Prim.Native.Nat.{ℕ, suc, ◌^◌, ◌≤◌, ◌<◌, max}
use native.Mathlib.Omega.{arith}
use borrow.Author.Tests.{lt-ltb}
use lib.Dec.{ltb}
use lib.IntN.{ℤ, pos, negsuc}
use lib.ListN.{take}
use lib.Pow.{pow_pos}
use Rattle.std.specs.List.{fold}
use Rattle.bucket.specs.Counts.{width_of}
use Rattle.bucket.specs.Digits.{Below}
use Rattle.bucket.specs.Packing.{number, numbers, fits_in}
use Rattle.bucket.proofs.CountLaws.{width-least}
use Rattle.bucket.proofs.RoundLaws.{numbers-below}
use Rattle.bucket.proofs.TestLaws.{and_holds}
use Rattle.filter.specs.Calls.{all_counts, are_counts}
use Rattle.message.specs.Writing.{largest, width_for}

-- ---- the largest of a list

-- as it is found: the larger of the largest so far and of each count, from the first on
pub largest-folded : (cs : List ℤ) → fold (λ m c. max m (number c)) 0 cs ≡ largest (numbers cs)
unfolding largest
largest-folded cs = go 0 cs ∙ omega arith
  where
    go : (m : ℕ) (cs : List ℤ) → fold (λ m c. max m (number c)) m cs ≡ max m (largest (numbers cs))
    go m [] = omega arith
    go m (c ∷ cs) = let e = go (max m (number c)) cs in omega arith

-- ---- what it takes to hold it

-- counts are numbers of 32 bits
counts_bits : (cs : List ℤ) → all_counts cs ≡ fits_in 32 cs
unfolding all_counts fits_in
counts_bits [] = refl
counts_bits (pos n ∷ cs) = ap (λ (t : Bool). ltb n (2 ^ 32) && t) (counts_bits cs)
counts_bits (negsuc n ∷ cs) = refl

largest-below : (w : ℕ) (xs : List ℕ) → Below w xs → largest xs < 2 ^ w
unfolding largest
largest-below w [] h = pow_pos w
largest-below w (x ∷ xs) h = let first = h 0 in let rest = largest-below w xs (λ i. h (suc i)) in omega arith

fits-largest : (w : ℕ) (cs : List ℤ) → fits_in w cs ≡ true → largest (numbers cs) < 2 ^ w
fits-largest w cs h = largest-below w (numbers cs) (numbers-below w cs h)

-- counts that fit some width fit each that holds the largest
below-fits : (v w : ℕ) (cs : List ℤ) → fits_in v cs ≡ true → largest (numbers cs) < 2 ^ w → fits_in w cs ≡ true
unfolding fits_in largest
below-fits v w [] h l = refl
below-fits v w (pos n ∷ cs) h l =
    and_holds (lt-ltb n (2 ^ w) (omega arith)) (below-fits v w cs ((and-eq-true_iff (ltb n (2 ^ v)) (fits_in v cs)).0 h).1 (omega arith))
below-fits v w (negsuc n ∷ cs) h l = absurd (true≢false (sym h))

-- the width holds every counter, and every width of at least 1 that holds them all is at least it
pub record Smallest (cs : List ℤ) (w : ℕ) : Type 0 where
  pub some : 1 ≤ w
  pub most : w ≤ 32
  pub holds : fits_in w cs ≡ true
  pub smallest : (v : ℕ) → 1 ≤ v → fits_in v cs ≡ true → w ≤ v

pub largest-small : (cs : List ℤ) → all_counts cs ≡ true → largest (numbers cs) < 2 ^ 32
largest-small cs h = fits-largest 32 cs (sym (counts_bits cs) ∙ h)

pub width-smallest : (n : ℕ) (cs : List ℤ) → are_counts n cs ≡ true → Smallest (take n cs) (width_for n cs)
unfolding width_for
width-smallest n cs h =
    let whole = sym (counts_bits (take n cs)) ∙ h in
    let small = largest-small (take n cs) h in
    let k = width-least (largest (numbers (take n cs))) small in
    record {
      some = k.some;
      most = k.least 32 (omega arith) small;
      holds = below-fits 32 (width_of (largest (numbers (take n cs)))) (take n cs) whole k.holds;
      smallest = λ v some fits. k.least v some (fits-largest v (take n cs) fits);
    }
