-- Tests of each number of a list, by a loop and by the library, are the definitions'. Assumes nothing.
--
--   all_next, all_end   each number passes
--   ascending_sorted    each number and the next ascend
use mathlib.Core.Path.{◌≡◌, refl, sym, ap, ap₂, ◌∙◌}
use mathlib.Core.Bool.{Bool, true, false, ◌&&◌, and_assoc, and-true}
use mathlib.Core.List.{List, [], ◌∷◌}
use Prim.Native.Nat.{ℕ, suc, ◌+◌, ◌≤◌, ◌<◌, suc-le-suc}
use native.Mathlib.Numerals.{add-one}
use native.Mathlib.Omega.{arith}
use lib.Dec.{ltb}
use lib.ListN.{length, get_or, drop, drop_of_length-le}
use lib.Seq.{drop-cons}
use borrow.Author.Tests.{lt-ltb}
use Rattle.std.specs.List.{IsAllAdjacentAnswer}
use Rattle.bucket.proofs.TestLaws.{and_holds}
use Rattle.filter.specs.Lists.{rising, ascending}
use Rattle.filter.specs.Sets.{all}
use Rattle.filter.proofs.OrderLaws.{ascending-at}

-- each number looked at, one after another: what was found so far and those from i on decide
module _ (p : ℕ → Bool) (l : List ℕ) (i : ℕ) (fit : Bool) where
  pub all_next : (b : Bool) → i < length l → b ≡ p (get_or l i 0) → fit && all p (drop i l) ≡ all p l → (fit && b) && all p (drop (i + 1) l) ≡ all p l
  unfolding all
  all_next b h e k =
      and_assoc fit b (all p (drop (i + 1) l))
      ∙ ap₂ (λ (a : Bool) (n : ℕ). fit && (a && all p (drop n l))) e (add-one i)
      ∙ ap (λ (m : List ℕ). fit && all p m) (sym (drop-cons l i 0 h))
      ∙ k

  pub all_end : length l ≤ i → fit && all p (drop i l) ≡ all p l → fit ≡ all p l
  unfolding all
  all_end h k = sym (and-true fit) ∙ ap (λ (m : List ℕ). fit && all p m) (sym (drop_of_length-le l h)) ∙ k

rising-steps : (a : ℕ) (l : List ℕ) → ((k : ℕ) → k < length l → true ≡ ltb (get_or (a ∷ l) k 0) (get_or l k 0)) → rising a l ≡ true
unfolding rising
rising-steps a [] h = refl
rising-steps a (b ∷ l) h = and_holds (sym (h 0 (omega arith))) (rising-steps b l (λ k lt. h (suc k) (suc-le-suc lt)))

pub ascending_sorted : (l : List ℕ) (r : Bool) → IsAllAdjacentAnswer (λ x y b. b ≡ ltb x y) l r → r ≡ ascending l
ascending_sorted [] true h = refl
ascending_sorted (a ∷ l) true h = sym (rising-steps a l (λ k lt. rw add-one at (h k 0 (omega arith))))
ascending_sorted l false (k, lt, h) = go (ascending l) refl
  where
    go : (b : Bool) → ascending l ≡ b → false ≡ b
    go true e = h 0 ∙ lt-ltb _ _ (ascending-at l e k (k + 1) (omega arith) lt)
    go false e = refl
