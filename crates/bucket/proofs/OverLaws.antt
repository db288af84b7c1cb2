-- Laws of `over` and `part`: what stands where, one write behind another, and the number in a part. Assumes nothing.
use mathlib.Core.Path.{◌≡◌, refl, sym, ap, ap₂, subst, ◌∙◌}
use mathlib.Core.Logic.{◌≢◌}
use mathlib.Core.Bool.{Bool, true, false}
use mathlib.Core.List.{List, [], ◌∷◌, ◌++◌, append_assoc}
use Prim.Native.Nat.{ℕ, zero, suc, ◌+◌, ◌-◌, ◌*◌, ◌%◌, ◌^◌, ◌≤◌, ◌<◌, min}
use native.Mathlib.Nat.{add_assoc, add-zero, sub-zero}
use native.Mathlib.Numerals.{add-one}
use native.Mathlib.Omega.{arith}
use lib.Dec.{eqb}
use lib.ListN.{length, take, drop, get_or, set, length-append, length-take, length-drop, length-set, take-append-drop, drop_of_length-le}
use lib.Seq.{take_at, drop_at, take-take, drop-drop, set_split, length-take-le, take-suc, get_or-drop, get_or-set_same, get_or-set_other, take-nil}
use borrow.Author.Tests.{eqb-true, eqb-false}
use borrow.Rule.Slice.PartMut.{put_mid, Post-is}
use Rattle.bucket.specs.Digits.{joined}
use Rattle.bucket.specs.Lists.{over, part}
use Rattle.bucket.proofs.DigitLaws.{joined_lt, joined-append}

-- what stands at i after a was set at n
pub set_cases : {A : Type 0} (l : List A) (i n : ℕ) (a d : A) (P : A → Type 0) → n < length l → (i ≡ n → P a) → (i ≢ n → P (get_or l i d)) → P (get_or (set l n a) i d)
set_cases {A = A} l i n a d P h same other = go (eqb i n) refl
  where
    go : (t : Bool) → eqb i n ≡ t → P (get_or (set l n a) i d)
    go true e = let s = eqb-true i n e in subst P (sym (ap (λ (m : ℕ). get_or (set l n a) m d) s ∙ get_or-set_same l n a d h)) (same s)
    go false e = let s = eqb-false i n e in subst P (sym (get_or-set_other l n i a d s)) (other s)

pub open_over : {A : Type 0} (at : ℕ) (xs l : List A) → over at xs l ≡ take at l ++ (xs ++ drop (at + length xs) l)
unfolding over
open_over at xs l = refl

-- a part that was lent alone and came back as xs
pub over-part : {A : Type 0} (at e : ℕ) (xs l : List A) → at + length xs ≡ e → put_mid at (e - at) l xs ≡ over at xs l
over-part {A = A} at e xs l s =
    ap (λ (q : List A). take at l ++ (xs ++ q)) (Post-is at e l (omega arith) ∙ ap (λ (n : ℕ). drop n l) (sym s)) ∙ sym (open_over at xs l)

module _ {A : Type 0} (at : ℕ) (l : List A) where
  pub over-nil : over at [] l ≡ l
  unfolding over
  over-nil = rw add-zero (take-append-drop at l)

  pub over-length : (xs : List A) → at + length xs ≤ length l → length (over at xs l) ≡ length l
  unfolding over
  over-length xs h = simp (length-append, length-take, length-drop) (omega arith)

  -- what is before, and what is behind
  pub over-take : (xs : List A) → at ≤ length l → take at (over at xs l) ≡ take at l
  unfolding over
  over-take xs h = take_at (take at l) _ at (length-take-le at l h)

  pub over-drop : (xs : List A) → at ≤ length l → drop (at + length xs) (over at xs l) ≡ drop (at + length xs) l
  unfolding over
  over-drop xs h =
      ap (drop (at + length xs)) (sym (append_assoc (take at l) xs (drop (at + length xs) l)))
      ∙ drop_at (take at l ++ xs) _ (at + length xs) (simp (length-append, length-take) (omega arith))

  pub part-over : (xs : List A) → at ≤ length l → part at (length xs) (over at xs l) ≡ xs
  unfolding over
  part-over xs h =
      ap (take (length xs)) (drop_at (take at l) _ at (length-take-le at l h)) ∙ take_at xs _ (length xs) refl

  pub over-front : (xs : List A) → at ≤ length l → take (at + length xs) (over at xs l) ≡ take at l ++ xs
  unfolding over
  over-front xs h =
      ap (take (at + length xs)) (sym (append_assoc (take at l) xs (drop (at + length xs) l)))
      ∙ take_at (take at l ++ xs) _ (at + length xs) (simp (length-append, length-take) (omega arith))

  pub over-over : (a b : List A) → at + length a + length b ≤ length l → over (at + length a) b (over at a l) ≡ over at (a ++ b) l
  over-over a b h =
      open_over (at + length a) b (over at a l)
      ∙ ap₂ (λ (p q : List A). p ++ (b ++ q)) (over-front a (omega arith)) rest
      ∙ append_assoc (take at l) a (b ++ drop (at + length a + length b) l)
      ∙ sym (open_over at (a ++ b) l ∙ simp (append_assoc, length-append, add_assoc))
    where
      rest : drop (at + length a + length b) (over at a l) ≡ drop (at + length a + length b) l
      rest =
          sym (drop-drop (length b) (at + length a) (over at a l))
          ∙ ap (drop (length b)) (over-drop a (omega arith))
          ∙ drop-drop (length b) (at + length a) l

  pub over_snoc : (xs : List A) (x : A) → at + length xs < length l → set (over at xs l) (at + length xs) x ≡ over at (xs ++ x ∷ []) l
  over_snoc xs x h =
      set_split (over at xs l) (at + length xs) x (rw (over-length xs (omega arith)) h)
      ∙ ap (λ (n : ℕ). take (at + length xs) (over at xs l) ++ x ∷ drop n (over at xs l)) (sym (add-one (at + length xs)))
      ∙ sym (open_over (at + length xs) (x ∷ []) (over at xs l))
      ∙ over-over xs (x ∷ []) (omega arith)

  -- one write behind another
  pub then_over : {l1 l2 : List A} (a b : List A) {p : ℕ} → l1 ≡ over at a l → l2 ≡ over p b l1 → at + length a ≡ p → p + length b ≤ length l → l2 ≡ over at (a ++ b) l
  then_over a b {p} e1 e2 q h =
      e2 ∙ ap₂ (λ (n : ℕ) (m : List A). over n b m) (sym q) e1 ∙ over-over a b (omega (arith, q, h))

  -- one more element, at a position that is the next one
  pub over-set : (xs : List A) (x : A) (p : ℕ) → at + length xs ≡ p → p < length l → set (over at xs l) p x ≡ over at (xs ++ x ∷ []) l
  over-set xs x p e h = ap (λ (q : ℕ). set (over at xs l) q x) (sym e) ∙ over_snoc xs x (rw e h)

  pub part_length : (k : ℕ) → at + k ≤ length l → length (part at k l) ≡ k
  part_length k h = simp (length-take, length-drop) (omega arith)

  pub part_suc : (k : ℕ) (d : A) → at + k < length l → part at (k + 1) l ≡ part at k l ++ get_or l (at + k) d ∷ []
  part_suc k d h = rw (add-one, take-suc (drop at l) k d (simp length-drop (omega arith)), get_or-drop)

-- a loop that writes one element after another
pub record Laid {A : Type 0} (at : ℕ) (xs l₀ l : List A) : Type 0 where
  pub same : length l ≡ length l₀
  pub laid : l ≡ over at xs l₀

pub laid-start : {A : Type 0} (at : ℕ) (l : List A) → Laid at [] l l
laid-start at l = record { same = refl; laid = sym (over-nil at l) }

pub laid_next : {A : Type 0} {at : ℕ} {xs l₀ l : List A} (x : A) (ys : List A) {p : ℕ} → Laid at xs l₀ l → at + length xs ≡ p → p < length l₀ → ys ≡ xs ++ x ∷ [] → Laid at ys l₀ (set l p x)
laid_next {A = A} {at = at} {xs = xs} {l₀ = l₀} {l = l} x ys {p} k e h more =
    record {
      same = length-set l p x ∙ k.same;
      laid = ap (λ (q : List A). set q p x) k.laid ∙ over-set at l₀ xs x p e h ∙ ap (λ (q : List A). over at q l₀) (sym more);
    }

pub laid-take : {A : Type 0} {at i : ℕ} {l₀ l : List A} (xs : List A) (d : A) → Laid at (take i xs) l₀ l → i < length xs → at + i < length l₀
    → Laid at (take (i + 1) xs) l₀ (set l (at + i) (get_or xs i d))
laid-take {A = A} {at = at} {i = i} xs d k h room =
    laid_next (get_or xs i d) (take (i + 1) xs) k (ap (λ (q : ℕ). at + q) (length-take-le i xs (omega arith))) room
    (ap (λ (q : ℕ). take q xs) (add-one i) ∙ take-suc xs i d h)

-- a part of a part
drop-take : (k b : ℕ) (l : List ℕ) → drop b (take k l) ≡ take (k - b) (drop b l)
drop-take k zero l = rw sub-zero
drop-take zero (suc b) l = let e : 0 - suc b ≡ 0 = omega arith in rw e
drop-take (suc k) (suc b) [] = sym (take-nil (suc k - suc b))
drop-take (suc k) (suc b) (x ∷ l) =
    let e : k - b ≡ suc k - suc b = omega arith in
    drop-take k b l ∙ ap (λ (q : ℕ). take q (drop b l)) e

pub part-part : (l : List ℕ) (at k b m : ℕ) → b + m ≤ k → part b m (part at k l) ≡ part (at + b) m l
part-part l at k b m h =
    ap (take m) (drop-take k b (drop at l))
    ∙ take-take m (k - b) (drop b (drop at l)) (omega arith)
    ∙ ap (take m) (drop-drop b at l)

-- a part that ends past the end
take_min : {A : Type 0} (k n : ℕ) (l : List A) → n ≡ min k (length l) → take n l ≡ take k l
take_min k zero [] e = sym (take-nil k)
take_min zero zero (x ∷ l) e = refl
take_min (suc k) zero (x ∷ l) e = absurd (omega arith)
take_min k (suc n) [] e = sym (take-nil k)
take_min zero (suc n) (x ∷ l) e = absurd (omega arith)
take_min {A = A} (suc k) (suc n) (x ∷ l) e = ap (λ (q : List A). x ∷ q) (take_min k n l (omega arith))

pub part-min : {A : Type 0} (at k n : ℕ) (l : List A) → n ≡ min k (length l - at) → part at n l ≡ part at k l
part-min at k n l e = take_min k n (drop at l) (omega (arith, e, length-drop at l))

pub part-past : {A : Type 0} (at k : ℕ) (l : List A) → length l ≤ at → part at k l ≡ []
part-past at k l h = ap (take k) (drop_of_length-le l h) ∙ take-nil k

-- the number in a part
module _ (at : ℕ) (l : List ℕ) where
  pub number_lt : (k : ℕ) → at + k ≤ length l → joined 8 (part at k l) < 2 ^ (8 * k)
  number_lt k h = rw (part_length at l k h) at (joined_lt 8 (part at k l))

  pub number_suc : (k : ℕ) → at + k < length l → get_or l (at + k) 0 < 256 → joined 8 (part at (k + 1) l) ≡ joined 8 (part at k l) * 256 + get_or l (at + k) 0
  unfolding joined
  number_suc k h b =
      ap (joined 8) (part_suc at l k 0 h)
      ∙ joined-append 8 (part at k l) (get_or l (at + k) 0 ∷ [])
      ∙ ap (λ (v : ℕ). joined 8 (part at k l) * 256 + v) last
    where
      last : get_or l (at + k) 0 % 256 * 1 + 0 ≡ get_or l (at + k) 0
      last = omega (arith, b)
