-- Bytes as a number, most significant first, and hashes compared byte by byte. Assumes nothing.
use mathlib.Core.Path.{◌≡◌, refl, sym, ap, ap₂, ◌∙◌}
use mathlib.Core.Bool.{Bool, true, false, cond}
use mathlib.Core.List.{List, [], ◌∷◌}
use Prim.Native.Nat.{ℕ, zero, suc, ◌+◌, ◌-◌, ◌*◌, ◌%◌, ◌^◌, ◌≤◌, ◌<◌}
use native.Mathlib.Nat.{zero-lt-suc}
use native.Mathlib.Numerals.{add-one}
use native.Mathlib.Omega.{arith}
use borrow.Author.Tests.{ltb-true, ltb-false, lt-ltb, le-ltb, eqb-true, eq-eqb, ne_eqb}
use lib.Dec.{ltb, eqb}
use lib.ListN.{length, get_or, take, drop, length-drop, drop_of_length-le}
use lib.Seq.{drop-cons, get_or-drop, take-take}
use Rattle.std.specs.Cmp.Lexicographic.{pointwise, bytes_decides, slice_partial_cmp}
use Rattle.std.specs.Int.{w64, from_be_bytes}
use Rattle.std.specs.Ordering.{as_partial_cmp, is_lt, is_some_and, nat_cmp, partial_ordering_then}
use Rattle.std.specs.declared.cmp.Ordering.{Ordering}
use Rattle.std.specs.declared.cmp.Ordering.TheVariants.{Less, Equal, Greater}
use Rattle.std.specs.declared.option.Option.{Option}
use Rattle.std.specs.declared.option.Option.TheVariants.{Some}
use Rattle.bucket.specs.Digits.{joined, groups, before, Below}
use Rattle.bucket.specs.Lists.{part}
use Rattle.bucket.proofs.DigitLaws.{before-joined, groups-joined}
use Rattle.filter.proofs.OrderLaws.{same_test}

take_below : (n : ℕ) (l : List ℕ) → Below 8 l → Below 8 (take n l)
take_below zero l h i = zero-lt-suc 255
take_below (suc n) [] h i = h i
take_below (suc n) (x ∷ l) h zero = h 0
take_below (suc n) (x ∷ l) h (suc i) = take_below n l (λ j. h (suc j)) i

pub part-below : (at n : ℕ) (l : List ℕ) → Below 8 l → Below 8 (part at n l)
part-below at n l h = take_below n (drop at l) (λ i. rw (get_or-drop at l i 0) (h (at + i)))

-- ---- eight bytes

pub be-joined : (bs : List ℕ) → length bs ≡ 8 → Below 8 bs → from_be_bytes w64 bs ≡ joined 8 bs
unfolding joined
be-joined (a ∷ b ∷ c ∷ d ∷ e ∷ f ∷ g ∷ h ∷ []) l small =
    omega (arith, small 0, small 1, small 2, small 3, small 4, small 5, small 6, small 7)
be-joined [] l small = absurd (omega arith)
be-joined (a ∷ []) l small = absurd (omega arith)
be-joined (a ∷ b ∷ []) l small = absurd (omega arith)
be-joined (a ∷ b ∷ c ∷ []) l small = absurd (omega arith)
be-joined (a ∷ b ∷ c ∷ d ∷ []) l small = absurd (omega arith)
be-joined (a ∷ b ∷ c ∷ d ∷ e ∷ []) l small = absurd (omega arith)
be-joined (a ∷ b ∷ c ∷ d ∷ e ∷ f ∷ []) l small = absurd (omega arith)
be-joined (a ∷ b ∷ c ∷ d ∷ e ∷ f ∷ g ∷ []) l small = absurd (omega arith)
be-joined (a ∷ b ∷ c ∷ d ∷ e ∷ f ∷ g ∷ h ∷ x ∷ bs) l small = absurd (omega arith)

pub first-of-part : (at : ℕ) (t : List ℕ) → take 8 (part at 64 t) ≡ part at 8 t
first-of-part at t = take-take 8 64 (drop at t) (omega arith)

-- ---- two hashes

less_before : (xs ys : List ℕ) → length xs ≡ length ys → is_some_and is_lt (slice_partial_cmp (as_partial_cmp nat_cmp) xs ys) ≡ before xs ys
unfolding before
less_before [] [] e = refl
less_before [] (y ∷ ys) e = absurd (omega arith)
less_before (x ∷ xs) [] e = absurd (omega arith)
less_before (x ∷ xs) (y ∷ ys) e = go (ltb x y) refl (eqb x y) refl (less_before xs ys (omega arith))
  where
    rest : Option Ordering
    rest = slice_partial_cmp (as_partial_cmp nat_cmp) xs ys

    go : (t : Bool) → ltb x y ≡ t → (u : Bool) → eqb x y ≡ u
        → is_some_and is_lt rest ≡ before xs ys → is_some_and is_lt (partial_ordering_then (Some (cond t Less (cond u Equal Greater))) rest) ≡ cond u (before xs ys) t
    go true p true q ih = absurd (omega (arith, ltb-true x y p, eqb-true x y q))
    go true p false q ih = refl
    go false p true q ih = ih
    go false p false q ih = refl

module _ (xs ys : List ℕ) (e : length xs ≡ length ys) (hx : Below 8 xs) (hy : Below 8 ys) where
  pub less-joined : is_some_and is_lt (slice_partial_cmp (as_partial_cmp nat_cmp) xs ys) ≡ ltb (joined 8 xs) (joined 8 ys)
  less-joined = less_before xs ys e ∙ before-joined 8 xs ys e hx hy

  pub same-joined : pointwise eqb xs ys ≡ eqb (joined 8 xs) (joined 8 ys)
  same-joined =
      same_test (pointwise eqb xs ys) (eqb (joined 8 xs) (joined 8 ys))
      (λ p. eq-eqb (joined 8 xs) (joined 8 ys) (ap (joined 8) ((bytes_decides xs ys).0 p)))
      (λ q. (bytes_decides xs ys).1 (sym (groups-joined 8 xs hx) ∙ ap₂ (groups 8) e (eqb-true (joined 8 xs) (joined 8 ys) q) ∙ groups-joined 8 ys hy))

-- ---- two hashes compared byte by byte

-- what stands from a place on, opened
drop-open : (k : ℕ) (l : List ℕ) → k < length l → drop k l ≡ get_or l k 0 ∷ drop (k + 1) l
drop-open k l h = drop-cons l k 0 h ∙ ap (λ (n : ℕ). get_or l k 0 ∷ drop n l) (sym (add-one k))

ltb-behind : (c a b : ℕ) → ltb (c + a) (c + b) ≡ ltb a b
ltb-behind c a b = go (ltb a b) refl
  where
    go : (t : Bool) → ltb a b ≡ t → ltb (c + a) (c + b) ≡ t
    go true e = lt-ltb (c + a) (c + b) (omega (arith, ltb-true a b e))
    go false e = le-ltb (c + a) (c + b) (omega (arith, ltb-false a b e))

ltb-same-head : {x y : ℕ} (xs ys : List ℕ) → x ≡ y → length xs ≡ length ys → ltb (joined 8 (x ∷ xs)) (joined 8 (y ∷ ys)) ≡ ltb (joined 8 xs) (joined 8 ys)
unfolding joined
ltb-same-head {y = y} xs ys e same =
    ap₂ (λ (z n : ℕ). ltb (z % 2 ^ 8 * 2 ^ (8 * n) + joined 8 xs) (y % 2 ^ 8 * 2 ^ (8 * length ys) + joined 8 ys)) e same
    ∙ ltb-behind (y % 2 ^ 8 * 2 ^ (8 * length ys)) (joined 8 xs) (joined 8 ys)

-- the first k bytes are the same, so the rest tells
pub record Tied (xs ys : List ℕ) (k : ℕ) : Type 0 where
  pub rest : ltb (joined 8 (drop k xs)) (joined 8 (drop k ys)) ≡ ltb (joined 8 xs) (joined 8 ys)

pub tied_start : (xs ys : List ℕ) → Tied xs ys 0
tied_start xs ys = record { rest = refl }

module _ (xs ys : List ℕ) (long : length xs ≡ length ys) (k : ℕ) (s : Tied xs ys k) where
  behind : length (drop (k + 1) xs) ≡ length (drop (k + 1) ys)
  behind = length-drop (k + 1) xs ∙ ap (λ (n : ℕ). n - (k + 1)) long ∙ sym (length-drop (k + 1) ys)

  pub tied_next : k < length xs → get_or xs k 0 ≡ get_or ys k 0 → Tied xs ys (k + 1)
  tied_next h e = record {
    rest =
        sym (ap₂ (λ (u v : List ℕ). ltb (joined 8 u) (joined 8 v)) (drop-open k xs h) (drop-open k ys (rw (sym long) h))
        ∙ ltb-same-head (drop (k + 1) xs) (drop (k + 1) ys) e behind)
        ∙ s.rest;
  }

  pub tied_ends : Below 8 xs → Below 8 ys → k < length xs → (get_or xs k 0 ≡ get_or ys k 0 → ⊥) → ltb (get_or xs k 0) (get_or ys k 0) ≡ ltb (joined 8 xs) (joined 8 ys)
  unfolding before
  tied_ends lx ly h ne =
      ap (λ (t : Bool). cond t (before (drop (k + 1) xs) (drop (k + 1) ys)) (ltb (get_or xs k 0) (get_or ys k 0)))
      (sym (ne_eqb (get_or xs k 0) (get_or ys k 0) ne))
      ∙ ap₂ before (sym (drop-open k xs h)) (sym (drop-open k ys (rw (sym long) h)))
      ∙ before-joined 8 (drop k xs) (drop k ys) (length-drop k xs ∙ ap (λ (n : ℕ). n - k) long ∙ sym (length-drop k ys))
      (λ i. rw (get_or-drop k xs i 0) (lx (k + i))) (λ i. rw (get_or-drop k ys i 0) (ly (k + i)))
      ∙ s.rest

  pub tied_end : length xs ≤ k → false ≡ ltb (joined 8 xs) (joined 8 ys)
  unfolding joined
  tied_end h = sym (ap₂ (λ (u v : List ℕ). ltb (joined 8 u) (joined 8 v)) (drop_of_length-le xs {i = k} h) (drop_of_length-le ys {i = k} (rw (sym long) h))) ∙ s.rest
