-- The merge of two ascending lists counts the numbers of the first that stand in the second. Assumes nothing.
use mathlib.Core.Path.{◌≡◌, refl, sym, ap, ap₂, ◌∙◌}
use mathlib.Core.Logic.{◌⊎◌, inl, inr}
use mathlib.Core.Bool.{Bool, true, false}
use mathlib.Core.List.{List, [], ◌∷◌}
use Prim.Native.Nat.{ℕ, suc, ◌+◌, ◌≤◌, ◌<◌}
use native.Mathlib.Numerals.{add-one}
use native.Mathlib.Nat.{add-zero}
use native.Mathlib.Omega.{arith}
use lib.Dec.{eqb, leb}
use lib.ListN.{length, get_or, drop, drop_of_length-le}
use lib.Seq.{drop-cons}
use borrow.Author.Tests.{eqb-true, eqb-false, leb-true, leb-false}
use Rattle.std.specs.Int.{from_bool}
use Rattle.bucket.specs.Lists.{elem}
use Rattle.bucket.proofs.ListLaws.{elem-head, elem-cons_ne}
use Rattle.filter.specs.Lists.{ascending, select}
use Rattle.filter.proofs.SelectLaws.{mem_elem, select-agree, select_yes, select_no}
use Rattle.form.specs.Tallies.{common}
use Rattle.filter.proofs.SetLaws.{◌∈◌, not_in, in_cons, Asc, asc_of}

-- ---- the first numbers of two lists

pub common-nil-l : (m : List ℕ) → common [] m ≡ 0
unfolding common select
common-nil-l m = refl

pub common-nil-r : (l : List ℕ) → common l [] ≡ 0
unfolding common select elem
common-nil-r [] = refl
common-nil-r (a ∷ l) = common-nil-r l

pub common_yes : (a : ℕ) (l m : List ℕ) → a ∈ m → common (a ∷ l) m ≡ suc (common l m)
unfolding common
common_yes a l m e = ap length (select_yes (λ x. elem x m) a l e)

pub common_no : (a : ℕ) (l m : List ℕ) → elem a m ≡ false → common (a ∷ l) m ≡ common l m
unfolding common
common_no a l m e = ap length (select_no (λ x. elem x m) a l e)

-- a number of the second list that is not in the first
pub common_skip : (b : ℕ) (l m : List ℕ) → ((x : ℕ) → x ∈ l → x ≡ b → ⊥) → common l (b ∷ m) ≡ common l m
unfolding common
common_skip b l m h = ap length (select-agree (λ x. elem x (b ∷ m)) (λ x. elem x m) l (λ y k. elem-cons_ne y b m (h y (mem_elem k))))

above : (a : ℕ) (l : List ℕ) → Asc (a ∷ l) → (x b : ℕ) → b < a → x ∈ a ∷ l → x ≡ b → ⊥
above a l h x b lt e q = go (in_cons x a l e)
  where
    go : (x ≡ a) ⊎ (x ∈ l) → ⊥
    go (inl p) = omega arith
    go (inr p) = omega (arith, h.0 x p)

module _ (a b : ℕ) (l m : List ℕ) (hl : Asc (a ∷ l)) (hm : Asc (b ∷ m)) where
  pub common_both : a ≡ b → common (a ∷ l) (b ∷ m) ≡ suc (common l m)
  common_both e =
      common_yes a l (b ∷ m) (ap (λ (x : ℕ). elem x (b ∷ m)) e ∙ elem-head b m)
      ∙ ap suc (common_skip b l m (λ x k q. absurd (omega (arith, hl.0 x k))))

  pub common-left : a < b → common (a ∷ l) (b ∷ m) ≡ common l (b ∷ m)
  common-left h = common_no a l (b ∷ m) (not_in a (b ∷ m) (λ k. above b m hm a a h k refl))

  pub common-right : b < a → common (a ∷ l) (b ∷ m) ≡ common (a ∷ l) m
  common-right h = common_skip b (a ∷ l) m (λ x k q. above a l hl x b h k q)

-- ---- a and b, one after another

pub record Merging (a b : List ℕ) (c i j : ℕ) : Type 0 where
  pub few : c ≤ i
  pub in_a : i ≤ length a
  pub in_b : j ≤ length b
  pub asc-a : Asc (drop i a)
  pub asc-b : Asc (drop j b)
  pub rest : c + common (drop i a) (drop j b) ≡ common a b

pub merging_start : (a b : List ℕ) → ascending a ≡ true → ascending b ≡ true → Merging a b 0 0 0
merging_start a b p q = record { few = omega arith; in_a = omega arith; in_b = omega arith; asc-a = asc_of a p; asc-b = asc_of b q; rest = omega arith }

split_at : (a : List ℕ) (i : ℕ) → i < length a → drop i a ≡ get_or a i 0 ∷ drop (i + 1) a
split_at a i h = drop-cons a i 0 h ∙ ap (λ (k : ℕ). get_or a i 0 ∷ drop k a) (sym (add-one i))

-- at two numbers: one goes on, or both
module _ (a b : List ℕ) (c i j : ℕ) (k : Merging a b c i j) (hi : i < length a) (hj : j < length b) where
  abbrev pub x : ℕ
  x = get_or a i 0

  abbrev pub y : ℕ
  y = get_or b j 0

  sorted-a : Asc (x ∷ drop (i + 1) a)
  sorted-a = rw (split_at a i hi) at k.asc-a

  sorted-b : Asc (y ∷ drop (j + 1) b)
  sorted-b = rw (split_at b j hj) at k.asc-b

  rest-here : c + common (x ∷ drop (i + 1) a) (y ∷ drop (j + 1) b) ≡ common a b
  rest-here = ap₂ (λ (p q : List ℕ). c + common p q) (sym (split_at a i hi)) (sym (split_at b j hj)) ∙ k.rest

  both : x ≡ y → Merging a b (c + 1) (i + 1) (j + 1)
  both e = record {
    few = omega (arith, k.few);
    in_a = omega (arith, hi);
    in_b = omega (arith, hj);
    asc-a = sorted-a.1;
    asc-b = sorted-b.1;
    rest = omega (arith, rest-here, common_both x y (drop (i + 1) a) (drop (j + 1) b) sorted-a sorted-b e);
  }

  left : x < y → Merging a b c (i + 1) j
  left h = record {
    few = omega (arith, k.few);
    in_a = omega (arith, hi);
    in_b = k.in_b;
    asc-a = sorted-a.1;
    asc-b = k.asc-b;
    rest = ap (λ (q : List ℕ). c + common (drop (i + 1) a) q) (split_at b j hj)
        ∙ omega (arith, rest-here, common-left x y (drop (i + 1) a) (drop (j + 1) b) sorted-a sorted-b h);
  }

  right : y < x → Merging a b c i (j + 1)
  right h = record {
    few = k.few;
    in_a = k.in_a;
    in_b = omega (arith, hj);
    asc-a = k.asc-a;
    asc-b = sorted-b.1;
    rest = ap (λ (p : List ℕ). c + common p (drop (j + 1) b)) (split_at a i hi)
        ∙ omega (arith, rest-here, common-right x y (drop (i + 1) a) (drop (j + 1) b) sorted-a sorted-b h);
  }

  pub merging_next : Merging a b (c + from_bool (eqb x y)) (i + from_bool (leb x y)) (j + from_bool (leb y x))
  merging_next = go (eqb x y) refl (leb x y) refl (leb y x) refl
    where
      go : (e : Bool) → eqb x y ≡ e → (l : Bool) → leb x y ≡ l → (r : Bool) → leb y x ≡ r → Merging a b (c + from_bool e) (i + from_bool l) (j + from_bool r)
      go true p true q true s = both (eqb-true x y p)
      go true p false q r s = absurd (omega (arith, eqb-true x y p, leb-false x y q))
      go true p true q false s = absurd (omega (arith, eqb-true x y p, leb-false y x s))
      go false p true q true s = absurd (eqb-false x y p (omega (arith, leb-true x y q, leb-true y x s)))
      go false p true q false s = rw (add-zero c, add-zero j) (left (leb-false y x s))
      go false p false q true s = rw (add-zero c, add-zero i) (right (leb-false x y q))
      go false p false q false s = absurd (omega (arith, leb-false x y q, leb-false y x s))

pub merging_end : (a b : List ℕ) (c i j : ℕ) → Merging a b c i j → (length a ≤ i) ⊎ (length b ≤ j) → c ≡ common a b
merging_end a b c i j k (inl h) = omega (arith, k.rest, ap (λ (p : List ℕ). common p (drop j b)) (drop_of_length-le a {i = i} h) ∙ common-nil-l (drop j b))
merging_end a b c i j k (inr h) = omega (arith, k.rest, ap (common (drop i a)) (drop_of_length-le b {i = j} h) ∙ common-nil-r (drop i a))
