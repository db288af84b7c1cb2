-- Sets as ascending lists: membership in a set that is made, order as a statement and as filter's test, and that equal sets are equal lists.
-- Assumes nothing.
use mathlib.Core.Path.{◌≡◌, refl, sym, ap, ap₂, ◌∙◌}
use mathlib.Core.Logic.{◌⊎◌, inl, inr}
use mathlib.Core.Bool.{Bool, true, false, not, ◌&&◌, ◌||◌, cond, true≢false, false≢true, and-eq-true_iff, and-false, or_assoc, or_self_left}
use mathlib.Core.List.{List, [], ◌∷◌, ◌++◌}
use Prim.Native.Nat.{ℕ, suc, ◌+◌, ◌≤◌, ◌<◌}
use native.Mathlib.Decide.{dec_lt, ℕ_discrete}
use native.Mathlib.Omega.{arith}
use lib.Dec.{eqb, ltb}
use lib.ListN.{length}
use borrow.Author.Tests.{eqb-true, eqb-false, ltb-true, ltb-false, lt-ltb}
use Rattle.bucket.specs.Lists.{elem, Distinct}
use Rattle.bucket.proofs.ListLaws.{elem-nil, elem-head, elem_tail, elem-append, or_true_r, distinct-count}
use Rattle.filter.specs.Lists.{rising, ascending, select, minus}
use Rattle.filter.proofs.OrderLaws.{ascending-distinct}
use Rattle.filter.specs.Sets.{insert, ◌∪◌, ◌∖◌}

infix 40 ◌∈◌
infix 40 ◌⊆◌
abbrev pub ◌∈◌ : ℕ → List ℕ → Type 0
x ∈ l = elem x l ≡ true

abbrev pub ◌⊆◌ : List ℕ → List ℕ → Type 0
l ⊆ m = (x : ℕ) → x ∈ l → x ∈ m

-- ---- tests

pub clash : {b : Bool} → b ≡ true → b ≡ false → ⊥
clash p q = true≢false (sym p ∙ q)

pub either : (b : Bool) → (b ≡ true) ⊎ (b ≡ false)
either true = inl refl
either false = inr refl

pub and_l : (a b : Bool) → a && b ≡ true → a ≡ true
and_l a b e = ((and-eq-true_iff a b).0 e).0

pub and_r : (a b : Bool) → a && b ≡ true → b ≡ true
and_r a b e = ((and-eq-true_iff a b).0 e).1

pub or_cases : (a b : Bool) → a || b ≡ true → (a ≡ true) ⊎ (b ≡ true)
or_cases true b e = inl refl
or_cases false b e = inr e

or_left : (a b : Bool) → a ≡ true → a || b ≡ true
or_left a b e = ap (λ (t : Bool). t || b) e

or_right : (a b : Bool) → b ≡ true → a || b ≡ true
or_right a b e = ap (λ (t : Bool). a || t) e ∙ or_true_r a

-- ---- membership in lists

pub not_in_nil : (x : ℕ) → x ∈ [] → ⊥
not_in_nil x e = clash e (elem-nil x)

pub not_in : (x : ℕ) (l : List ℕ) → (x ∈ l → ⊥) → elem x l ≡ false
not_in x l h = go (elem x l) refl
  where
    go : (t : Bool) → elem x l ≡ t → t ≡ false
    go true e = absurd (h e)
    go false e = refl

pub elem-cons : (x a : ℕ) (l : List ℕ) → elem x (a ∷ l) ≡ eqb x a || elem x l
unfolding elem
elem-cons x a l = refl

same_cases : (x a : ℕ) (b : Bool) → eqb x a || b ≡ true → (x ≡ a) ⊎ (b ≡ true)
same_cases x a b h = go (or_cases (eqb x a) b h)
  where
    go : (eqb x a ≡ true) ⊎ (b ≡ true) → (x ≡ a) ⊎ (b ≡ true)
    go (inl e) = inl (eqb-true x a e)
    go (inr e) = inr e

pub in_cons : (x a : ℕ) (l : List ℕ) → x ∈ a ∷ l → (x ≡ a) ⊎ (x ∈ l)
in_cons x a l h = same_cases x a (elem x l) (sym (elem-cons x a l) ∙ h)

pub in_append-l : (x : ℕ) (l m : List ℕ) → x ∈ l → x ∈ l ++ m
in_append-l x l m h = elem-append x l m ∙ or_left (elem x l) (elem x m) h

pub in_append-r : (x : ℕ) (l m : List ℕ) → x ∈ m → x ∈ l ++ m
in_append-r x l m h = elem-append x l m ∙ or_right (elem x l) (elem x m) h

pub append_in : (x : ℕ) (l m : List ℕ) → x ∈ l ++ m → (x ∈ l) ⊎ (x ∈ m)
append_in x l m h = or_cases (elem x l) (elem x m) (sym (elem-append x l m) ∙ h)

-- ---- one number put in

pub or_swap : (p q r : Bool) → q || (p || r) ≡ p || (q || r)
or_swap true true r = refl
or_swap true false r = refl
or_swap false q r = refl

pub elem-insert : (x a : ℕ) (l : List ℕ) → elem x (insert a l) ≡ eqb x a || elem x l
unfolding elem insert
elem-insert x a [] = refl
elem-insert x a (b ∷ l) = go (ltb a b) (eqb a b) refl (elem-insert x a l)
  where
    go : (s t : Bool) → eqb a b ≡ t → elem x (insert a l) ≡ eqb x a || elem x l
        → elem x (cond s (a ∷ b ∷ l) (cond t (b ∷ l) (b ∷ insert a l))) ≡ eqb x a || (eqb x b || elem x l)
    go true t e ih = refl
    go false true e ih = rw (eqb-true a b e) (sym (or_self_left (eqb x b) (elem x l)))
    go false false e ih = ap (λ (y : Bool). eqb x b || y) ih ∙ or_swap (eqb x a) (eqb x b) (elem x l)

pub in_insert : (x a : ℕ) (l : List ℕ) → x ∈ l → x ∈ insert a l
in_insert x a l e = elem-insert x a l ∙ or_right (eqb x a) (elem x l) e

pub insert-here : (a : ℕ) (l : List ℕ) → a ∈ insert a l
insert-here a l = elem-insert a a l ∙ sym (elem-cons a a l) ∙ elem-head a l

pub insert_in : (x a : ℕ) (l : List ℕ) → x ∈ insert a l → (x ≡ a) ⊎ (x ∈ l)
insert_in x a l e = same_cases x a (elem x l) (sym (elem-insert x a l) ∙ e)

-- ---- union

pub elem-∪ : (x : ℕ) (l m : List ℕ) → elem x (l ∪ m) ≡ elem x l || elem x m
unfolding elem ◌∪◌
elem-∪ x [] m = refl
elem-∪ x (a ∷ l) m =
    elem-insert x a (l ∪ m) ∙ ap (λ (t : Bool). eqb x a || t) (elem-∪ x l m) ∙ sym (or_assoc (eqb x a) (elem x l) (elem x m))

pub in_∪-l : (x : ℕ) (l m : List ℕ) → x ∈ l → x ∈ l ∪ m
in_∪-l x l m h = elem-∪ x l m ∙ or_left (elem x l) (elem x m) h

pub in_∪-r : (x : ℕ) (l m : List ℕ) → x ∈ m → x ∈ l ∪ m
in_∪-r x l m h = elem-∪ x l m ∙ or_right (elem x l) (elem x m) h

pub ∪-in : (x : ℕ) (l m : List ℕ) → x ∈ l ∪ m → (x ∈ l) ⊎ (x ∈ m)
∪-in x l m h = or_cases (elem x l) (elem x m) (sym (elem-∪ x l m) ∙ h)

pub ∪-nil : (x : ℕ) (l : List ℕ) → x ∈ l ∪ [] → x ∈ l
∪-nil x l h = go (∪-in x l [] h)
  where
    go : (x ∈ l) ⊎ (x ∈ []) → x ∈ l
    go (inl e) = e
    go (inr e) = absurd (not_in_nil x e)

-- ---- a part, and a difference

pub elem-select : (p : ℕ → Bool) (x : ℕ) (l : List ℕ) → elem x (select p l) ≡ p x && elem x l
unfolding elem select
elem-select p x [] = sym (and-false (p x))
elem-select p x (a ∷ l) = go (p a) refl (elem-select p x l)
  where
    dist : (r s t : Bool) → (s ≡ true → r ≡ true) → s || (r && t) ≡ r && (s || t)
    dist true s t f = refl
    dist false true t f = sym (f refl)
    dist false false t f = refl

    drop : (r s t : Bool) → (s ≡ true → r ≡ false) → r && t ≡ r && (s || t)
    drop true true t f = absurd (true≢false (f refl))
    drop true false t f = refl
    drop false s t f = refl

    go : (b : Bool) → p a ≡ b → elem x (select p l) ≡ p x && elem x l → elem x (cond b (a ∷ select p l) (select p l)) ≡ p x && (eqb x a || elem x l)
    go true e ih = ap (λ (t : Bool). eqb x a || t) ih ∙ dist (p x) (eqb x a) (elem x l) (λ h. ap p (eqb-true x a h) ∙ e)
    go false e ih = ih ∙ drop (p x) (eqb x a) (elem x l) (λ h. ap p (eqb-true x a h) ∙ e)

pub select_in : (p : ℕ → Bool) (l : List ℕ) (x : ℕ) → x ∈ select p l → (p x ≡ true) × (x ∈ l)
select_in p l x e = let k = sym (elem-select p x l) ∙ e in (and_l (p x) (elem x l) k, and_r (p x) (elem x l) k)

pub elem-∖ : (x : ℕ) (l m : List ℕ) → elem x (l ∖ m) ≡ not (elem x m) && elem x l
unfolding minus
elem-∖ x l m = elem-select (λ a. not (elem a m)) x l

pub in_∖ : (x : ℕ) (l m : List ℕ) → x ∈ l → elem x m ≡ false → x ∈ l ∖ m
in_∖ x l m h k = elem-∖ x l m ∙ ap₂ (λ (s t : Bool). not s && t) k h

pub ∖-in : (x : ℕ) (l m : List ℕ) → x ∈ l ∖ m → (x ∈ l) × (elem x m ≡ false)
∖-in x l m h = go (elem x m) refl (sym (elem-∖ x l m) ∙ h)
  where
    go : (a : Bool) → elem x m ≡ a → not a && elem x l ≡ true → (elem x l ≡ true) × (elem x m ≡ false)
    go true p e = absurd (false≢true e)
    go false p e = (e, p)

-- ---- order: each number is below all that follow

abbrev pub Asc : List ℕ → Type 0
Asc [] = Unit {0}
Asc (a ∷ l) = ((y : ℕ) → y ∈ l → a < y) × Asc l

pub data Order (a b : ℕ) : Type 0 where
  less : a < b → Order a b
  same : a ≡ b → Order a b
  more : b < a → Order a b

pub order : (a b : ℕ) → Order a b
order a b = go (dec_lt a b) (ℕ_discrete a b)
  where
    go : Dec (a < b) → Dec (a ≡ b) → Order a b
    go (yes p) d = less p
    go (no p) (yes q) = same q
    go (no p) (no q) = more (omega arith)

pub asc_of : (l : List ℕ) → ascending l ≡ true → Asc l
unfolding rising
asc_of [] e = tt
asc_of (a ∷ []) e = (λ y k. absurd (not_in_nil y k), tt)
asc_of (a ∷ b ∷ l) e = go (ltb-true a b (and_l (ltb a b) (rising b l) e)) (asc_of (b ∷ l) (and_r (ltb a b) (rising b l) e))
  where
    go : a < b → Asc (b ∷ l) → Asc (a ∷ b ∷ l)
    go h ih = (λ y k. at y (in_cons y b l k), ih)
      where
        at : (y : ℕ) → (y ≡ b) ⊎ (y ∈ l) → a < y
        at y (inl p) = omega arith
        at y (inr p) = omega (arith, ih.0 y p)

pub of_asc : (l : List ℕ) → Asc l → ascending l ≡ true
unfolding rising
of_asc [] h = refl
of_asc (a ∷ []) h = refl
of_asc (a ∷ b ∷ l) h = ap₂ ◌&&◌ (lt-ltb a b (h.0 b (elem-head b l))) (of_asc (b ∷ l) h.1)

pub asc-distinct : (l : List ℕ) → Asc l → Distinct l
asc-distinct l h = ascending-distinct l (of_asc l h)

pub insert-asc : (a : ℕ) (l : List ℕ) → Asc l → Asc (insert a l)
unfolding insert
insert-asc a [] h = (λ y e. absurd (not_in_nil y e), tt)
insert-asc a (b ∷ l) h = go (ltb a b) refl (eqb a b) refl (insert-asc a l h.1)
  where
    go : (s : Bool) → ltb a b ≡ s → (t : Bool) → eqb a b ≡ t → Asc (insert a l) → Asc (cond s (a ∷ b ∷ l) (cond t (b ∷ l) (b ∷ insert a l)))
    go true p t q ih = (λ y e. at y (in_cons y b l e), h)
      where
        at : (y : ℕ) → (y ≡ b) ⊎ (y ∈ l) → a < y
        at y (inl e) = omega (arith, ltb-true a b p)
        at y (inr e) = omega (arith, ltb-true a b p, h.0 y e)
    go false p true q ih = h
    go false p false q ih = (λ y e. at y (insert_in y a l e), ih)
      where
        at : (y : ℕ) → (y ≡ a) ⊎ (y ∈ l) → b < y
        at y (inl e) = let ne : (a ≡ b → ⊥) = eqb-false a b q in omega (arith, ltb-false a b p)
        at y (inr e) = h.0 y e

pub ∪-asc : (l m : List ℕ) → Asc m → Asc (l ∪ m)
unfolding ◌∪◌
∪-asc [] m h = h
∪-asc (a ∷ l) m h = insert-asc a (l ∪ m) (∪-asc l m h)

pub select-asc : (p : ℕ → Bool) (l : List ℕ) → Asc l → Asc (select p l)
unfolding select
select-asc p [] h = tt
select-asc p (a ∷ l) h = go (p a) (select-asc p l h.1)
  where
    go : (b : Bool) → Asc (select p l) → Asc (cond b (a ∷ select p l) (select p l))
    go true ih = (λ y e. h.0 y (select_in p l y e).1, ih)
    go false ih = ih

pub ∖-asc : (l m : List ℕ) → Asc l → Asc (l ∖ m)
unfolding minus
∖-asc l m h = select-asc (λ a. not (elem a m)) l h

-- ---- equal sets are equal lists

pub asc_ext : (l m : List ℕ) → Asc l → Asc m → l ⊆ m → m ⊆ l → l ≡ m
asc_ext [] [] hl hm f g = refl
asc_ext [] (b ∷ m) hl hm f g = absurd (not_in_nil b (g b (elem-head b m)))
asc_ext (a ∷ l) [] hl hm f g = absurd (not_in_nil a (f a (elem-head a l)))
asc_ext (a ∷ l) (b ∷ m) hl hm f g =
    ap₂ {C = List ℕ} ◌∷◌ ab
    (asc_ext l m hl.1 hm.1
    (λ x e. right x e (in_cons x b m (f x (elem_tail x a l e))))
    (λ x e. left x e (in_cons x a l (g x (elem_tail x b m e)))))
  where
    at : (a ≡ b) ⊎ (a ∈ m) → (b ≡ a) ⊎ (b ∈ l) → a ≡ b
    at (inl e) q = e
    at (inr e) (inl q) = sym q
    at (inr e) (inr q) = absurd (omega (arith, hm.0 a e, hl.0 b q))

    ab : a ≡ b
    ab = at (in_cons a b m (f a (elem-head a l))) (in_cons b a l (g b (elem-head b m)))

    right : (x : ℕ) → x ∈ l → (x ≡ b) ⊎ (x ∈ m) → x ∈ m
    right x e (inl q) = absurd (omega (arith, hl.0 x e, ab))
    right x e (inr q) = q

    left : (x : ℕ) → x ∈ m → (x ≡ a) ⊎ (x ∈ l) → x ∈ l
    left x e (inl q) = absurd (omega (arith, hm.0 x e, ab))
    left x e (inr q) = q

pub ∪-append : (c d k : List ℕ) → Asc k → d ∪ (c ∪ k) ≡ (c ++ d) ∪ k
∪-append c d k h =
    asc_ext (d ∪ (c ∪ k)) ((c ++ d) ∪ k) (∪-asc d (c ∪ k) (∪-asc c k h)) (∪-asc (c ++ d) k h)
    (λ x e. sym (same x) ∙ e) (λ x e. same x ∙ e)
  where
    swap : (p q r : Bool) → (p || q) || r ≡ q || (p || r)
    swap true true r = refl
    swap true false r = refl
    swap false q r = refl

    same : (x : ℕ) → elem x (d ∪ (c ∪ k)) ≡ elem x ((c ++ d) ∪ k)
    same x =
        elem-∪ x d (c ∪ k)
        ∙ ap (λ (t : Bool). elem x d || t) (elem-∪ x c k)
        ∙ sym (swap (elem x c) (elem x d) (elem x k))
        ∙ ap (λ (t : Bool). t || elem x k) (sym (elem-append x c d))
        ∙ sym (elem-∪ x (c ++ d) k)

-- ---- a part is not longer

pub asc-length : (l m : List ℕ) → Asc l → Asc m → l ⊆ m → length l ≤ length m
asc-length l m hl hm f = distinct-count l m (asc-distinct l hl) f

pub length-insert : (a : ℕ) (l : List ℕ) → length (insert a l) ≤ suc (length l)
unfolding insert
length-insert a [] = omega arith
length-insert a (b ∷ l) = go (ltb a b) (eqb a b) (length-insert a l)
  where
    go : (s t : Bool) → length (insert a l) ≤ suc (length l) → length (cond s (a ∷ b ∷ l) (cond t (b ∷ l) (b ∷ insert a l))) ≤ suc (suc (length l))
    go true t h = omega arith
    go false true h = omega arith
    go false false h = omega arith

pub length-∪ : (l m : List ℕ) → length (l ∪ m) ≤ length l + length m
unfolding ◌∪◌
length-∪ [] m = omega arith
length-∪ (a ∷ l) m = omega (arith, length-insert a (l ∪ m), length-∪ l m)
