-- The two sides of a list of items, and of the true difference of a table and a set. Assumes nothing.
use mathlib.Core.Path.{◌≡◌, refl, sym, ap, ap₂, ◌∙◌, subst}
use mathlib.Core.Logic.{◌⊎◌, inl, inr}
use mathlib.Core.Bool.{true, false, ◌&&◌, and-eq-true_iff}
use mathlib.Core.List.{List, [], ◌∷◌, ◌++◌, map, Memᴰ}
use mathlib.Core.List.Memᴰ.{head}
use mathlib.Core.List.Memᴰ.{tail}
use Prim.Native.Nat.{ℕ, ◌+◌, ◌≤◌}
use native.Mathlib.Omega.{arith}
use lib.ListN.{length}
use Rattle.bucket.specs.Lists.{elem, Distinct}
use Rattle.bucket.proofs.ListLaws.{elem-cons_ne, elem_not_head, elem_not_tail}
use Rattle.filter.specs.Lists.{minus}
use Rattle.filter.specs.Filter.{Item, ours, theirs, id_of, ids, ours_of, theirs_of}
use Rattle.filter.specs.Peeling.{on_side, agrees}
use Rattle.filter.specs.Stopping.{differing}
use Rattle.filter.proofs.SelectLaws.{not_both, elem_mem, mem_elem, key_same, distinct_append, distinct-minus, mem_minus, mem_minus_not}

pub ours_of_lem : (a b : List ℕ) → ours_of (map ours a ++ map theirs b) ≡ a
unfolding ours_of
ours_of_lem [] [] = refl
ours_of_lem [] (x ∷ b) = ours_of_lem [] b
ours_of_lem (x ∷ a) b = ap {B = List ℕ} (λ r. x ∷ r) (ours_of_lem a b)

pub theirs_of_lem : (a b : List ℕ) → theirs_of (map ours a ++ map theirs b) ≡ b
unfolding theirs_of
theirs_of_lem [] [] = refl
theirs_of_lem [] (x ∷ b) = ap {B = List ℕ} (λ r. x ∷ r) (theirs_of_lem [] b)
theirs_of_lem (x ∷ a) b = theirs_of_lem a b

pub ids_of_lem : (a b : List ℕ) → ids (map ours a ++ map theirs b) ≡ a ++ b
ids_of_lem [] [] = refl
ids_of_lem [] (x ∷ b) = ap {B = List ℕ} (λ r. x ∷ r) (ids_of_lem [] b)
ids_of_lem (x ∷ a) b = ap {B = List ℕ} (λ r. x ∷ r) (ids_of_lem a b)

-- ---- membership

sides_differ : (a b : ℕ) → ours a ≡ theirs b → ⊥
sides_differ a b e = let z : ◌≡◌ {A = ℕ} 0 1 = cc in omega arith

same-ours : (a b : ℕ) → ours a ≡ ours b → a ≡ b
same-ours a b e = cc

same-theirs : (a b : ℕ) → theirs a ≡ theirs b → a ≡ b
same-theirs a b e = cc

pub mem_ours : (a : ℕ) (l : List Item) → Memᴰ (ours a) l → Memᴰ a (ours_of l)
unfolding ours_of
mem_ours a [] m = elim m [ ]
mem_ours a (ours b ∷ l) (head e) = head (same-ours a b e)
mem_ours a (ours b ∷ l) (tail m) = tail (mem_ours a l m)
mem_ours a (theirs b ∷ l) (head e) = absurd (sides_differ a b e)
mem_ours a (theirs b ∷ l) (tail m) = mem_ours a l m

pub mem_theirs : (a : ℕ) (l : List Item) → Memᴰ (theirs a) l → Memᴰ a (theirs_of l)
unfolding theirs_of
mem_theirs a [] m = elim m [ ]
mem_theirs a (ours b ∷ l) (head e) = absurd (sides_differ b a (sym e))
mem_theirs a (ours b ∷ l) (tail m) = mem_theirs a l m
mem_theirs a (theirs b ∷ l) (head e) = head (same-theirs a b e)
mem_theirs a (theirs b ∷ l) (tail m) = tail (mem_theirs a l m)

pub ours_mem : (a : ℕ) (l : List Item) → Memᴰ a (ours_of l) → Memᴰ (ours a) l
unfolding ours_of
ours_mem a [] m = elim m [ ]
ours_mem a (ours b ∷ l) (head e) = head (ap ours e)
ours_mem a (ours b ∷ l) (tail m) = tail (ours_mem a l m)
ours_mem a (theirs b ∷ l) m = tail (ours_mem a l m)

pub theirs_mem : (a : ℕ) (l : List Item) → Memᴰ a (theirs_of l) → Memᴰ (theirs a) l
unfolding theirs_of
theirs_mem a [] m = elim m [ ]
theirs_mem a (ours b ∷ l) m = tail (theirs_mem a l m)
theirs_mem a (theirs b ∷ l) (head e) = head (ap theirs e)
theirs_mem a (theirs b ∷ l) (tail m) = tail (theirs_mem a l m)

-- ---- no ID twice

not_ours : (a : ℕ) (l : List Item) → elem a (ids l) ≡ false → elem a (ours_of l) ≡ false
unfolding ours_of
not_ours a [] e = e
not_ours a (ours b ∷ l) e = elem-cons_ne a b (ours_of l) (elem_not_head a b (ids l) e) ∙ not_ours a l (elem_not_tail a b (ids l) e)
not_ours a (theirs b ∷ l) e = not_ours a l (elem_not_tail a b (ids l) e)

not_theirs : (a : ℕ) (l : List Item) → elem a (ids l) ≡ false → elem a (theirs_of l) ≡ false
unfolding theirs_of
not_theirs a [] e = e
not_theirs a (ours b ∷ l) e = not_theirs a l (elem_not_tail a b (ids l) e)
not_theirs a (theirs b ∷ l) e =
    elem-cons_ne a b (theirs_of l) (elem_not_head a b (ids l) e) ∙ not_theirs a l (elem_not_tail a b (ids l) e)

pub distinct-ours : (l : List Item) → Distinct (ids l) → Distinct (ours_of l)
unfolding ours_of
distinct-ours [] d = tt
distinct-ours (ours a ∷ l) d = (not_ours a l d.0, distinct-ours l d.1)
distinct-ours (theirs a ∷ l) d = distinct-ours l d.1

pub distinct-theirs : (l : List Item) → Distinct (ids l) → Distinct (theirs_of l)
unfolding theirs_of
distinct-theirs [] d = tt
distinct-theirs (ours a ∷ l) d = distinct-theirs l d.1
distinct-theirs (theirs a ∷ l) d = (not_theirs a l d.0, distinct-theirs l d.1)

pub sides_apart : (l : List Item) → Distinct (ids l) → (a : ℕ) → Memᴰ a (ours_of l) → Memᴰ a (theirs_of l) → ⊥
sides_apart l d a m n = sides_differ a a (key_same id_of l d (ours a) (theirs a) (ours_mem a l m) (theirs_mem a l n) refl)

-- ---- how many

pub sides_length : (acc : List Item) → length (ours_of acc) + length (theirs_of acc) ≡ length acc
unfolding ours_of theirs_of
sides_length [] = refl
sides_length (ours a ∷ l) = omega (arith, sides_length l)
sides_length (theirs a ∷ l) = omega (arith, sides_length l)

pub ours-few : (l : List Item) → length (ours_of l) ≤ length l
ours-few l = omega (arith, sides_length l)

pub theirs-few : (l : List Item) → length (theirs_of l) ≤ length l
theirs-few l = omega (arith, sides_length l)

-- ---- the true difference

pub differing-distinct : (t s : List ℕ) → Distinct t → Distinct s → Distinct (ids (differing t s))
unfolding differing
differing-distinct t s dt ds =
    rw ids_of_lem (distinct_append (minus t s) (minus s t) (distinct-minus t s dt) (distinct-minus s t ds)
    (λ x m n. not_both (elem x t) (mem_elem (mem_minus t s x m)) (mem_minus_not s t x n)))

pub differing-ours : (t s : List ℕ) → ours_of (differing t s) ≡ minus t s
unfolding differing
differing-ours t s = ours_of_lem (minus t s) (minus s t)

pub differing-theirs : (t s : List ℕ) → theirs_of (differing t s) ≡ minus s t
unfolding differing
differing-theirs t s = theirs_of_lem (minus t s) (minus s t)

-- each ID of it is in the table or in the set
pub differing-from : (t s : List ℕ) (x : Item) → Memᴰ x (differing t s) → Memᴰ (id_of x) t ⊎ Memᴰ (id_of x) s
differing-from t s (ours a) m =
    inl (mem_minus t s a (subst (λ (l : List ℕ). Memᴰ a l) (differing-ours t s) (mem_ours a (differing t s) m)))
differing-from t s (theirs a) m =
    inr (mem_minus s t a (subst (λ (l : List ℕ). Memᴰ a l) (differing-theirs t s) (mem_theirs a (differing t s) m)))

-- each item is on its right side
agrees_of : (t : List ℕ) (l : List Item) → ((x : Item) → Memᴰ x l → on_side t x ≡ true) → agrees t l ≡ true
unfolding agrees
agrees_of t [] h = refl
agrees_of t (x ∷ l) h = ap₂ ◌&&◌ (h x (head refl)) (agrees_of t l (λ y m. h y (tail m)))

agrees_at : (t : List ℕ) (l : List Item) → agrees t l ≡ true → (x : Item) → Memᴰ x l → on_side t x ≡ true
unfolding agrees
agrees_at t [] e x m = elim m [ ]
agrees_at t (y ∷ l) e x (head h) = rw h ((and-eq-true_iff (on_side t y) (agrees t l)).0 e).0
agrees_at t (y ∷ l) e x (tail m) = agrees_at t l ((and-eq-true_iff (on_side t y) (agrees t l)).0 e).1 x m

pub agrees-ours : (t : List ℕ) (l : List Item) → agrees t l ≡ true → (a : ℕ) → Memᴰ a (ours_of l) → Memᴰ a t
agrees-ours t l e a m = elem_mem a t (agrees_at t l e (ours a) (ours_mem a l m))

pub agrees-theirs : (t : List ℕ) (l : List Item) → agrees t l ≡ true → (a : ℕ) → Memᴰ a (theirs_of l) → Memᴰ a t → ⊥
agrees-theirs t l e a m n = not_both (elem a t) (mem_elem n) (agrees_at t l e (theirs a) (theirs_mem a l m))

differing_side : (t s : List ℕ) (x : Item) → Memᴰ x (differing t s) → on_side t x ≡ true
differing_side t s (ours a) m =
    mem_elem (mem_minus t s a (subst (λ (l : List ℕ). Memᴰ a l) (differing-ours t s) (mem_ours a (differing t s) m)))
differing_side t s (theirs a) m =
    mem_minus_not s t a (subst (λ (l : List ℕ). Memᴰ a l) (differing-theirs t s) (mem_theirs a (differing t s) m))

pub differing-agrees : (t s : List ℕ) (l : List Item) → ((x : Item) → Memᴰ x l → Memᴰ x (differing t s)) → agrees t l ≡ true
differing-agrees t s l h = agrees_of t l (λ x m. differing_side t s x (h x m))

pub differing-length : (t s : List ℕ) → length (differing t s) ≡ length (minus t s) + length (minus s t)
differing-length t s =
    sym (sides_length (differing t s)) ∙ ap₂ (λ (a b : List ℕ). length a + length b) (differing-ours t s) (differing-theirs t s)
