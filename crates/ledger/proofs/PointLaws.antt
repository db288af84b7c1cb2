-- One place of a list changed, and one put in between: where a hash stands in an ascending list is filter's `position`. Assumes nothing.
use mathlib.Core.Path.{◌≡◌, refl, sym, ap, ap₂, ◌∙◌}
use mathlib.Core.Logic.{◌≢◌}
use mathlib.Core.Bool.{Bool, true, false, cond, true≢false, and-eq-true_iff}
use mathlib.Core.List.{List, [], ◌∷◌, map}
use Prim.Native.Nat.{ℕ, zero, suc, ◌+◌, ◌<◌, suc-le-suc}
use native.Mathlib.Omega.{arith}
use lib.Dec.{eqb, ltb}
use lib.ListN.{length, get_or, take, drop, set, length-map}
use borrow.Author.Tests.{eqb-true, ltb-true, ltb-false, ne_eqb}
use Rattle.bucket.specs.Lists.{elem, Distinct}
use Rattle.bucket.proofs.ListLaws.{elem-head, elem_tail, elem_at, elem_not_head, elem_not_tail, distinct-at}
use Rattle.filter.specs.Sets.{insert}
use Rattle.filter.specs.Table.{position}
use Rattle.filter.proofs.OrderLaws.{map_at}
use Rattle.filter.proofs.BisectLaws.{held}
use Rattle.filter.proofs.SetLaws.{◌∈◌, Asc, of_asc, asc-distinct}
use Rattle.filter.proofs.ListLaws.{in_map}

-- ---- one place changed

pub map-agree : (f g : ℕ → ℕ) (l : List ℕ) → ((x : ℕ) → x ∈ l → f x ≡ g x) → map f l ≡ map g l
map-agree f g [] h = refl
map-agree f g (a ∷ l) h = ap₂ {C = List ℕ} ◌∷◌ (h a (elem-head a l)) (map-agree f g l (λ x e. h x (elem_tail x a l e)))

-- two rules that agree at all positions but p
pub point_change : (f g : ℕ → ℕ) (l : List ℕ) (p : ℕ) → ((i : ℕ) → i < length l → i ≢ p → f (get_or l i 0) ≡ g (get_or l i 0))
    → map g l ≡ set (map f l) p (g (get_or l p 0))
point_change f g [] p h = refl
point_change f g (a ∷ l) zero h = ap {B = List ℕ} (λ r. g a ∷ r) (sym (all l (λ i q. h (suc i) (suc-le-suc q) (λ e. omega arith))))
  where
    all : (l : List ℕ) → ((i : ℕ) → i < length l → f (get_or l i 0) ≡ g (get_or l i 0)) → map f l ≡ map g l
    all [] h = refl
    all (a ∷ l) h = ap₂ {C = List ℕ} ◌∷◌ (h 0 (omega arith)) (all l (λ i q. h (suc i) (suc-le-suc q)))
point_change f g (a ∷ l) (suc p) h =
    ap₂ {C = List ℕ} ◌∷◌ (sym (h 0 (omega arith) (λ e. omega arith)))
    (point_change f g l p (λ i q ne. h (suc i) (suc-le-suc q) (λ e. ne (omega arith))))

-- ---- where a hash stands

one_place : (l : List ℕ) → Distinct l → (i j : ℕ) → i < length l → j < length l → get_or l i 0 ≡ get_or l j 0 → i ≡ j
one_place l d i j p q e = go (ltb i j) refl (ltb j i) refl
  where
    go : (s : Bool) → ltb i j ≡ s → (t : Bool) → ltb j i ≡ t → i ≡ j
    go true h t k = absurd (distinct-at l d i j (ltb-true i j h) q e)
    go false h true k = absurd (distinct-at l d j i (ltb-true j i k) p (sym e))
    go false h false k = omega (arith, ltb-false i j h, ltb-false j i k)

module _ (l : List ℕ) (a : ℕ) (asc : Asc l) where
  module _ (e : a ∈ l) where
    stands : (ltb (position l a) (length l) ≡ true) × (eqb (get_or l (position l a) 0) a ≡ true)
    stands = (and-eq-true_iff (ltb (position l a) (length l)) (eqb (get_or l (position l a) 0) a)).0 (held l a (of_asc l asc) ∙ e)

    pub position-within : position l a < length l
    position-within = ltb-true (position l a) (length l) stands.0

    pub position_at : get_or l (position l a) 0 ≡ a
    position_at = eqb-true (get_or l (position l a) 0) a stands.1

    pub map-there : (f : ℕ → ℕ) → get_or (map f l) (position l a) 0 ≡ f a
    map-there f = map_at f l (position l a) position-within ∙ ap f position_at

    -- nowhere else
    pub position_only : (i : ℕ) → i < length l → get_or l i 0 ≡ a → i ≡ position l a
    position_only i h q = one_place l (asc-distinct l asc) i (position l a) h position-within (q ∙ sym position_at)

    -- two rules that agree on all of the list but a
    pub point_set : (f g : ℕ → ℕ) → ((x : ℕ) → x ∈ l → x ≢ a → f x ≡ g x) → map g l ≡ set (map f l) (position l a) (g a)
    point_set f g h =
        point_change f g l (position l a) (λ i q ne. h (get_or l i 0) (elem_at l i q) (λ k. ne (position_only i q k)))
        ∙ ap (λ (x : ℕ). set (map f l) (position l a) (g x)) position_at

-- a rule that keeps the order keeps the place
pub position-map : (f : ℕ → ℕ) (l : List ℕ) (a : ℕ) → Asc l → Asc (map f l) → a ∈ l → position (map f l) (f a) ≡ position l a
position-map f l a asc asc' e =
    sym (position_only (map f l) (f a) asc' (in_map f a l e) (position l a) (rw (length-map l f) (position-within l a asc e)) (map-there l a asc e f))

-- ---- one put in between

pub map-take : (f : ℕ → ℕ) (n : ℕ) (l : List ℕ) → map f (take n l) ≡ take n (map f l)
map-take f zero l = refl
map-take f (suc n) [] = refl
map-take f (suc n) (a ∷ l) = ap {B = List ℕ} (λ r. f a ∷ r) (map-take f n l)

pub map-drop : (f : ℕ → ℕ) (n : ℕ) (l : List ℕ) → map f (drop n l) ≡ drop n (map f l)
map-drop f zero l = refl
map-drop f (suc n) [] = refl
map-drop f (suc n) (a ∷ l) = map-drop f n l

-- ---- one put in

pub insert-length : (x : ℕ) (l : List ℕ) → elem x l ≡ false → length (insert x l) ≡ length l + 1
unfolding insert
insert-length x [] h = refl
insert-length x (b ∷ l) h = go (ltb x b) (eqb x b) (ne_eqb x b (elem_not_head x b l h)) (insert-length x l (elem_not_tail x b l h))
  where
    go : (s t : Bool) → t ≡ false → length (insert x l) ≡ length l + 1 → length (cond s (x ∷ b ∷ l) (cond t (b ∷ l) (b ∷ insert x l))) ≡ suc (length l) + 1
    go true t e ih = omega arith
    go false true e ih = absurd (true≢false e)
    go false false e ih = omega arith
