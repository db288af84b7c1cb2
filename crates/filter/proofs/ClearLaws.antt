-- Tests of a difference that can be run: over every part and every bucket, whether it is clear, and whether it has a stopping set;
-- and a rule with some of its values noted, so that each is computed once. Assumes nothing.
use mathlib.Core.Path.{◌≡◌, refl, sym, ap, ◌∙◌, subst}
use mathlib.Core.Bool.{Bool, true, false, not, ◌&&◌, ◌||◌, cond, true≢false, false≢true, and-eq-true_iff}
use mathlib.Core.List.Memᴰ
use mathlib.Core.List.{List, [], ◌∷◌, ◌++◌, map, Memᴰ}
use mathlib.Core.List.Memᴰ.{head}
use mathlib.Core.List.Memᴰ.{tail}
use mathlib.Core.Logic.{◌⊎◌, inl, inr}
use Prim.Native.Nat.{ℕ, zero, suc, ◌≤◌, ◌<◌}
use native.Mathlib.Nat.{not-suc-le-zero, le_of_suc-le-suc, eq-or-lt_of_le}
use native.Mathlib.Omega.{arith}
use lib.Dec.{eqb, leb}
use borrow.Author.Tests.{le-leb, leb-true, eqb-true, eqb-false, not-true}
use Rattle.bucket.specs.Bucket.{is_zero}
use Rattle.bucket.proofs.TestLaws.{and_holds}
use Rattle.filter.specs.Lists.{select}
use Rattle.filter.specs.Filter.{Item, Rule, sum_at, load}
use Rattle.filter.specs.Peeling.{is_pure}
use Rattle.filter.specs.Stopping.{Clear, IsClosed, StoppingSet}
use Rattle.filter.proofs.SelectLaws.{mem_map, select_yes, select_no, select_mem}

-- ---- the tests

unfoldable pub parts : List Item → List (List Item)
parts [] = [] ∷ []
parts (x ∷ l) = map (λ p. x ∷ p) (parts l) ++ parts l

select-part : (p : Item → Bool) (l : List Item) → Memᴰ (select p l) (parts l)
unfolding parts
select-part p [] = unfold select in head refl
select-part p (x ∷ l) = go (p x) refl (select-part p l)
  where
    go : (t : Bool) → p x ≡ t → Memᴰ (select p l) (parts l) → Memᴰ (select p (x ∷ l)) (map (λ q. x ∷ q) (parts l) ++ parts l)
    go true e m = Memᴰ.cast (select_yes p x l e) (Memᴰ.append_left (parts l) (mem_map (λ (q : List Item). x ∷ q) m))
    go false e m = Memᴰ.cast (select_no p x l e) (Memᴰ.append_right (map (λ q. x ∷ q) (parts l)) m)

-- a test of every number below n
unfoldable pub all_below : (ℕ → Bool) → ℕ → Bool
all_below g zero = true
all_below g (suc n) = g n && all_below g n

pub all-below : (g : ℕ → Bool) (n i : ℕ) → all_below g n ≡ true → i < n → g i ≡ true
unfolding all_below
all-below g zero i e h = absurd (not-suc-le-zero h)
all-below g (suc n) i e h = go (eq-or-lt_of_le (le_of_suc-le-suc h)) (all-below g n i both.1)
  where
    both : (g n ≡ true) × (all_below g n ≡ true)
    both = (and-eq-true_iff (g n) (all_below g n)).0 e

    go : (i ≡ n) ⊎ (i < n) → (i < n → g i ≡ true) → g i ≡ true
    go (inl p) ih = ap g p ∙ both.0
    go (inr p) ih = ih p

below_all : (g : ℕ → Bool) (n : ℕ) → ((i : ℕ) → i < n → g i ≡ true) → all_below g n ≡ true
unfolding all_below
below_all g zero h = refl
below_all g (suc n) h = and_holds (h n (omega arith)) (below_all g n (λ i l. h i (omega arith)))

module _ (R : Rule) where
  unfoldable pub clear_at : List Item → ℕ → Bool
  clear_at l i = leb (load R l i) 1 || (not (is_pure R i (sum_at R l i)) && not (is_zero (sum_at R l i)))

  unfoldable pub clear_all : List (List Item) → Bool
  clear_all [] = true
  clear_all (l ∷ ls) = all_below (clear_at l) R.size && clear_all ls

  clear_at_lem : (l : List Item) (i : ℕ) → clear_at l i ≡ true → 2 ≤ load R l i
      → (is_pure R i (sum_at R l i) ≡ false) × (is_zero (sum_at R l i) ≡ false)
  unfolding clear_at
  clear_at_lem l i e h = go (leb (load R l i) 1) refl (is_pure R i (sum_at R l i)) (is_zero (sum_at R l i)) e
    where
      go : (t : Bool) → leb (load R l i) 1 ≡ t → (p z : Bool) → t || (not p && not z) ≡ true → (p ≡ false) × (z ≡ false)
      go true k p z w = absurd (omega (arith, leb-true (load R l i) 1 k))
      go false k true z w = absurd (false≢true w)
      go false k false true w = absurd (false≢true w)
      go false k false false w = (refl, refl)

  clear-all : (ls : List (List Item)) (l : List Item) → clear_all ls ≡ true → Memᴰ l ls → all_below (clear_at l) R.size ≡ true
  unfolding clear_all
  clear-all [] l e m = elim m [ ]
  clear-all (k ∷ ls) l e (head p) =
      ap (λ (x : List Item). all_below (clear_at x) R.size) p ∙ ((and-eq-true_iff (all_below (clear_at k) R.size) (clear_all ls)).0 e).0
  clear-all (k ∷ ls) l e (tail m) = clear-all ls l ((and-eq-true_iff (all_below (clear_at k) R.size) (clear_all ls)).0 e).1 m

  pub clear_of : (d : List Item) → clear_all (parts d) ≡ true → Clear R d
  clear_of d e p i h o =
      clear_at_lem (select p d) i (all-below (clear_at (select p d)) R.size i (clear-all (parts d) (select p d) e (select-part p d)) h) o

  unfoldable pub closed_at : List Item → ℕ → Bool
  closed_at l i = eqb (load R l i) 0 || leb 2 (load R l i)

  pub closed_of : (d : List Item) (q : Item → Bool) → all_below (closed_at (select q d)) R.size ≡ true → IsClosed R d q
  unfolding closed_at
  closed_of d q e i h o = go (eqb n 0) refl (leb 2 n) refl (all-below (closed_at (select q d)) R.size i e h)
    where
      n : ℕ
      n = load R (select q d) i

      go : (s : Bool) → eqb n 0 ≡ s → (t : Bool) → leb 2 n ≡ t → s || t ≡ true → 2 ≤ load R (select q d) i
      go true k t l w = absurd (omega (arith, eqb-true n 0 k))
      go false k true l w = leb-true 2 n l
      go false k false l w = absurd (false≢true w)

  -- no part but the empty one is closed
  unfoldable pub open_all : List (List Item) → Bool
  open_all [] = true
  open_all ([] ∷ ls) = open_all ls
  open_all ((x ∷ l) ∷ ls) = not (all_below (closed_at (x ∷ l)) R.size) && open_all ls

  open_all_lem : (ls : List (List Item)) (l : List Item) (x : Item) → open_all ls ≡ true → Memᴰ l ls → Memᴰ x l
      → all_below (closed_at l) R.size ≡ false
  unfolding open_all
  open_all_lem [] l x e m n = elim m [ ]
  open_all_lem ([] ∷ ls) l x e (head p) n = elim (subst (λ (k : List Item). Memᴰ x k) p n) [ ]
  open_all_lem ([] ∷ ls) l x e (tail m) n = open_all_lem ls l x e m n
  open_all_lem ((y ∷ k) ∷ ls) l x e (head p) n =
      ap (λ (j : List Item). all_below (closed_at j) R.size) p
      ∙ not-true (all_below (closed_at (y ∷ k)) R.size) ((and-eq-true_iff (not (all_below (closed_at (y ∷ k)) R.size)) (open_all ls)).0 e).0
  open_all_lem ((y ∷ k) ∷ ls) l x e (tail m) n =
      open_all_lem ls l x ((and-eq-true_iff (not (all_below (closed_at (y ∷ k)) R.size)) (open_all ls)).0 e).1 m n

  closed_at_lem : (d : List Item) (q : Item → Bool) → IsClosed R d q → (i : ℕ) → i < R.size → closed_at (select q d) i ≡ true
  unfolding closed_at
  closed_at_lem d q c i h = go (eqb n 0) refl
    where
      n : ℕ
      n = load R (select q d) i

      go : (s : Bool) → eqb n 0 ≡ s → s || leb 2 n ≡ true
      go true k = refl
      go false k = let ne = eqb-false n 0 k in le-leb 2 n (c i h (positive ne))
        where
          positive : (n ≡ 0 → ⊥) → 1 ≤ load R (select q d) i
          positive ne = omega arith

  pub no_stopping_of : (d : List Item) → open_all (parts d) ≡ true → (q : Item → Bool) → StoppingSet R d q → ⊥
  no_stopping_of d e q k =
      true≢false (sym (below_all (closed_at (select q d)) R.size (closed_at_lem d q k.closed))
      ∙ open_all_lem (parts d) (select q d) k.someone e (select-part q d) (select_mem q k.someone d k.belongs k.taken))

-- ---- a rule with some of its values noted, so that each is computed once

unfoldable pub known : {A : Type 0} → List (ℕ × A) → (ℕ → A) → ℕ → A
known [] f w = f w
known (n ∷ ns) f w = cond (eqb w n.0) n.1 (known ns f w)

abbrev pub Right : {A : Type 0} → List (ℕ × A) → (ℕ → A) → Type 0
Right [] f = Unit {0}
Right (n ∷ ns) f = (f n.0 ≡ n.1) × Right ns f

known_same : {A : Type 0} (ns : List (ℕ × A)) (f : ℕ → A) → Right ns f → (w : ℕ) → known ns f w ≡ f w
unfolding known
known_same [] f r w = refl
known_same (n ∷ ns) f r w = go (eqb w n.0) refl (known_same ns f r.1 w)
  where
    go : (t : Bool) → eqb w n.0 ≡ t → known ns f w ≡ f w → cond t n.1 (known ns f w) ≡ f w
    go true e ih = sym r.0 ∙ ap f (sym (eqb-true w n.0 e))
    go false e ih = ih

unfoldable pub noted : Rule → List (ℕ × List ℕ) → List (ℕ × ℕ) → Rule
noted R ps cs =
    record { size = R.size; code = R.code; decode = R.decode; places = known ps R.places; check = known cs R.check }

pub noted-same : (R : Rule) (ps : List (ℕ × List ℕ)) (cs : List (ℕ × ℕ)) → Right ps R.places → Right cs R.check → noted R ps cs ≡ R
unfolding noted
noted-same R ps cs p c = λ k.
    record {
      size = R.size;
      code = R.code;
      decode = R.decode;
      places = λ w. known_same ps R.places p w k;
      check = λ w. known_same cs R.check c w k;
    }
