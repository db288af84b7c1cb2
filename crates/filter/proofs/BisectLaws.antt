-- Binary search: its steps, what holds where it ends, and that it finds exactly what stands in an ascending list. Where it ends can also be told
-- from two neighbours. Assumes nothing.
use mathlib.Core.Path.{◌≡◌, refl, sym, ap, ◌∙◌}
use mathlib.Core.Bool.{Bool, true, false, ◌&&◌, cond, and-eq-true_iff, true≢false}
use mathlib.Core.List.{List}
use Prim.Native.Nat.{ℕ, zero, suc, ◌+◌, ◌-◌, ◌/◌, ◌≤◌, ◌<◌}
use native.Mathlib.Omega.{arith}
use lib.Dec.{ltb, eqb}
use lib.ListN.{length, get_or, get_or-eq_default}
use borrow.Author.Tests.{ltb-true, ltb-false, lt-ltb, le-ltb, eqb-true, eq-eqb}
use Rattle.bucket.specs.Lists.{elem}
use Rattle.bucket.proofs.ListLaws.{elem_at, at_index}
use Rattle.bucket.proofs.TestLaws.{and_holds}
use Rattle.filter.specs.Lists.{ascending, bisect}
use Rattle.filter.specs.Table.{position, holds}
use Rattle.filter.proofs.OrderLaws.{same_test, ascending-at}

module _ (p : ℕ → Bool) where
  -- ---- steps

  pub bisect-done : (n lo hi : ℕ) → hi ≤ lo → bisect p n lo hi ≡ lo
  unfolding bisect
  bisect-done zero lo hi h = refl
  bisect-done (suc n) lo hi h =
      ap (λ (t : Bool). cond t (cond (p ((lo + hi) / 2)) (bisect p n ((lo + hi) / 2 + 1) hi) (bisect p n lo ((lo + hi) / 2))) lo) (le-ltb lo hi h)

  turn : (n lo hi : ℕ) (t : Bool) → lo < hi → p ((lo + hi) / 2) ≡ t
      → bisect p (suc n) lo hi ≡ cond t (bisect p n ((lo + hi) / 2 + 1) hi) (bisect p n lo ((lo + hi) / 2))
  unfolding bisect
  turn n lo hi t h e =
      ap (λ (u : Bool). cond u (cond (p ((lo + hi) / 2)) (bisect p n ((lo + hi) / 2 + 1) hi) (bisect p n lo ((lo + hi) / 2))) lo) (lt-ltb lo hi h)
      ∙ ap (λ (u : Bool). cond u (bisect p n ((lo + hi) / 2 + 1) hi) (bisect p n lo ((lo + hi) / 2))) e

  -- what holds of every search, by its turns
  pub bisect_ind : (P : ℕ → ℕ → ℕ → Type 0)
      → ((lo hi : ℕ) → hi ≤ lo → P lo hi lo)
      → ((lo hi r : ℕ) → lo < hi → p ((lo + hi) / 2) ≡ true → P ((lo + hi) / 2 + 1) hi r → P lo hi r)
      → ((lo hi r : ℕ) → lo < hi → p ((lo + hi) / 2) ≡ false → P lo ((lo + hi) / 2) r → P lo hi r)
      → (n lo hi : ℕ) → hi - lo ≤ n → P lo hi (bisect p n lo hi)
  unfolding bisect
  bisect_ind P done right left zero lo hi h = done lo hi (omega arith)
  bisect_ind P done right left (suc n) lo hi h =
      go (ltb lo hi) refl (p ((lo + hi) / 2)) refl
      (λ l. bisect_ind P done right left n ((lo + hi) / 2 + 1) hi (omega arith))
      (λ l. bisect_ind P done right left n lo ((lo + hi) / 2) (omega arith))
    where
      go : (t : Bool) → ltb lo hi ≡ t → (u : Bool) → p ((lo + hi) / 2) ≡ u
          → (lo < hi → P ((lo + hi) / 2 + 1) hi (bisect p n ((lo + hi) / 2 + 1) hi))
          → (lo < hi → P lo ((lo + hi) / 2) (bisect p n lo ((lo + hi) / 2)))
          → P lo hi (cond t (cond u (bisect p n ((lo + hi) / 2 + 1) hi) (bisect p n lo ((lo + hi) / 2))) lo)
      go true q true e f g = right lo hi (bisect p n ((lo + hi) / 2 + 1) hi) (ltb-true lo hi q) e (f (ltb-true lo hi q))
      go true q false e f g = left lo hi (bisect p n lo ((lo + hi) / 2)) (ltb-true lo hi q) e (g (ltb-true lo hi q))
      go false q u e f g = done lo hi (ltb-false lo hi q)

  -- more steps than there are positions change nothing
  pub bisect-steps : (n m lo hi : ℕ) → hi - lo ≤ n → hi - lo ≤ m → bisect p n lo hi ≡ bisect p m lo hi
  bisect-steps n m lo hi h g =
      bisect_ind (λ (lo hi r : ℕ). (k : ℕ) → hi - lo ≤ k → r ≡ bisect p k lo hi)
      (λ lo hi l k d. sym (bisect-done k lo hi l)) over under n lo hi h m g
    where
      over : (lo hi r : ℕ) → lo < hi → p ((lo + hi) / 2) ≡ true → ((k : ℕ) → hi - ((lo + hi) / 2 + 1) ≤ k → r ≡ bisect p k ((lo + hi) / 2 + 1) hi)
          → (k : ℕ) → hi - lo ≤ k → r ≡ bisect p k lo hi
      over lo hi r l e ih zero d = absurd (omega arith)
      over lo hi r l e ih (suc k) d = ih k (omega arith) ∙ sym (turn k lo hi true l e)

      under : (lo hi r : ℕ) → lo < hi → p ((lo + hi) / 2) ≡ false → ((k : ℕ) → (lo + hi) / 2 - lo ≤ k → r ≡ bisect p k lo ((lo + hi) / 2))
          → (k : ℕ) → hi - lo ≤ k → r ≡ bisect p k lo hi
      under lo hi r l e ih zero d = absurd (omega arith)
      under lo hi r l e ih (suc k) d = ih k (omega arith) ∙ sym (turn k lo hi false l e)

  -- a turn of a loop, with steps enough
  pub bisect-right : (n lo hi : ℕ) → hi - lo ≤ n → lo < hi → p ((lo + hi) / 2) ≡ true → bisect p n lo hi ≡ bisect p n ((lo + hi) / 2 + 1) hi
  bisect-right n lo hi h l e =
      bisect-steps n (suc n) lo hi h (omega arith) ∙ turn n lo hi true l e

  pub bisect-left : (n lo hi : ℕ) → hi - lo ≤ n → lo < hi → p ((lo + hi) / 2) ≡ false → bisect p n lo hi ≡ bisect p n lo ((lo + hi) / 2)
  bisect-left n lo hi h l e =
      bisect-steps n (suc n) lo hi h (omega arith) ∙ turn n lo hi false l e

  -- ---- where it ends

  pub bisect-within : (n lo hi : ℕ) → hi - lo ≤ n → lo ≤ hi → (lo ≤ bisect p n lo hi) × (bisect p n lo hi ≤ hi)
  bisect-within =
      bisect_ind (λ (lo hi r : ℕ). lo ≤ hi → (lo ≤ r) × (r ≤ hi))
      (λ lo hi l g. (omega arith, g)) over under
    where
      over : (lo hi r : ℕ) → lo < hi → p ((lo + hi) / 2) ≡ true → ((lo + hi) / 2 + 1 ≤ hi → ((lo + hi) / 2 + 1 ≤ r) × (r ≤ hi)) → lo ≤ hi → (lo ≤ r) × (r ≤ hi)
      over lo hi r l e ih g = let s = ih (omega arith) in (omega arith, s.1)

      under : (lo hi r : ℕ) → lo < hi → p ((lo + hi) / 2) ≡ false → (lo ≤ (lo + hi) / 2 → (lo ≤ r) × (r ≤ (lo + hi) / 2)) → lo ≤ hi → (lo ≤ r) × (r ≤ hi)
      under lo hi r l e ih g = let s = ih (omega arith) in (s.0, omega arith)

  -- below the end p fails there, whatever p is
  pub bisect-stops : (n lo hi : ℕ) → hi - lo ≤ n → bisect p n lo hi < hi → p (bisect p n lo hi) ≡ false
  bisect-stops n lo hi h =
      (bisect_ind (λ (lo hi r : ℕ). (lo ≤ hi → r ≤ hi) × (r < hi → p r ≡ false))
      (λ lo hi l. (λ g. g, λ g. absurd (omega arith)))
      (λ lo hi r l e ih. (λ g. ih.0 (omega arith), ih.1)) under n lo hi h).1
    where
      under : (lo hi r : ℕ) → lo < hi → p ((lo + hi) / 2) ≡ false → (lo ≤ (lo + hi) / 2 → r ≤ (lo + hi) / 2) × (r < (lo + hi) / 2 → p r ≡ false)
          → (lo ≤ hi → r ≤ hi) × (r < hi → p r ≡ false)
      under lo hi r l e ih = let s = ih.0 (omega arith) in (λ g. omega arith, λ g. go (ltb r ((lo + hi) / 2)) refl s)
        where
          go : (t : Bool) → ltb r ((lo + hi) / 2) ≡ t → r ≤ (lo + hi) / 2 → p r ≡ false
          go true q s = ih.1 (ltb-true r ((lo + hi) / 2) q)
          go false q s = ap p (same (ltb-false r ((lo + hi) / 2) q)) ∙ e
            where
              same : (lo + hi) / 2 ≤ r → r ≡ (lo + hi) / 2
              same g = omega arith

  -- above the start p holds before it, whatever p is
  pub bisect_passes : (n lo hi : ℕ) → hi - lo ≤ n → lo < bisect p n lo hi → p (bisect p n lo hi - 1) ≡ true
  bisect_passes n lo hi h =
      (bisect_ind (λ (lo hi r : ℕ). (lo ≤ hi → lo ≤ r) × (lo < r → p (r - 1) ≡ true))
      (λ lo hi l. (λ g. omega arith, λ g. absurd (omega arith)))
      over (λ lo hi r l e ih. (λ g. ih.0 (omega arith), ih.1)) n lo hi h).1
    where
      over : (lo hi r : ℕ) → lo < hi → p ((lo + hi) / 2) ≡ true → ((lo + hi) / 2 + 1 ≤ hi → (lo + hi) / 2 + 1 ≤ r) × ((lo + hi) / 2 + 1 < r → p (r - 1) ≡ true)
          → (lo ≤ hi → lo ≤ r) × (lo < r → p (r - 1) ≡ true)
      over lo hi r l e ih = let s = ih.0 (omega arith) in (λ g. omega arith, λ g. go (ltb ((lo + hi) / 2 + 1) r) refl s)
        where
          go : (t : Bool) → ltb ((lo + hi) / 2 + 1) r ≡ t → (lo + hi) / 2 + 1 ≤ r → p (r - 1) ≡ true
          go true q s = ih.1 (ltb-true ((lo + hi) / 2 + 1) r q)
          go false q s = ap p (same (ltb-false ((lo + hi) / 2 + 1) r q)) ∙ e
            where
              same : r ≤ (lo + hi) / 2 + 1 → r - 1 ≡ (lo + hi) / 2
              same g = omega arith

  -- of the positions below n, p holds at those below r and at no other
  pub record Parts (n r : ℕ) : Type 0 where
    pub within : r ≤ n
    pub holds-below : (i : ℕ) → i < r → p i ≡ true
    pub fails_above : (i : ℕ) → r ≤ i → i < n → p i ≡ false

  -- where p holds up to some position and fails from there on, that position is found
  pub bisect-least : (n : ℕ) → ((i j : ℕ) → i ≤ j → j < n → p j ≡ true → p i ≡ true) → Parts n (bisect p n 0 n)
  bisect-least n falls = record {
    within = (bisect-within n 0 n (omega arith) (omega arith)).1;
    holds-below = λ i h. falls i (bisect p n 0 n - 1) (omega arith) (last (bisect-within n 0 n (omega arith) (omega arith)).1 h) (bisect_passes n 0 n (omega arith) (omega arith));
    fails_above = λ i h g. go i h g (p i) refl;
  }
    where
      last : {i r : ℕ} → r ≤ n → i < r → r - 1 < n
      last h g = omega arith

      go : (i : ℕ) → bisect p n 0 n ≤ i → i < n → (t : Bool) → p i ≡ t → p i ≡ false
      go i h g false e = e
      go i h g true e =
          absurd (true≢false (sym (falls (bisect p n 0 n) i h g e) ∙ bisect-stops n 0 n (omega arith) (omega arith)))

-- ---- in a list

-- a search that asks of the positions of a list, which are n, whether the number there is below a
pub position_asked : (l : List ℕ) (a : ℕ) {n r : ℕ} → n ≡ length l → r ≡ bisect (λ i. ltb (get_or l i 0) a) n 0 n → r ≡ position l a
unfolding position
position_asked l a e q = q ∙ ap (λ (m : ℕ). bisect (λ i. ltb (get_or l i 0) a) m 0 m) e

-- what stands where the search ends is not below a, whatever the list
pub position-stops : (l : List ℕ) (a : ℕ) → position l a < length l → a ≤ get_or l (position l a) 0
unfolding position
position-stops l a h =
    ltb-false (get_or l (position l a) 0) a (bisect-stops (λ i. ltb (get_or l i 0) a) (length l) 0 (length l) (omega arith) h)

-- an ascending list is parted there
pub position-parts : (l : List ℕ) (a : ℕ) → ascending l ≡ true → Parts (λ i. ltb (get_or l i 0) a) (length l) (position l a)
unfolding position
position-parts l a e = bisect-least (λ i. ltb (get_or l i 0) a) (length l) falls
  where
    falls : (i j : ℕ) → i ≤ j → j < length l → ltb (get_or l j 0) a ≡ true → ltb (get_or l i 0) a ≡ true
    falls i j h g t = go (ltb i j) refl
      where
        go : (u : Bool) → ltb i j ≡ u → ltb (get_or l i 0) a ≡ true
        go true q = lt-ltb (get_or l i 0) a (omega (arith, ascending-at l e i j (ltb-true i j q) g, ltb-true (get_or l j 0) a t))
        go false q = ap (λ (k : ℕ). ltb (get_or l k 0) a) (same (ltb-false i j q)) ∙ t
          where
            same : j ≤ i → i ≡ j
            same p = omega arith

-- an ascending list holds exactly what stands in it
pub held : (l : List ℕ) (a : ℕ) → ascending l ≡ true → holds l a ≡ elem a l
held l a e = same_test (holds l a) (elem a l) there found
  where
    there : holds l a ≡ true → elem a l ≡ true
    there h =
        let both = (and-eq-true_iff (ltb (position l a) (length l)) (eqb (get_or l (position l a) 0) a)).0 h in
        rw (eqb-true (get_or l (position l a) 0) a both.1) at (elem_at l (position l a) (ltb-true (position l a) (length l) both.0))

    least : (j r : ℕ) → r ≤ length l → j < length l → get_or l j 0 ≡ a → (j < r → ltb (get_or l j 0) a ≡ true) → (r < length l → a ≤ get_or l r 0) → r ≡ j
    least j r w h q below stops = go (ltb j r) refl (ltb r j) refl
      where
        go : (t : Bool) → ltb j r ≡ t → (u : Bool) → ltb r j ≡ u → r ≡ j
        go true x u y = absurd (omega (arith, ltb-true (get_or l j 0) a (below (ltb-true j r x))))
        go false x true y =
            absurd (omega (arith, ascending-at l e r j (ltb-true r j y) h, stops (omega (arith, ltb-true r j y))))
        go false x false y = omega (arith, ltb-false j r x, ltb-false r j y)

    found : elem a l ≡ true → holds l a ≡ true
    found h =
        let r = at_index a l h in
        let s = position-parts l a e in
        let same = least r.0 (position l a) s.within r.1 r.2 (s.holds-below r.0) (position-stops l a) in
        and_holds (lt-ltb (position l a) (length l) (rw same r.1))
        (eq-eqb (get_or l (position l a) 0) a (ap (λ (k : ℕ). get_or l k 0) same ∙ r.2))

-- ---- what stands where the search ends

-- nothing is below 0
pub position_zero : (l : List ℕ) → position l 0 ≡ 0
unfolding position
position_zero l = go (position l 0) (bisect_passes (λ i. ltb (get_or l i 0) 0) (length l) 0 (length l) (omega arith))
  where
    go : (r : ℕ) → (0 < r → ltb (get_or l (r - 1) 0) 0 ≡ true) → r ≡ 0
    go zero f = refl
    go (suc r) f = absurd (omega (arith, ltb-true (get_or l (suc r - 1) 0) 0 (f (omega arith))))

module _ (l : List ℕ) (a : ℕ) {at : ℕ} (is : at ≡ position l a) where
  pub holds-past : length l ≤ at → false ≡ holds l a
  holds-past h = sym (ap (λ (t : Bool). t && eqb (get_or l (position l a) 0) a) (le-ltb (position l a) (length l) (rw is at h)))

  pub holds-there : at < length l → eqb (get_or l at 0) a ≡ holds l a
  holds-there h =
      ap (λ (k : ℕ). eqb (get_or l k 0) a) is
      ∙ sym (ap (λ (t : Bool). t && eqb (get_or l (position l a) 0) a) (lt-ltb (position l a) (length l) (rw is at h)))

-- two neighbours that a lies between decide it: a search ends at the second. Past the end is no neighbour, since a is not below 0
module _ (l : List ℕ) (a p : ℕ) (e : ascending l ≡ true) (low : get_or l p 0 < a) (high : a ≤ get_or l (p + 1) 0) where
  between_within : p + 1 < length l
  between_within = go (ltb (p + 1) (length l)) refl
    where
      go : (t : Bool) → ltb (p + 1) (length l) ≡ t → p + 1 < length l
      go true x = ltb-true (p + 1) (length l) x
      go false x = absurd (omega (arith, get_or-eq_default l 0 (ltb-false (p + 1) (length l) x)))

  between_ends : p + 1 ≡ position l a
  between_ends = go (position-parts l a e) (ltb p (position l a)) refl (ltb (p + 1) (position l a)) refl
    where
      go : Parts (λ i. ltb (get_or l i 0) a) (length l) (position l a)
          → (t : Bool) → ltb p (position l a) ≡ t → (u : Bool) → ltb (p + 1) (position l a) ≡ u → p + 1 ≡ position l a
      go s false x u y =
          absurd (omega (arith, ltb-false (get_or l p 0) a (s.fails_above p (ltb-false p (position l a) x) (omega (arith, between_within)))))
      go s true x true y = absurd (omega (arith, ltb-true (get_or l (p + 1) 0) a (s.holds-below (p + 1) (ltb-true (p + 1) (position l a) y))))
      go s true x false y = omega (arith, ltb-true p (position l a) x, ltb-false (p + 1) (position l a) y)

  pub holds_between : eqb (get_or l (p + 1) 0) a ≡ holds l a
  holds_between = holds-there l a between_ends between_within
