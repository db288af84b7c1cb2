-- The grid, looked through: what every yes in it has is found by computing, so a row or a column more, of which these hold too, asks for no proof.
-- Assumes nothing.
--
--   no_state, no_kind     outside the grid nothing may come
--   by_grid               what each yes has
--   slice-idle ..         so: where slices are admitted nothing has come, any other message finds a session under way, an ended one admits nothing
use mathlib.Core.Path.{◌≡◌, refl, sym, ap, ap₂, subst, ◌∙◌}
use mathlib.Core.Logic.{◌⊎◌, inl, inr}
use mathlib.Core.Bool.{Bool, true, false, not, ◌&&◌, ◌||◌, cond, false≢true, and-false, and-true}
use mathlib.Core.List.{List, [], ◌∷◌}
use Prim.Native.Nat.{ℕ, zero, suc, ◌≤◌, ◌<◌}
use native.Mathlib.Nat.{le_trans}
use native.Mathlib.Omega.{arith}
use lib.Dec.{eqb, ltb, leb, leb-suc-suc}
use lib.ListN.{length, get_or, get_or-eq_default}
use borrow.Author.Tests.{eqb-true, eqb-false, eq-eqb, ne_eqb, not-true, leb-true, lt-ltb, ltb-true, ltb-false}
use Rattle.bucket.specs.Lists.{elem}
use Rattle.message.specs.Layout.{Content}
use Rattle.filter.specs.Sets.{all, implies}
use Rattle.ledger.specs.Grid.{EXPECTING, EXPECTING_LAST, PASSIVE, FINISHED, ABORTED, states, is_state, is_ended, kind_of, grid, place_in, row_of, entry}
use Rattle.ledger.specs.Session.{Session, «in», is_slice, stopped, admitted}
use Rattle.ledger.specs.Form.{idle}
use Rattle.filter.proofs.SetLaws.{clash, or_cases, and_l, and_r}
use Rattle.filter.proofs.ListLaws.{all_in, implies_of}

-- ---- the grid

pub place-there : (l : List ℕ) (q : ℕ) → ltb (place_in l q) (length l) ≡ elem q l
unfolding place_in elem
place-there [] q = refl
place-there (x ∷ l) q = go (eqb q x) (place-there l q)
  where
    go : (b : Bool) → ltb (place_in l q) (length l) ≡ elem q l → ltb (cond b zero (suc (place_in l q))) (suc (length l)) ≡ b || elem q l
    go true ih = lt-ltb 0 (suc (length l)) (omega arith)
    go false ih = leb-suc-suc (suc (place_in l q)) (length l) ∙ ih

pub no_state : (q k : ℕ) → is_state q ≡ false → entry q k ≡ false
unfolding entry
no_state q k e =
    ap (λ (row : List Bool). get_or row k false) (get_or-eq_default grid [] {n = row_of q} (ltb-false (row_of q) (length states) (place-there states q ∙ e)))

-- every row is as long as the first
abbrev pub columns : ℕ
columns = length (get_or grid 0 [])

unfoldable within : ℕ → List (List Bool) → Bool
within n [] = true
within n (r ∷ g) = leb (length r) n && within n g

row_within : (n : ℕ) (g : List (List Bool)) (i : ℕ) → within n g ≡ true → length (get_or g i []) ≤ n
unfolding within
row_within n [] i e = omega arith
row_within n (r ∷ g) zero e = leb-true (length r) n (and_l (leb (length r) n) (within n g) e)
row_within n (r ∷ g) (suc i) e = row_within n g i (and_r (leb (length r) n) (within n g) e)

pub no_kind : (q k : ℕ) → columns ≤ k → entry q k ≡ false
unfolding entry within
no_kind q k h = get_or-eq_default (get_or grid (row_of q) []) false {n = k} (le_trans (row_within columns grid (row_of q) refl) h)

unfoldable below : ℕ → List ℕ
below zero = []
below (suc n) = n ∷ below n

in_below : (n k : ℕ) → k < n → elem k (below n) ≡ true
unfolding below elem
in_below zero k h = absurd (omega arith)
in_below (suc n) k h = go (eqb k n) refl (in_below n k)
  where
    go : (b : Bool) → eqb k n ≡ b → (k < n → elem k (below n) ≡ true) → b || elem k (below n) ≡ true
    go true e ih = refl
    go false e ih = ih (let ne = eqb-false k n e in omega arith)

abbrev AtEach : (ℕ → ℕ → Bool) → Type 0
AtEach P = all (λ q. all (λ k. implies (entry q k) (P q k)) (below columns)) states ≡ true

by_grid : (P : ℕ → ℕ → Bool) → AtEach P → (q k : ℕ) → entry q k ≡ true → P q k ≡ true
by_grid P each q k e =
    implies_of (entry q k) (P q k)
    (all_in (λ n. implies (entry q n) (P q n)) (below columns)
    (all_in (λ p. all (λ n. implies (entry p n) (P p n)) (below columns)) states each q (state (is_state q) refl)) k (kind (ltb k columns) refl)) e
  where
    state : (b : Bool) → is_state q ≡ b → is_state q ≡ true
    state true s = s
    state false s = absurd (clash e (no_state q k s))

    kind : (b : Bool) → ltb k columns ≡ b → elem k (below columns) ≡ true
    kind true s = in_below columns k (ltb-true k columns s)
    kind false s = absurd (clash e (no_kind q k (ltb-false k columns s)))

-- ---- sessions

pub slice-kind : (b : Bool) → leb (cond b 1 0) 1 ≡ true
slice-kind true = refl
slice-kind false = refl

-- for a message that is no slice the grid has the last word
pub admitted_other : (s : Session) (c : Content) → is_slice c ≡ false → admitted s c ≡ entry s.state (kind_of c)
unfolding admitted
admitted_other s c k = rw (k, and-false («in» s PASSIVE)) (and-true (entry s.state (kind_of c)))

admitted-entry : (s : Session) (c : Content) → admitted s c ≡ true → entry s.state (kind_of c) ≡ true
unfolding admitted
admitted-entry s c a = and_l (entry s.state (kind_of c)) _ a

pub slice-idle : (s : Session) (c : Content) → is_slice c ≡ true → admitted s c ≡ true → idle s ≡ true
unfolding idle admitted all below entry place_in
slice-idle s c k a =
    go («in» s EXPECTING) («in» s EXPECTING_LAST) («in» s PASSIVE) s.first
    (implies_of (is_slice c) _ (by_grid (λ q n. implies (leb n 1) (eqb q EXPECTING || (eqb q EXPECTING_LAST || eqb q PASSIVE))) refl s.state (kind_of c) (admitted-entry s c a)) k)
    (subst (λ (b : Bool). not («in» s PASSIVE && b && not s.first) ≡ true) k (and_r (entry s.state (kind_of c)) _ a))
  where
    go : (x y p f : Bool) → x || (y || p) ≡ true → not (p && true && not f) ≡ true → x || (y || (p && f)) ≡ true
    go true y p f e n = refl
    go false true p f e n = refl
    go false false true true e n = refl
    go false false true false e n = n
    go false false false f e n = absurd (false≢true e)

pub other_later : (s : Session) (c : Content) → is_slice c ≡ false → admitted s c ≡ true → 2 ≤ s.state
unfolding all below entry place_in
other_later s c k a =
    leb-true 2 s.state
    (implies_of (not (is_slice c)) _ (by_grid (λ q n. implies (not (leb n 1)) (leb 2 q)) refl s.state (kind_of c) (admitted-entry s c a)) (ap not k))

pub inquiry_passive : (s : Session) (c : Content) → kind_of c ≡ 2 → admitted s c ≡ true → s.state ≡ PASSIVE
unfolding all below entry place_in
inquiry_passive s c k a =
    eqb-true s.state PASSIVE
    (implies_of (eqb (kind_of c) 2) _ (by_grid (λ q n. implies (eqb n 2) (eqb q PASSIVE)) refl s.state (kind_of c) (admitted-entry s c a)) (eq-eqb (kind_of c) 2 k))

-- once a message has come a session is not idle
pub come_idle : (s : Session) → 2 ≤ s.state → s.first ≡ false → idle s ≡ false
unfolding idle
come_idle s h f =
    ap₂ ◌||◌ (ne_eqb s.state 0 (λ e. absurd (omega arith)))
    (ap₂ ◌||◌ (ne_eqb s.state 1 (λ e. absurd (omega arith))) (ap (λ (b : Bool). «in» s PASSIVE && b) f ∙ and-false («in» s PASSIVE)))

-- ---- ended sessions

-- what computes alike in Finished and in Aborted
by_ended : (P : ℕ → Type 0) → P FINISHED → P ABORTED → (q : ℕ) → is_ended q ≡ true → P q
by_ended P x y q e = go (or_cases (eqb q FINISHED) (eqb q ABORTED) e)
  where
    go : (eqb q FINISHED ≡ true) ⊎ (eqb q ABORTED ≡ true) → P q
    go (inl k) = subst P (sym (eqb-true q FINISHED k)) x
    go (inr k) = subst P (sym (eqb-true q ABORTED k)) y

pub ended-state : (q : ℕ) → is_ended q ≡ true → is_state q ≡ true
unfolding elem
ended-state = by_ended (λ q. is_state q ≡ true) refl refl

pub ended-stopped : (q : ℕ) → is_ended q ≡ true → stopped q ≡ q
ended-stopped = by_ended (λ q. stopped q ≡ q) refl refl

pub stopped-ended : (q : ℕ) → is_ended (stopped q) ≡ true
stopped-ended q = go (eqb q FINISHED)
  where
    go : (b : Bool) → is_ended (cond b FINISHED ABORTED) ≡ true
    go true = refl
    go false = refl

-- no other state is one of them
pub ended_other : (q k : ℕ) → is_ended q ≡ true → is_ended k ≡ false → eqb q k ≡ false
ended_other q k e n = ne_eqb q k (λ z. clash (subst (λ (p : ℕ). is_ended p ≡ true) z e) n)

pub ended-idle : (s : Session) → is_ended s.state ≡ true → idle s ≡ false
unfolding idle
ended-idle s = by_ended (λ q. eqb q 0 || (eqb q 1 || (eqb q 3 && s.first)) ≡ false) refl refl s.state

pub ended_admits : (s : Session) (c : Content) → is_ended s.state ≡ true → admitted s c ≡ false
unfolding all below entry place_in
ended_admits s c e = go (admitted s c) refl
  where
    go : (b : Bool) → admitted s c ≡ b → b ≡ false
    go true a = absurd (clash e (not-true (is_ended s.state) (by_grid (λ q n. not (is_ended q)) refl s.state (kind_of c) (admitted-entry s c a))))
    go false a = refl
