-- Lists of numbers that ascend, by index and one number at a time, and lists without repeats. Assumes nothing.
use mathlib.Core.Path.{◌≡◌, refl, sym, ap, ◌∙◌}
use mathlib.Core.Logic.{◌≢◌}
use mathlib.Core.Bool.{Bool, true, false, not, ◌&&◌, and-eq-true_iff}
use mathlib.Core.List.{List, [], ◌∷◌, map}
use Prim.Native.Nat.{ℕ, zero, suc, ◌+◌, ◌≤◌, ◌<◌, suc-le-suc}
use native.Mathlib.Nat.{le_of_lt, le_of_suc-le-suc, lt_trans}
use native.Mathlib.Numerals.{add-one}
use native.Mathlib.Omega.{arith}
use lib.Dec.{ltb}
use lib.ListN.{length, get_or, drop, length-map, drop_of_length-le}
use lib.Seq.{drop-cons}
use borrow.Author.Tests.{not-true, lt-ltb, le-ltb, ltb-true, ltb-false}
use Rattle.bucket.specs.Lists.{elem, Distinct}
use Rattle.bucket.proofs.ListLaws.{distinct-at, distinct_of}
use Rattle.bucket.proofs.TestLaws.{and_holds}
use Rattle.filter.specs.Lists.{rising, ascending, distinct}

-- ---- tests

-- two tests that hold together are one
pub same_test : (a b : Bool) → (a ≡ true → b ≡ true) → (b ≡ true → a ≡ true) → a ≡ b
same_test true b f g = sym (f refl)
same_test false true f g = g refl
same_test false false f g = refl

-- ---- order

pub rising_tail : (a : ℕ) (l : List ℕ) → rising a l ≡ true → ascending l ≡ true
unfolding rising
rising_tail a [] e = refl
rising_tail a (b ∷ l) e = ((and-eq-true_iff (ltb a b) (rising b l)).0 e).1

pub rising_above : (a : ℕ) (l : List ℕ) → rising a l ≡ true → (i : ℕ) → i < length l → a < get_or l i 0
unfolding rising
rising_above a [] e i h = absurd (omega arith)
rising_above a (b ∷ l) e zero h = ltb-true a b ((and-eq-true_iff (ltb a b) (rising b l)).0 e).0
rising_above a (b ∷ l) e (suc i) h =
    let both = (and-eq-true_iff (ltb a b) (rising b l)).0 e in
    lt_trans (ltb-true a b both.0) (rising_above b l both.1 i (le_of_suc-le-suc h))

-- by index
pub ascending-at : (l : List ℕ) → ascending l ≡ true → (i j : ℕ) → i < j → j < length l → get_or l i 0 < get_or l j 0
ascending-at [] e i j h g = absurd (omega arith)
ascending-at (a ∷ l) e i zero h g = absurd (omega arith)
ascending-at (a ∷ l) e zero (suc j) h g = rising_above a l e j (le_of_suc-le-suc g)
ascending-at (a ∷ l) e (suc i) (suc j) h g = ascending-at l (rising_tail a l e) i j (le_of_suc-le-suc h) (le_of_suc-le-suc g)

rising_of : (a : ℕ) (l : List ℕ) → ((i : ℕ) → i < length l → a < get_or l i 0) → ascending l ≡ true → rising a l ≡ true
unfolding rising
rising_of a [] h e = refl
rising_of a (b ∷ l) h e = and_holds (lt-ltb a b (h 0 (omega arith))) e

pub ascending_of : (l : List ℕ) → ((i j : ℕ) → i < j → j < length l → get_or l i 0 < get_or l j 0) → ascending l ≡ true
ascending_of [] h = refl
ascending_of (a ∷ l) h =
    rising_of a l (λ i p. h 0 (suc i) (omega arith) (suc-le-suc p))
    (ascending_of l (λ i j p q. h (suc i) (suc j) (suc-le-suc p) (suc-le-suc q)))

pub ascending-none : (l : List ℕ) → length l ≡ 0 → ascending l ≡ true
ascending-none [] e = refl
ascending-none (a ∷ l) e = absurd (omega arith)

-- the numbers from the second on, one at a time: those before e ascend, and last is the one before e
pub record Rising (l : List ℕ) (last e : ℕ) : Type 0 where
  pub within : e ≤ length l
  pub rest : rising last (drop e l) ≡ ascending l

pub rising-start : (l : List ℕ) (v : ℕ) → 0 < length l → v ≡ get_or l 0 0 → Rising l v 1
rising-start [] v h e = absurd (omega arith)
rising-start (a ∷ l) v h e = record { within = h; rest = ap (λ (w : ℕ). rising w l) e }

module _ (l : List ℕ) (last e v : ℕ) (r : Rising l last e) (h : e < length l) (at : v ≡ get_or l e 0) where
  rising-here : ltb last v && rising v (drop (e + 1) l) ≡ ascending l
  unfolding rising
  rising-here =
      ap (λ (w : ℕ). ltb last w && rising w (drop (e + 1) l)) at
      ∙ ap (λ (n : ℕ). rising last (get_or l e 0 ∷ drop n l)) (add-one e)
      ∙ ap (rising last) (sym (drop-cons l e 0 h))
      ∙ r.rest

  pub rising-next : last < v → Rising l v (e + 1)
  rising-next g = record {
    within = omega arith;
    rest = sym (ap (λ (t : Bool). t && rising v (drop (e + 1) l)) (lt-ltb last v g)) ∙ rising-here;
  }

  pub rising-stops : v ≤ last → false ≡ ascending l
  rising-stops g = sym (ap (λ (t : Bool). t && rising v (drop (e + 1) l)) (le-ltb last v g)) ∙ rising-here

pub rising-end : (l : List ℕ) (last e : ℕ) → Rising l last e → length l ≤ e → true ≡ ascending l
unfolding rising
rising-end l last e r h = ap (rising last) (sym (drop_of_length-le l h)) ∙ r.rest

-- whether or not there is a first number
pub rising-all : (l : List ℕ) (last e : ℕ) → (0 < length l → Rising l last e) → length l ≤ e → true ≡ ascending l
rising-all [] last e r h = refl
rising-all (a ∷ l) last e r h = rising-end (a ∷ l) last e (r (omega arith)) h

-- ---- repeats

pub distinct_true : (l : List ℕ) → distinct l ≡ true → Distinct l
unfolding distinct
distinct_true [] e = tt
distinct_true (a ∷ l) e =
    let both = (and-eq-true_iff (not (elem a l)) (distinct l)).0 e in
    (not-true (elem a l) both.0, distinct_true l both.1)

pub distinct_test : (l : List ℕ) → Distinct l → distinct l ≡ true
unfolding distinct
distinct_test [] d = refl
distinct_test (a ∷ l) d = and_holds (ap not d.0) (distinct_test l d.1)

pub ascending-distinct : (l : List ℕ) → ascending l ≡ true → Distinct l
ascending-distinct l e = distinct_of l (λ i j h g q. apart i j q (ascending-at l e i j h g))
  where
    apart : (i j : ℕ) → get_or l i 0 ≡ get_or l j 0 → get_or l i 0 < get_or l j 0 → ⊥
    apart i j q h = omega arith

-- ---- numbers taken through a rule

pub map_at : (f : ℕ → ℕ) (l : List ℕ) (i : ℕ) → i < length l → get_or (map f l) i 0 ≡ f (get_or l i 0)
map_at f [] i h = absurd (omega arith)
map_at f (a ∷ l) zero h = refl
map_at f (a ∷ l) (suc i) h = map_at f l i (le_of_suc-le-suc h)

-- a rule that keeps order: its values ascend exactly where the numbers do and no value stands twice
module _ (f : ℕ → ℕ) (keeps : (a b : ℕ) → a ≤ b → f a ≤ f b) (l : List ℕ) where
  values_at : (i j : ℕ) → i < j → j < length l → ascending (map f l) ≡ true → f (get_or l i 0) < f (get_or l j 0)
  values_at i j h g e =
      rw (map_at f l i (lt_trans h g), map_at f l j g) at (ascending-at (map f l) e i j h (rw (length-map l f) g))

  pub numbers_ascend : ascending (map f l) ≡ true → ascending l ≡ true
  numbers_ascend e = ascending_of l (λ i j h g. less (get_or l i 0) (get_or l j 0) (values_at i j h g e) (ltb (get_or l i 0) (get_or l j 0)) refl)
    where
      less : (a b : ℕ) → f a < f b → (t : Bool) → ltb a b ≡ t → a < b
      less a b h true q = ltb-true a b q
      less a b h false q = absurd (omega (arith, keeps b a (ltb-false a b q)))

  values_ascend : ascending l ≡ true → Distinct (map f l) → ascending (map f l) ≡ true
  values_ascend e d = ascending_of (map f l) (λ i j h g. up i j h (rw (length-map l f) at g) g)
    where
      strict : (a b : ℕ) → a ≤ b → a ≢ b → a < b
      strict a b h n = omega arith

      up : (i j : ℕ) → i < j → j < length l → j < length (map f l) → get_or (map f l) i 0 < get_or (map f l) j 0
      up i j h g k =
          strict (get_or (map f l) i 0) (get_or (map f l) j 0)
          (rw (map_at f l i (lt_trans h g), map_at f l j g) (keeps (get_or l i 0) (get_or l j 0) (le_of_lt (ascending-at l e i j h g))))
          (distinct-at (map f l) d i j h k)

  pub ascending_values : ascending l && distinct (map f l) ≡ ascending (map f l)
  ascending_values =
      same_test (ascending l && distinct (map f l)) (ascending (map f l))
      (λ e. let both = (and-eq-true_iff (ascending l) (distinct (map f l))).0 e in values_ascend both.0 (distinct_true (map f l) both.1))
      (λ e. and_holds (numbers_ascend e) (distinct_test (map f l) (ascending-distinct (map f l) e)))
