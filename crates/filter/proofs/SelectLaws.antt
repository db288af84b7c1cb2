-- Parts of a list: by a mask (`select`), by what another list does not hold (`minus`), and by taking one element out (`Pick`);
-- with membership as a test and as a proof. Assumes nothing.
use mathlib.Core.Path.{◌≡◌, refl, sym, ap, ap₂, ◌∙◌}
use mathlib.Core.Logic.{◌≢◌, ◌⊎◌, inl, inr}
use mathlib.Core.Bool.{Bool, true, false, not, ◌||◌, cond, or_comm, true≢false, false≢true}
use mathlib.Core.List.Memᴰ
use mathlib.Core.List.{List, [], ◌∷◌, ◌++◌, map, reverse, reverse-cons, Memᴰ}
use mathlib.Core.List.Memᴰ.{head}
use mathlib.Core.List.Memᴰ.{tail}
use Prim.Native.Nat.{ℕ}
use lib.Dec.{eqb}
use borrow.Author.Tests.{eqb-true}
use Rattle.bucket.specs.Lists.{elem, Distinct}
use Rattle.bucket.proofs.ListLaws.{elem-head, elem_tail, elem-cons_ne, elem_last, distinct_last}
use Rattle.filter.specs.Lists.{select, minus}
use Rattle.filter.proofs.OrderLaws.{same_test}

-- ---- membership, as a test and as a proof

pub elem_mem : (a : ℕ) (l : List ℕ) → elem a l ≡ true → Memᴰ a l
unfolding elem
elem_mem a [] e = absurd (false≢true e)
elem_mem a (b ∷ l) e = go (eqb a b) refl e (elem_mem a l)
  where
    go : (t : Bool) → eqb a b ≡ t → t || elem a l ≡ true → (elem a l ≡ true → Memᴰ a l) → Memᴰ a (b ∷ l)
    go true h k ih = head (eqb-true a b h)
    go false h k ih = tail (ih k)

pub mem_elem : {a : ℕ} {l : List ℕ} → Memᴰ a l → elem a l ≡ true
mem_elem {a} (head {x = b} {xs = l} e) = rw e (elem-head b l)
mem_elem {a} (tail {x = b} {xs = l} m) = elem_tail a b l (mem_elem m)

pub not_elem : (a : ℕ) (l : List ℕ) → (Memᴰ a l → ⊥) → elem a l ≡ false
not_elem a l h = go (elem a l) refl
  where
    go : (t : Bool) → elem a l ≡ t → t ≡ false
    go true e = absurd (h (elem_mem a l e))
    go false e = refl

pub not_both : (b : Bool) → b ≡ true → not b ≡ true → ⊥
not_both true e f = false≢true f
not_both false e f = false≢true e

pub mem_map : {A B : Type 0} (g : A → B) {x : A} {l : List A} → Memᴰ x l → Memᴰ (g x) (map g l)
mem_map g (head e) = head (ap g e)
mem_map g (tail m) = tail (mem_map g m)

pub map_mem : {A B : Type 0} (g : A → B) (y : B) (l : List A) → Memᴰ y (map g l) → (x : A) × Memᴰ x l × (y ≡ g x)
map_mem g y [] m = elim m [ ]
map_mem g y (x ∷ l) (head e) = (x, head refl, e)
map_mem g y (x ∷ l) (tail m) = let r = map_mem g y l m in (r.0, tail r.1, r.2)

module _ {A : Type 0} (key : A → ℕ) where
  pub mem_key : {x : A} {l : List A} → Memᴰ x l → elem (key x) (map key l) ≡ true
  mem_key m = mem_elem (mem_map key m)

  pub not_in : {y : A} {l : List A} (a : ℕ) → elem a (map key l) ≡ false → Memᴰ y l → key y ≢ a
  not_in {y} {l} a e m h = true≢false (sym (mem_key m) ∙ ap (λ (b : ℕ). elem b (map key l)) h ∙ e)

  -- where no key stands twice, an element is known by its key
  pub key_same : (d : List A) → Distinct (map key d) → (x y : A) → Memᴰ x d → Memᴰ y d → key x ≡ key y → x ≡ y
  key_same [] dd x y m n e = elim m [ ]
  key_same (z ∷ d) dd x y (head p) (head q) e = p ∙ sym q
  key_same (z ∷ d) dd x y (head p) (tail n) e = absurd (not_in (key z) dd.0 n (sym e ∙ ap key p))
  key_same (z ∷ d) dd x y (tail m) (head q) e = absurd (not_in (key z) dd.0 m (e ∙ ap key q))
  key_same (z ∷ d) dd x y (tail m) (tail n) e = key_same d dd.1 x y m n e

pub distinct_append : (a b : List ℕ) → Distinct a → Distinct b → ((x : ℕ) → Memᴰ x a → Memᴰ x b → ⊥) → Distinct (a ++ b)
distinct_append [] b da db h = db
distinct_append (x ∷ a) b da db h = (
  not_elem x (a ++ b) (λ m. go (Memᴰ.append_cases a m)),
  distinct_append a b da.1 db (λ y m. h y (tail m)),
)
  where
    go : Memᴰ x a ⊎ Memᴰ x b → ⊥
    go (inl m) = true≢false (sym (mem_elem m) ∙ da.0)
    go (inr m) = h x (head refl) m

-- ---- reversed

pub elem-reverse : (a : ℕ) (l : List ℕ) → elem a (reverse l) ≡ elem a l
unfolding elem
elem-reverse a [] = refl
elem-reverse a (b ∷ l) =
    ap (elem a) (reverse-cons b l)
    ∙ elem_last a b (reverse l)
    ∙ or_comm (elem a (reverse l)) (eqb a b)
    ∙ ap (λ (t : Bool). eqb a b || t) (elem-reverse a l)

pub distinct-reverse : (l : List ℕ) → Distinct l → Distinct (reverse l)
distinct-reverse [] d = tt
distinct-reverse (a ∷ l) d = rw reverse-cons (distinct_last a (reverse l) (distinct-reverse l d.1) (elem-reverse a l ∙ d.0))

-- ---- one element taken out: `l` is `r` with `x` put in somewhere

pub data Pick {A : Type 0} (x : A) : List A → List A → Type 0 where
  here : {y : A} {l : List A} → x ≡ y → Pick x (y ∷ l) l
  there : {y : A} {l r : List A} → Pick x l r → Pick x (y ∷ l) (y ∷ r)

pub pick_map : {A B : Type 0} (g : A → B) {x : A} {l r : List A} → Pick x l r → Pick (g x) (map g l) (map g r)
pick_map g (here e) = here (ap g e)
pick_map g (there p) = there (pick_map g p)

-- ---- the part that a mask names

module _ {A : Type 0} where
  pub select_yes : (p : A → Bool) (x : A) (l : List A) → p x ≡ true → select p (x ∷ l) ≡ x ∷ select p l
  unfolding select
  select_yes p x l e = ap (λ (t : Bool). cond t (x ∷ select p l) (select p l)) e

  pub select_no : (p : A → Bool) (x : A) (l : List A) → p x ≡ false → select p (x ∷ l) ≡ select p l
  unfolding select
  select_no p x l e = ap (λ (t : Bool). cond t (x ∷ select p l) (select p l)) e

  -- by cases on the test
  pub select_cases : (P : List A → Type 0) (p : A → Bool) (x : A) (l : List A)
      → (p x ≡ true → P (x ∷ select p l)) → (p x ≡ false → P (select p l)) → P (select p (x ∷ l))
  select_cases P p x l f g = go (p x) refl
    where
      go : (t : Bool) → p x ≡ t → P (select p (x ∷ l))
      go true e = rw (select_yes p x l e) (f e)
      go false e = rw (select_no p x l e) (g e)

  pub select-agree : (p q : A → Bool) (l : List A) → ((y : A) → Memᴰ y l → p y ≡ q y) → select p l ≡ select q l
  unfolding select
  select-agree p q [] h = refl
  select-agree p q (x ∷ l) h =
      ap₂ (λ (t : Bool) (r : List A). cond t (x ∷ r) r) (h x (head refl)) (select-agree p q l (λ y m. h y (tail m)))

  pub select-all : (p : A → Bool) (l : List A) → ((y : A) → Memᴰ y l → p y ≡ true) → select p l ≡ l
  select-all p [] h = unfold select in refl
  select-all p (x ∷ l) h = select_yes p x l (h x (head refl)) ∙ ap (λ (r : List A). x ∷ r) (select-all p l (λ y m. h y (tail m)))

  pub mem_select : (p : A → Bool) (x : A) (l : List A) → Memᴰ x (select p l) → Memᴰ x l
  unfolding select
  mem_select p x [] m = m
  mem_select p x (y ∷ l) m = go (p y) m (mem_select p x l)
    where
      go : (t : Bool) → Memᴰ x (cond t (y ∷ select p l) (select p l)) → (Memᴰ x (select p l) → Memᴰ x l) → Memᴰ x (y ∷ l)
      go true (head e) ih = head e
      go true (tail k) ih = tail (ih k)
      go false k ih = tail (ih k)

  pub mem_select_true : (p : A → Bool) (x : A) (l : List A) → Memᴰ x (select p l) → p x ≡ true
  unfolding select
  mem_select_true p x [] m = elim m [ ]
  mem_select_true p x (y ∷ l) m = go (p y) refl m (mem_select_true p x l)
    where
      go : (t : Bool) → p y ≡ t → Memᴰ x (cond t (y ∷ select p l) (select p l)) → (Memᴰ x (select p l) → p x ≡ true) → p x ≡ true
      go true e (head h) ih = ap p h ∙ e
      go true e (tail k) ih = ih k
      go false e k ih = ih k

  pub select_mem : (p : A → Bool) (x : A) (l : List A) → Memᴰ x l → p x ≡ true → Memᴰ x (select p l)
  select_mem p x [] m e = elim m [ ]
  select_mem p x (y ∷ l) (head h) e = rw (select_yes p y l (ap p (sym h) ∙ e)) (head h)
  select_mem p x (y ∷ l) (tail m) e =
      select_cases (λ (b : List A). Memᴰ x b) p y l (λ k. tail (select_mem p x l m e)) (λ k. select_mem p x l m e)

  -- two masks that differ at x alone
  module _ (key : A → ℕ) (p q : A → Bool) (x : A) (yes : p x ≡ true) (no : q x ≡ false) (agree : (y : A) → key y ≢ key x → p y ≡ q y) where
    pub pick_select : (l : List A) → Memᴰ x l → Distinct (map key l) → Pick x (select p l) (select q l)
    pick_select [] m d = elim m [ ]
    pick_select (y ∷ l) (head e) d =
        let apart : elem (key x) (map key l) ≡ false = rw e d.0 in
        let same : select q l ≡ select p l = select-agree q p l (λ z m. sym (agree z (not_in key (key x) apart m))) in
        rw (select_yes p y l (ap p (sym e) ∙ yes), select_no q y l (ap q (sym e) ∙ no), same) (here e)
    pick_select (y ∷ l) (tail m) d = go (p y) refl (pick_select l m d.1)
      where
        here-same : p y ≡ q y
        here-same = agree y (λ h. not_in key (key y) d.0 m (sym h))

        go : (t : Bool) → p y ≡ t → Pick x (select p l) (select q l) → Pick x (select p (y ∷ l)) (select q (y ∷ l))
        go true e ih = rw (select_yes p y l e, select_yes q y l (sym here-same ∙ e)) (there ih)
        go false e ih = rw (select_no p y l e, select_no q y l (sym here-same ∙ e)) ih

-- ---- what another list does not hold

pub map_same : (l : List ℕ) → map (λ a. a) l ≡ l
map_same [] = refl
map_same (a ∷ l) = ap {B = List ℕ} (λ r. a ∷ r) (map_same l)

pub minus-nil : (t : List ℕ) → minus t [] ≡ t
unfolding minus elem
minus-nil t = select-all (λ a. true) t (λ y m. refl)

pub minus_skip : (t s : List ℕ) (a : ℕ) → elem a s ≡ true → minus (a ∷ t) s ≡ minus t s
unfolding minus
minus_skip t s a e = select_no (λ b. not (elem b s)) a t (ap not e)

pub minus-cons : (t s : List ℕ) (a : ℕ) → elem a s ≡ false → minus (a ∷ t) s ≡ a ∷ minus t s
unfolding minus
minus-cons t s a e = select_yes (λ b. not (elem b s)) a t (ap not e)

-- it goes by membership alone
pub minus_cong : (t l m : List ℕ) → ((a : ℕ) → elem a l ≡ elem a m) → minus t l ≡ minus t m
unfolding minus
minus_cong t l m h = select-agree (λ b. not (elem b l)) (λ b. not (elem b m)) t (λ y k. ap not (h y))

pub minus_other : (t s : List ℕ) (a : ℕ) → elem a s ≡ false → minus s (a ∷ t) ≡ minus s t
unfolding minus
minus_other t s a e =
    select-agree (λ b. not (elem b (a ∷ t))) (λ b. not (elem b t)) s
    (λ y m. ap not (elem-cons_ne y a t (λ h. true≢false (sym (mem_elem m) ∙ ap (λ (c : ℕ). elem c s) h ∙ e))))

pub mem_minus : (t s : List ℕ) (a : ℕ) → Memᴰ a (minus t s) → Memᴰ a t
unfolding minus
mem_minus t s a m = mem_select (λ b. not (elem b s)) a t m

pub mem_minus_not : (t s : List ℕ) (a : ℕ) → Memᴰ a (minus t s) → not (elem a s) ≡ true
unfolding minus
mem_minus_not t s a m = mem_select_true (λ b. not (elem b s)) a t m

pub pick_minus : (t l : List ℕ) (a : ℕ) → Distinct t → Memᴰ a t → elem a l ≡ false → Pick a (minus t l) (minus t (a ∷ l))
unfolding minus
pick_minus t l a d m h =
    pick_select (λ b. b) (λ b. not (elem b l)) (λ b. not (elem b (a ∷ l))) a (ap not h) (ap not (elem-head a l))
    (λ y k. ap not (sym (elem-cons_ne y a l k))) t m (rw map_same d)

-- ---- parts of parts

select_swap : (p q r : ℕ → Bool) (l : List ℕ) → ((a : ℕ) → p a ≡ true → q a ≡ r a) → select q (select p l) ≡ select p (select r l)
select_swap p q r [] h = unfold select in refl
select_swap p q r (a ∷ l) h = go (p a) (r a) refl refl (select_swap p q r l h)
  where
    go : (b c : Bool) → p a ≡ b → r a ≡ c → select q (select p l) ≡ select p (select r l)
        → select q (select p (a ∷ l)) ≡ select p (select r (a ∷ l))
    go true true e k ih =
        rw (select_yes p a l e, select_yes r a l k, select_yes q a (select p l) (h a e ∙ k), select_yes p a (select r l) e, ih)
    go true false e k ih = rw (select_yes p a l e, select_no r a l k, select_no q a (select p l) (h a e ∙ k)) ih
    go false true e k ih = rw (select_no p a l e, select_yes r a l k, select_no p a (select r l) e) ih
    go false false e k ih = rw (select_no p a l e, select_no r a l k) ih

elem-select : (p : ℕ → Bool) (l : List ℕ) (a : ℕ) → p a ≡ true → elem a (select p l) ≡ elem a l
elem-select p l a e =
    same_test (elem a (select p l)) (elem a l) (λ k. mem_elem (mem_select p a l (elem_mem a (select p l) k)))
    (λ k. mem_elem (select_mem p a l (elem_mem a l k) e))

pub minus-select : (p : ℕ → Bool) (t s : List ℕ) → minus (select p t) (select p s) ≡ select p (minus t s)
unfolding minus
minus-select p t s =
    select_swap p (λ a. not (elem a (select p s))) (λ a. not (elem a s)) t (λ a e. ap not (elem-select p s a e))

pub distinct-select : (p : ℕ → Bool) (l : List ℕ) → Distinct l → Distinct (select p l)
distinct-select p [] d = unfold select in tt
distinct-select p (a ∷ l) d =
    select_cases (λ (m : List ℕ). Distinct m) p a l
    (λ e. (not_elem a (select p l) (λ m. true≢false (sym (mem_elem (mem_select p a l m)) ∙ d.0)), distinct-select p l d.1))
    (λ e. distinct-select p l d.1)

pub distinct-minus : (t s : List ℕ) → Distinct t → Distinct (minus t s)
unfolding minus
distinct-minus t s = distinct-select (λ a. not (elem a s)) t
