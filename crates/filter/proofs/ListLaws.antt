-- The tests of lists that the session's definition is written in, as statements of membership; and how many different numbers a list has.
-- Assumes nothing.
use mathlib.Core.Path.{◌≡◌, refl, sym, ap, ap₂, ◌∙◌, subst}
use mathlib.Core.Logic.{◌⊎◌, inl, inr}
use mathlib.Core.Bool.{Bool, true, false, not, ◌&&◌, ◌||◌, cond, false≢true, and_assoc}
use mathlib.Core.List.{List, [], ◌∷◌, ◌++◌, map}
use Prim.Native.Nat.{ℕ, ◌≤◌}
use native.Mathlib.Nat.{le_antisymm}
use native.Mathlib.Omega.{arith}
use lib.Dec.{eqb}
use lib.ListN.{length}
use borrow.Author.Tests.{not-true}
use Rattle.bucket.specs.Lists.{elem, Distinct}
use Rattle.bucket.proofs.ListLaws.{elem-head, elem_tail, elem-append, elem_cases, distinct-count}
use Rattle.bucket.proofs.TestLaws.{and_holds}
use Rattle.filter.specs.Lists.{select}
use Rattle.filter.proofs.OrderLaws.{same_test}
use Rattle.filter.proofs.SelectLaws.{elem_mem, mem_elem, select-all}
use Rattle.filter.specs.Sets.{◌∪◌, is_nil, all, within, once, news, count, every, implies, same}
use Rattle.filter.proofs.SetLaws.{◌∈◌, ◌⊆◌, clash, and_l, and_r, not_in_nil, not_in, elem-cons, in_cons, in_append-l, in_append-r, ∪-asc, in_∪-l, ∪-nil, asc-distinct, length-∪, or_swap}

pub length-nil : {X : Type 0} (l : List X) → length l ≡ 0 → l ≡ []
length-nil [] e = refl
length-nil (x ∷ l) e = absurd (omega (arith, e))

-- ---- all, within, none

pub all_of : (p : ℕ → Bool) (l : List ℕ) → ((x : ℕ) → x ∈ l → p x ≡ true) → all p l ≡ true
unfolding all
all_of p [] h = refl
all_of p (a ∷ l) h = and_holds (h a (elem-head a l)) (all_of p l (λ x e. h x (elem_tail x a l e)))

pub all_in : (p : ℕ → Bool) (l : List ℕ) → all p l ≡ true → (x : ℕ) → x ∈ l → p x ≡ true
unfolding all
all_in p [] h x e = absurd (not_in_nil x e)
all_in p (a ∷ l) h x e = go (in_cons x a l e) (all_in p l (and_r (p a) (all p l) h) x)
  where
    go : (x ≡ a) ⊎ (x ∈ l) → (x ∈ l → p x ≡ true) → p x ≡ true
    go (inl q) ih = ap p q ∙ and_l (p a) (all p l) h
    go (inr q) ih = ih q

pub not_all : (p : ℕ → Bool) (l : List ℕ) (x : ℕ) → x ∈ l → p x ≡ false → all p l ≡ false
not_all p l x e h = go (all p l) refl
  where
    go : (t : Bool) → all p l ≡ t → t ≡ false
    go true k = absurd (clash (all_in p l k x e) h)
    go false k = refl

pub within_of : (l m : List ℕ) → within l m ≡ true → l ⊆ m
unfolding within
within_of l m e = all_in (λ x. elem x m) l e

pub of_within : (l m : List ℕ) → l ⊆ m → within l m ≡ true
unfolding within
of_within l m h = all_of (λ x. elem x m) l h

pub select_of : (p : ℕ → Bool) (l : List ℕ) → ((x : ℕ) → x ∈ l → p x ≡ true) → select p l ≡ l
select_of p l h = select-all p l (λ y m. h y (mem_elem m))

pub is_nil_yes : (l : List ℕ) → ((x : ℕ) → x ∈ l → ⊥) → is_nil l ≡ true
is_nil_yes [] h = refl
is_nil_yes (a ∷ l) h = absurd (h a (elem-head a l))

pub is_nil_no : (l : List ℕ) (x : ℕ) → x ∈ l → is_nil l ≡ false
is_nil_no [] x e = absurd (not_in_nil x e)
is_nil_no (a ∷ l) x e = refl

pub nil_of : (l : List ℕ) → is_nil l ≡ true → l ≡ []
nil_of [] e = refl
nil_of (a ∷ l) e = absurd (false≢true e)

-- ---- lists without repeats, apart from what was seen

abbrev pub Apart : List ℕ → List ℕ → Type 0
Apart l seen = (x : ℕ) → x ∈ l → x ∈ seen → ⊥

pub distinct_append : (l m : List ℕ) → Distinct l → Distinct m → Apart m l → Distinct (l ++ m)
distinct_append l m d k h = Rattle.filter.proofs.SelectLaws.distinct_append l m d k (λ x p q. h x (mem_elem q) (mem_elem p))

pub distinct-front : (l m : List ℕ) → Distinct (l ++ m) → Distinct l
distinct-front [] m h = tt
distinct-front (a ∷ l) m h = (not_in a l (λ e. clash (in_append-l a l m e) h.0), distinct-front l m h.1)

pub distinct-back : (l m : List ℕ) → Distinct (l ++ m) → Distinct m
distinct-back [] m h = h
distinct-back (a ∷ l) m h = distinct-back l m h.1

pub distinct_apart : (l m : List ℕ) → Distinct (l ++ m) → Apart m l
distinct_apart [] m h x k e = not_in_nil x e
distinct_apart (a ∷ l) m h x k e = go (in_cons x a l e) (distinct_apart l m h.1 x k)
  where
    go : (x ≡ a) ⊎ (x ∈ l) → (x ∈ l → ⊥) → ⊥
    go (inl p) ih = clash (in_append-r a l m (subst (λ (z : ℕ). z ∈ m) p k)) h.0
    go (inr p) ih = ih p

apart_tail : (a : ℕ) (l seen : List ℕ) → Distinct (a ∷ l) → Apart (a ∷ l) seen → Apart l (a ∷ seen)
apart_tail a l seen d h x e k = go (in_cons x a seen k)
  where
    go : (x ≡ a) ⊎ (x ∈ seen) → ⊥
    go (inl p) = clash (subst (λ (z : ℕ). z ∈ l) p e) d.0
    go (inr p) = h x (elem_tail x a l e) p

-- `once` is: without repeats, and apart from what was seen
pub once_of : (seen l : List ℕ) → Distinct l → Apart l seen → once seen l ≡ true
unfolding once
once_of seen [] d h = refl
once_of seen (a ∷ l) d h =
    and_holds (ap not (not_in a seen (h a (elem-head a l)))) (once_of (a ∷ seen) l d.1 (apart_tail a l seen d h))

pub once-apart : (seen l : List ℕ) → once seen l ≡ true → Apart l seen
unfolding once
once-apart seen [] h x e k = not_in_nil x e
once-apart seen (a ∷ l) h x e k = go (in_cons x a l e) (once-apart (a ∷ seen) l (and_r (not (elem a seen)) (once (a ∷ seen) l) h) x)
  where
    go : (x ≡ a) ⊎ (x ∈ l) → (x ∈ l → x ∈ a ∷ seen → ⊥) → ⊥
    go (inl p) ih = clash (subst (λ (z : ℕ). z ∈ seen) p k) (not-true (elem a seen) (and_l (not (elem a seen)) (once (a ∷ seen) l) h))
    go (inr p) ih = ih p (elem_tail x a seen k)

pub once-distinct : (seen l : List ℕ) → once seen l ≡ true → Distinct l
unfolding once
once-distinct seen [] h = tt
once-distinct seen (a ∷ l) h =
    let rest : once (a ∷ seen) l ≡ true = and_r (not (elem a seen)) (once (a ∷ seen) l) h in
    (not_in a l (λ e. once-apart (a ∷ seen) l rest a e (elem-head a seen)), once-distinct (a ∷ seen) l rest)

cons_same : (a : ℕ) (s u : List ℕ) → ((x : ℕ) → elem x s ≡ elem x u) → (x : ℕ) → elem x (a ∷ s) ≡ elem x (a ∷ u)
cons_same a s u h x = elem-cons x a s ∙ ap (λ (t : Bool). eqb x a || t) (h x) ∙ sym (elem-cons x a u)

-- what was seen counts by its members alone
pub once-same : (s u l : List ℕ) → ((x : ℕ) → elem x s ≡ elem x u) → once s l ≡ once u l
unfolding once
once-same s u [] h = refl
once-same s u (a ∷ l) h = ap₂ (λ (b c : Bool). not b && c) (h a) (once-same (a ∷ s) (a ∷ u) l (cons_same a s u h))

pub news-same : (s u l : List ℕ) → ((x : ℕ) → elem x s ≡ elem x u) → news s l ≡ news u l
unfolding news
news-same s u [] h = refl
news-same s u (a ∷ l) h =
    ap (λ (b : Bool). cond b (news s l) (a ∷ news (a ∷ s) l)) (h a)
    ∙ ap₂ (λ (m n : List ℕ). cond (elem a u) m (a ∷ n)) (news-same s u l h) (news-same (a ∷ s) (a ∷ u) l (cons_same a s u h))

-- the members of what was seen and then heard, in either order
pub seen_more : (a : ℕ) (l seen : List ℕ) (x : ℕ) → elem x (l ++ (a ∷ seen)) ≡ elem x ((a ∷ l) ++ seen)
seen_more a l seen x =
    elem-append x l (a ∷ seen)
    ∙ ap (λ (t : Bool). elem x l || t) (elem-cons x a seen)
    ∙ or_swap (eqb x a) (elem x l) (elem x seen)
    ∙ ap (λ (t : Bool). eqb x a || t) (sym (elem-append x l seen))
    ∙ sym (elem-cons x a (l ++ seen))

pub once-append : (seen l m : List ℕ) → once seen (l ++ m) ≡ once seen l && once (l ++ seen) m
unfolding once
once-append seen [] m = refl
once-append seen (a ∷ l) m =
    ap (λ (t : Bool). not (elem a seen) && t)
    (once-append (a ∷ seen) l m
    ∙ ap (λ (t : Bool). once (a ∷ seen) l && t) (once-same (l ++ (a ∷ seen)) ((a ∷ l) ++ seen) m (seen_more a l seen)))
    ∙ sym (and_assoc (not (elem a seen)) (once (a ∷ seen) l) (once ((a ∷ l) ++ seen) m))

-- ---- the numbers not seen

elem-known : (a : ℕ) (l : List ℕ) (x : ℕ) → a ∈ l → elem x (a ∷ l) ≡ elem x l
elem-known a l x h =
    same_test (elem x (a ∷ l)) (elem x l) (λ e. elem_cases (λ (z : ℕ). z ∈ l) x a l e h (λ k. k)) (λ e. elem_tail x a l e)

pub news_of_lem : (seen l : List ℕ) → Distinct l → Apart l seen → news seen l ≡ l
unfolding news
news_of_lem seen [] d h = refl
news_of_lem seen (a ∷ l) d h =
    ap (λ (b : Bool). cond b (news seen l) (a ∷ news (a ∷ seen) l)) (not_in a seen (h a (elem-head a l)))
    ∙ ap {B = List ℕ} (λ r. a ∷ r) (news_of_lem (a ∷ seen) l d.1 (apart_tail a l seen d h))

pub news-once : (seen l : List ℕ) → once seen (news seen l) ≡ true
unfolding news once
news-once seen [] = refl
news-once seen (a ∷ l) = go (elem a seen) refl (news-once seen l) (news-once (a ∷ seen) l)
  where
    go : (b : Bool) → elem a seen ≡ b → once seen (news seen l) ≡ true → once (a ∷ seen) (news (a ∷ seen) l) ≡ true
        → once seen (cond b (news seen l) (a ∷ news (a ∷ seen) l)) ≡ true
    go true q f g = f
    go false q f g = and_holds (ap not q) g

pub news-apart : (seen l : List ℕ) → Apart (news seen l) seen
news-apart seen l = once-apart seen (news seen l) (news-once seen l)

pub news-distinct : (seen l : List ℕ) → Distinct (news seen l)
news-distinct seen l = once-distinct seen (news seen l) (news-once seen l)

pub news_in : (seen l : List ℕ) → news seen l ⊆ l
unfolding news
news_in seen [] x e = e
news_in seen (a ∷ l) x e = go (elem a seen) e (news_in seen l x) (news_in (a ∷ seen) l x)
  where
    go : (b : Bool) → x ∈ cond b (news seen l) (a ∷ news (a ∷ seen) l) → (x ∈ news seen l → x ∈ l) → (x ∈ news (a ∷ seen) l → x ∈ l) → x ∈ a ∷ l
    go true k f g = elem_tail x a l (f k)
    go false k f g = at (in_cons x a (news (a ∷ seen) l) k)
      where
        at : (x ≡ a) ⊎ (x ∈ news (a ∷ seen) l) → x ∈ a ∷ l
        at (inl p) = subst (λ (z : ℕ). z ∈ a ∷ l) (sym p) (elem-head a l)
        at (inr p) = elem_tail x a l (g p)

-- what was heard was seen, or is new
pub in_news : (seen l : List ℕ) (x : ℕ) → x ∈ l → (x ∈ seen) ⊎ (x ∈ news seen l)
unfolding news
in_news seen [] x e = absurd (not_in_nil x e)
in_news seen (a ∷ l) x e = go (elem a seen) refl (in_cons x a l e) (in_news seen l x) (in_news (a ∷ seen) l x)
  where
    go : (b : Bool) → elem a seen ≡ b → (x ≡ a) ⊎ (x ∈ l) → (x ∈ l → (x ∈ seen) ⊎ (x ∈ news seen l)) → (x ∈ l → (x ∈ a ∷ seen) ⊎ (x ∈ news (a ∷ seen) l))
        → (x ∈ seen) ⊎ (x ∈ cond b (news seen l) (a ∷ news (a ∷ seen) l))
    go true q (inl p) f g = inl (subst (λ (z : ℕ). z ∈ seen) (sym p) q)
    go true q (inr p) f g = f p
    go false q (inl p) f g = inr (subst (λ (z : ℕ). z ∈ a ∷ news (a ∷ seen) l) (sym p) (elem-head a (news (a ∷ seen) l)))
    go false q (inr p) f g = at (g p)
      where
        at : (x ∈ a ∷ seen) ⊎ (x ∈ news (a ∷ seen) l) → (x ∈ seen) ⊎ (x ∈ a ∷ news (a ∷ seen) l)
        at (inr k) = inr (elem_tail x a (news (a ∷ seen) l) k)
        at (inl k) = here (in_cons x a seen k)
          where
            here : (x ≡ a) ⊎ (x ∈ seen) → (x ∈ seen) ⊎ (x ∈ a ∷ news (a ∷ seen) l)
            here (inl h) = inr (subst (λ (z : ℕ). z ∈ a ∷ news (a ∷ seen) l) (sym h) (elem-head a (news (a ∷ seen) l)))
            here (inr h) = inl h

pub news-append : (seen l m : List ℕ) → news seen (l ++ m) ≡ news seen l ++ news (l ++ seen) m
unfolding news
news-append seen [] m = refl
news-append seen (a ∷ l) m = go (elem a seen) refl (news-append seen l m) (news-append (a ∷ seen) l m)
  where
    go : (b : Bool) → elem a seen ≡ b → news seen (l ++ m) ≡ news seen l ++ news (l ++ seen) m → news (a ∷ seen) (l ++ m) ≡ news (a ∷ seen) l ++ news (l ++ (a ∷ seen)) m
        → cond b (news seen (l ++ m)) (a ∷ news (a ∷ seen) (l ++ m)) ≡ cond b (news seen l) (a ∷ news (a ∷ seen) l) ++ news ((a ∷ l) ++ seen) m
    go true q f g = f ∙ ap (λ (r : List ℕ). news seen l ++ r) (news-same (l ++ seen) ((a ∷ l) ++ seen) m (λ x. sym (elem-known a (l ++ seen) x (in_append-r a l seen q))))
    go false q f g =
        ap {B = List ℕ} (λ r. a ∷ r)
        (g ∙ ap (λ (r : List ℕ). news (a ∷ seen) l ++ r) (news-same (l ++ (a ∷ seen)) ((a ∷ l) ++ seen) m (seen_more a l seen)))

-- ---- numbers taken through a rule

pub in_map : (f : ℕ → ℕ) (x : ℕ) (l : List ℕ) → x ∈ l → f x ∈ map f l
in_map f x l h = Rattle.filter.proofs.SelectLaws.mem_key f (elem_mem x l h)

pub map_in : (f : ℕ → ℕ) (y : ℕ) (l : List ℕ) → y ∈ map f l → (x : ℕ) × (x ∈ l) × (f x ≡ y)
map_in f y l h = let (x, m, p) = Rattle.filter.proofs.SelectLaws.map_mem f y l (elem_mem y (map f l) h) in (x, mem_elem m, sym p)

pub distinct-map : (f : ℕ → ℕ) (l : List ℕ) → ((x y : ℕ) → x ∈ l → y ∈ l → f x ≡ f y → x ≡ y) → Distinct l → Distinct (map f l)
distinct-map f [] inj d = tt
distinct-map f (a ∷ l) inj d = (
  not_in (f a) (map f l) (λ e. bad (map_in f (f a) l e)),
  distinct-map f l (λ x y p q. inj x y (elem_tail x a l p) (elem_tail y a l q)) d.1,
)
  where
    bad : (x : ℕ) × (x ∈ l) × (f x ≡ f a) → ⊥
    bad (x, m, p) = clash (subst (λ (z : ℕ). z ∈ l) (inj x a (elem_tail x a l m) (elem-head a l) p) m) d.0

-- where no value stands twice, a number is known by its value
pub map-distinct : (f : ℕ → ℕ) (l : List ℕ) → Distinct (map f l) → (x y : ℕ) → x ∈ l → y ∈ l → f x ≡ f y → x ≡ y
map-distinct f l d x y p q e = Rattle.filter.proofs.SelectLaws.key_same f l d x y (elem_mem x l p) (elem_mem y l q) e

-- ---- how many different numbers

pub count_le : (l m : List ℕ) → l ⊆ m → count l ≤ count m
count_le l m h =
    distinct-count (l ∪ []) (m ∪ []) (asc-distinct (l ∪ []) (∪-asc l [] tt)) (λ x e. in_∪-l x m [] (h x (∪-nil x l e)))

pub count_same : (l m : List ℕ) → l ⊆ m → m ⊆ l → count l ≡ count m
count_same l m f g = le_antisymm (count_le l m f) (count_le m l g)

pub count-length : (l : List ℕ) → count l ≤ length l
count-length l = omega (arith, length-∪ l [])

pub count-distinct : (l : List ℕ) → Distinct l → count l ≡ length l
count-distinct l d = le_antisymm (count-length l) (distinct-count l (l ∪ []) d (λ x e. in_∪-l x l [] e))

-- ---- lists of tests, and tests of tests

pub every-cons : (b : Bool) (l : List Bool) → every (b ∷ l) ≡ true → (b ≡ true) × (every l ≡ true)
unfolding every
every-cons b l e = (and_l b (every l) e, and_r b (every l) e)

pub every-nil : every [] ≡ true
unfolding every
every-nil = refl

pub cons-every : (b : Bool) (l : List Bool) → b ≡ true → every l ≡ true → every (b ∷ l) ≡ true
unfolding every
cons-every b l p q = and_holds p q

pub implies_of : (a b : Bool) → implies a b ≡ true → a ≡ true → b ≡ true
implies_of true b e k = e
implies_of false b e k = absurd (false≢true k)

pub of_implies : (a b : Bool) → (a ≡ true → b ≡ true) → implies a b ≡ true
of_implies true b h = h refl
of_implies false b h = refl

pub implies_not : (a b : Bool) → not (implies a (not b)) ≡ a && b
implies_not true true = refl
implies_not true false = refl
implies_not false b = refl

pub same_of : (a b : Bool) → same a b ≡ true → a ≡ b
same_of true b e = sym e
same_of false b e = sym (not-true b e)

pub of_same : (a b : Bool) → a ≡ b → same a b ≡ true
of_same true b e = sym e
of_same false b e = ap not (sym e)
