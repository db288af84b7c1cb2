-- Lists as sets of numbers: membership, distinctness and counting; and lists padded with zeros. Assumes nothing.
use mathlib.Core.Path.{◌≡◌, refl, sym, ap, ap₂, subst, ◌∙◌}
use mathlib.Core.Logic.{◌≢◌}
use mathlib.Core.Bool.{Bool, true, false, ◌||◌, cond, true≢false, false≢true}
use mathlib.Core.List.{List, [], ◌∷◌, ◌++◌, append_assoc}
use Prim.Native.Nat.{ℕ, zero, suc, ◌+◌, ◌-◌, ◌≤◌, ◌<◌, zero-le, suc-le-suc}
use native.Mathlib.Nat.{le_of_suc-le-suc}
use native.Mathlib.Numerals.{add-one}
use native.Mathlib.Omega.{arith}
use lib.Dec.{eqb}
use lib.ListN.{length, get_or, take, set, replicate, length-append, length-replicate, get_or-append}
use lib.Seq.{set_at, take-suc}
use borrow.Author.Tests.{eqb-true, eqb-false, eq-eqb, ne_eqb}
use Rattle.std.specs.List.{list_any}
use Rattle.std.proofs.lemmas.Bool.Decides.{nat_tests}
use Rattle.bucket.specs.Lists.{pad, elem, Distinct}

-- ---- tests

pub eqb_self : (a : ℕ) → eqb a a ≡ true
eqb_self a = eq-eqb a a refl

pub or_false_r : (a : Bool) → a || false ≡ a
or_false_r true = refl
or_false_r false = refl

pub or_true_r : (a : Bool) → a || true ≡ true
or_true_r true = refl
or_true_r false = refl

pub or_assoc : (a b c : Bool) → (a || b) || c ≡ a || (b || c)
or_assoc true b c = refl
or_assoc false b c = refl

neither_l : (a b : Bool) → a || b ≡ false → a ≡ false
neither_l true b e = absurd (true≢false e)
neither_l false b e = refl

neither_r : (a b : Bool) → a || b ≡ false → b ≡ false
neither_r true b e = absurd (true≢false e)
neither_r false b e = e

-- ---- membership

pub elem-head : (a : ℕ) (l : List ℕ) → elem a (a ∷ l) ≡ true
unfolding elem
elem-head a l = ap (λ (t : Bool). t || elem a l) (eqb_self a)

pub elem_tail : (a b : ℕ) (l : List ℕ) → elem a l ≡ true → elem a (b ∷ l) ≡ true
unfolding elem
elem_tail a b l e = ap (λ (t : Bool). eqb a b || t) e ∙ or_true_r (eqb a b)

pub elem-cons_ne : (a b : ℕ) (l : List ℕ) → a ≢ b → elem a (b ∷ l) ≡ elem a l
unfolding elem
elem-cons_ne a b l h = ap (λ (t : Bool). t || elem a l) (ne_eqb a b h)

pub elem_not_head : (a b : ℕ) (l : List ℕ) → elem a (b ∷ l) ≡ false → a ≢ b
unfolding elem
elem_not_head a b l e = eqb-false a b (neither_l (eqb a b) (elem a l) e)

pub elem_not_tail : (a b : ℕ) (l : List ℕ) → elem a (b ∷ l) ≡ false → elem a l ≡ false
unfolding elem
elem_not_tail a b l e = neither_r (eqb a b) (elem a l) e

-- by cases: the first, or one of the others
pub elem_cases : (P : ℕ → Type 0) (a b : ℕ) (l : List ℕ) → elem a (b ∷ l) ≡ true → P b → (elem a l ≡ true → P a) → P a
elem_cases P a b l e first other = go (eqb a b) refl
  where
    go : (t : Bool) → eqb a b ≡ t → P a
    go true q = subst P (sym (eqb-true a b q)) first
    go false q = other (sym (elem-cons_ne a b l (eqb-false a b q)) ∙ e)

pub elem-nil : (a : ℕ) → elem a [] ≡ false
unfolding elem
elem-nil a = refl

pub elem-append : (a : ℕ) (l m : List ℕ) → elem a (l ++ m) ≡ elem a l || elem a m
unfolding elem
elem-append a [] m = refl
elem-append a (b ∷ l) m = ap (λ (t : Bool). eqb a b || t) (elem-append a l m) ∙ sym (or_assoc (eqb a b) (elem a l) (elem a m))

-- one more at the end
pub elem_last : (a b : ℕ) (l : List ℕ) → elem a (l ++ b ∷ []) ≡ elem a l || eqb a b
unfolding elem
elem_last a b l = elem-append a l (b ∷ []) ∙ ap (λ (t : Bool). elem a l || t) (or_false_r (eqb a b))

eqb_comm : (a b : ℕ) → eqb a b ≡ eqb b a
eqb_comm a b = grind (arith, nat_tests)

-- as the library's `contains` tests it
pub any-elem : (a : ℕ) (l : List ℕ) → list_any (λ b. eqb b a) l ≡ elem a l
unfolding elem
any-elem a [] = refl
any-elem a (b ∷ l) = ap₂ (λ (s t : Bool). s || t) (eqb_comm b a) (any-elem a l)

-- by index
pub elem_at : (l : List ℕ) (j : ℕ) → j < length l → elem (get_or l j 0) l ≡ true
elem_at [] j h = absurd (omega arith)
elem_at (b ∷ l) zero h = elem-head b l
elem_at (b ∷ l) (suc j) h = elem_tail (get_or l j 0) b l (elem_at l j (le_of_suc-le-suc h))

pub at_index : (a : ℕ) (l : List ℕ) → elem a l ≡ true → (j : ℕ) × (j < length l) × (get_or l j 0 ≡ a)
at_index a [] e = absurd (false≢true (sym (elem-nil a) ∙ e))
at_index a (b ∷ l) e = go (eqb a b) refl (at_index a l)
  where
    go : (t : Bool) → eqb a b ≡ t → (elem a l ≡ true → (j : ℕ) × (j < length l) × (get_or l j 0 ≡ a))
        → (j : ℕ) × (j < suc (length l)) × (get_or (b ∷ l) j 0 ≡ a)
    go true q ih = (0, omega arith, sym (eqb-true a b q))
    go false q ih = let r = ih (sym (elem-cons_ne a b l (eqb-false a b q)) ∙ e) in (suc r.0, suc-le-suc r.1, r.2)

-- the first n, by index
pub elem-take : (a : ℕ) (l : List ℕ) (j n : ℕ) → j < n → n ≤ length l → get_or l j 0 ≡ a → elem a (take n l) ≡ true
elem-take a [] j n h g e = absurd (omega arith)
elem-take a (b ∷ l) j zero h g e = absurd (omega arith)
elem-take a (b ∷ l) zero (suc n) h g e = rw (sym e) (elem-head b (take n l))
elem-take a (b ∷ l) (suc j) (suc n) h g e = elem_tail a b (take n l) (elem-take a l j n (le_of_suc-le-suc h) (le_of_suc-le-suc g) e)

pub elem-take-more : (a : ℕ) (l : List ℕ) (j : ℕ) → j < length l → elem a (take j l) ≡ false → get_or l j 0 ≢ a → elem a (take (j + 1) l) ≡ false
elem-take-more a l j h f ne =
    ap (λ (m : ℕ). elem a (take m l)) (add-one j)
    ∙ ap (elem a) (take-suc l j 0 h)
    ∙ elem_last a (get_or l j 0) (take j l)
    ∙ ap₂ (λ (s t : Bool). s || t) f (ne_eqb a (get_or l j 0) (λ e. ne (sym e)))

-- ---- distinctness

pub distinct_last : (a : ℕ) (l : List ℕ) → Distinct l → elem a l ≡ false → Distinct (l ++ a ∷ [])
distinct_last a [] d e = (elem-nil a, tt)
distinct_last a (b ∷ l) d e = (
  elem_last b a l ∙ ap₂ (λ (s t : Bool). s || t) d.0 (ne_eqb b a (λ q. elem_not_head a b l e (sym q))),
  distinct_last a l d.1 (elem_not_tail a b l e),
)

pub distinct-at : (l : List ℕ) → Distinct l → (i j : ℕ) → i < j → j < length l → get_or l i 0 ≢ get_or l j 0
distinct-at [] d i j h g e = absurd (omega arith)
distinct-at (a ∷ l) d i zero h g e = absurd (omega arith)
distinct-at (a ∷ l) d zero (suc j) h g e =
    true≢false (sym (elem_at l j (le_of_suc-le-suc g)) ∙ ap (λ (b : ℕ). elem b l) (sym e) ∙ d.0)
distinct-at (a ∷ l) d (suc i) (suc j) h g e = distinct-at l d.1 i j (le_of_suc-le-suc h) (le_of_suc-le-suc g) e

pub distinct_of : (l : List ℕ) → ((i j : ℕ) → i < j → j < length l → get_or l i 0 ≢ get_or l j 0) → Distinct l
distinct_of [] h = tt
distinct_of (a ∷ l) h = (
  first (elem a l) refl,
  distinct_of l (λ i j p q e. h (suc i) (suc j) (suc-le-suc p) (suc-le-suc q) e),
)
  where
    first : (t : Bool) → elem a l ≡ t → t ≡ false
    first false e = refl
    first true e = let r = at_index a l e in absurd (h 0 (suc r.0) (omega arith) (suc-le-suc r.1) (sym r.2))

-- ---- counting

-- the first a taken out
without : ℕ → List ℕ → List ℕ
without a [] = []
without a (b ∷ l) = cond (eqb a b) l (b ∷ without a l)

without_length : (a : ℕ) (l : List ℕ) → elem a l ≡ true → length l ≡ suc (length (without a l))
unfolding without
without_length a [] e = absurd (false≢true (sym (elem-nil a) ∙ e))
without_length a (b ∷ l) e = go (eqb a b) refl (without_length a l)
  where
    go : (t : Bool) → eqb a b ≡ t → (elem a l ≡ true → length l ≡ suc (length (without a l)))
        → suc (length l) ≡ suc (length (cond t l (b ∷ without a l)))
    go true q ih = refl
    go false q ih = ap suc (ih (sym (elem-cons_ne a b l (eqb-false a b q)) ∙ e))

without_elem : (a c : ℕ) (l : List ℕ) → c ≢ a → elem c l ≡ true → elem c (without a l) ≡ true
unfolding without
without_elem a c [] ne e = e
without_elem a c (b ∷ l) ne e = go (eqb a b) refl (without_elem a c l ne)
  where
    go : (t : Bool) → eqb a b ≡ t → (elem c l ≡ true → elem c (without a l) ≡ true) → elem c (cond t l (b ∷ without a l)) ≡ true
    go true q ih = sym (elem-cons_ne c b l (λ s. ne (s ∙ sym (eqb-true a b q)))) ∙ e
    go false q ih = among (eqb c b) refl
      where
        among : (t : Bool) → eqb c b ≡ t → elem c (b ∷ without a l) ≡ true
        among true s = rw (eqb-true c b s) (elem-head b (without a l))
        among false s = elem_tail c b (without a l) (ih (sym (elem-cons_ne c b l (eqb-false c b s)) ∙ e))

-- distinct numbers that all stand in a list are not more than it has
pub distinct-count : (l m : List ℕ) → Distinct l → ((a : ℕ) → elem a l ≡ true → elem a m ≡ true) → length l ≤ length m
distinct-count [] m d h = zero-le
distinct-count (a ∷ l) m d h =
    let here : elem a m ≡ true = h a (elem-head a l) in
    omega (arith, without_length a m here, distinct-count l (without a m) d.1 (λ b e. without_elem a b m (apart b e) (h b (elem_tail b a l e))))
  where
    apart : (b : ℕ) → elem b l ≡ true → b ≢ a
    apart b e q = true≢false (sym e ∙ ap (λ (v : ℕ). elem v l) q ∙ d.0)

-- ---- zeros behind

pub pad-length : (n : ℕ) (l : List ℕ) → length l ≤ n → length (pad n l) ≡ n
unfolding pad
pad-length n l h = length-append l (replicate (n - length l) 0) ∙ omega (arith, length-replicate {A = ℕ} (n - length l) 0)

pub pad-at : (n : ℕ) (l : List ℕ) (j : ℕ) → j < length l → get_or (pad n l) j 0 ≡ get_or l j 0
unfolding pad
pad-at n l j h = get_or-append l (replicate (n - length l) 0) 0 j h

-- one more takes the place of the first zero
pub pad_last : (n a : ℕ) (l : List ℕ) → length l < n → set (pad n l) (length l) a ≡ pad n (l ++ a ∷ [])
unfolding pad
pad_last n a l h =
    ap (λ (m : ℕ). set (l ++ replicate m 0) (length l) a) more
    ∙ set_at l 0 (replicate (n - suc (length l)) 0) a (length l) refl
    ∙ sym (append_assoc l (a ∷ []) (replicate (n - suc (length l)) 0))
    ∙ ap (λ (m : ℕ). (l ++ a ∷ []) ++ replicate (n - m) 0) (sym (length-append l (a ∷ []) ∙ omega arith))
  where
    more : n - length l ≡ suc (n - suc (length l))
    more = omega arith
