-- The verdict's tests as the code makes them: buckets that are zero one by one, listed IDs that the table holds or not; and the table's test over
-- the two lists as it stands in the definition, over the items. Assumes nothing.
use mathlib.Core.Path.{◌≡◌, refl, sym, subst, ap, ap₂, ◌∙◌}
use mathlib.Core.Bool.{Bool, true, false, not, ◌&&◌, ◌||◌, true≢false, false≢true}
use mathlib.Core.List.{List, [], ◌∷◌, ◌++◌, reverse, reverse-cons}
use Prim.Native.Nat.{ℕ, zero, suc, ◌+◌, ◌-◌}
use native.Mathlib.Numerals.{add-one}
use native.Mathlib.Omega.{arith}
use lib.Dec.{eqb}
use lib.IntN.{ℤ, pos, negsuc}
use lib.ListN.{get_or, length, take}
use Rattle.std.proofs.lemmas.Bool.Decides.{nat_tests}
use Rattle.std.specs.declared.iter.Rev.{Rev}
use Rattle.std.specs.declared.ops.Range.{Range}
use Rattle.std.specs.Prelude.{Option}
use Rattle.std.specs.Iterator.Adapters.{rev_source, rev_steps}
use Rattle.std.specs.List.{fold, list_all, list_any}
use Rattle.std.specs.Ordering.{int_eq}
use Rattle.std.specs.Range.{range_steps_back}
use Rattle.std.proofs.lemmas.Iterator.{YieldsList}
use Rattle.std.proofs.lemmas.Iterator.Splits.{YieldsList-from_shown_while}
use Rattle.std.proofs.lemmas.List.Folds.{list_all_more}
use Rattle.bucket.specs.Bucket.{Bucket, is_zero, is_zero_ℤ}
use Rattle.bucket.specs.Columns.{columns, view}
use Rattle.bucket.specs.Lists.{elem}
use Rattle.filter.specs.Filter.{Item, ours, theirs, ours_of, theirs_of}
use Rattle.filter.specs.Peeling.{all_zero, agrees}
use Rattle.filter.specs.Steps.{Wide, agree, every}
use Rattle.filter.proofs.FilledLaws.{wide-less}

-- a test of all that goes on where one fails
pub fold-all : {A : Type 0} (p : A → Bool) (l : List A) (good : Bool) → fold (λ g x. g && p x) good l ≡ good && list_all p l
fold-all p [] true = refl
fold-all p [] false = refl
fold-all p (x ∷ l) true = fold-all p l (p x)
fold-all p (x ∷ l) false = fold-all p l false

-- three columns that are zero in the first n places are n zero buckets
sorted : (a b c p q r : Bool) → ((a && p) && (b && q)) && (c && r) ≡ (p && (q && r)) && ((a && b) && c)
sorted a b c p q r = grind arith

zero-count : (z : ℤ) → int_eq z (pos 0) ≡ is_zero_ℤ z
zero-count (pos zero) = refl
zero-count (pos (suc n)) = grind (arith, nat_tests)
zero-count (negsuc n) = refl

pub zero-columns : (n : ℕ) (is hs : List ℕ) (cs : List ℤ) → Wide n (columns is hs cs)
    → (list_all (λ x. eqb x 0) (take n is) && list_all (λ x. eqb x 0) (take n hs)) && list_all (λ z. int_eq z (pos 0)) (take n cs)
    ≡ all_zero (view (columns is hs cs)) n
unfolding all_zero is_zero view
zero-columns zero is hs cs w = refl
zero-columns (suc n) is hs cs w =
    rw (← add-one n)
    (ap₂ ◌&&◌ (ap₂ ◌&&◌ (list_all_more (λ x. eqb x 0) is n 0 w.idsums) (list_all_more (λ x. eqb x 0) hs n 0 w.hashsums))
    (list_all_more (λ z. int_eq z (pos 0)) cs n (pos 0) w.counts)
    ∙ sorted (list_all (λ x. eqb x 0) (take n is)) (list_all (λ x. eqb x 0) (take n hs)) (list_all (λ z. int_eq z (pos 0)) (take n cs))
    (eqb (get_or is n 0) 0) (eqb (get_or hs n 0) 0) (int_eq (get_or cs n (pos 0)) (pos 0))
    ∙ ap₂ (λ (u v : Bool). (eqb (get_or is n 0) 0 && (eqb (get_or hs n 0) 0 && u)) && v) (zero-count (get_or cs n (pos 0)))
    (zero-columns n is hs cs (wide-less n (suc n) (columns is hs cs) (omega arith) w)))

-- `(0..n).rev()` gives the numbers below n, the last one first, which is the order in which the definition asks the buckets
abbrev pub down : ℕ → List ℕ
down zero = []
down (suc n) = n ∷ down n

abbrev pub steps_back : Rev (Range ℕ) → Option ℕ → Rev (Range ℕ) → Type 0
steps_back = rev_steps (range_steps_back (λ a b. b - a) (λ a b. b ≡ a + 1))

pub yields_down : {s : Rev (Range ℕ)} (n : ℕ) → rev_source s ≡ record { start = 0; end = n } → YieldsList steps_back (λ i. i) s (down n)
yields_down {s} n e =
    subst (λ k. YieldsList steps_back (λ i. i) s (down k)) (ap (λ (r : Range ℕ). r.end) e)
    (YieldsList-from_shown_while steps_back (λ i. i) (λ u. down (rev_source u).end) (λ u. (rev_source u).start ≡ 0)
    (λ u t p q. let e : (rev_source u).end ≡ 0 = omega (arith, p, q.1.0) in ap (λ k. length (down k)) e)
    (λ u x t p q.
    let e : (rev_source u).end ≡ suc (rev_source t).end = omega (arith, q.1.2) in
    (q.0 ∙ p, ap down e ∙ ap (λ k. k ∷ down (rev_source t).end) (sym q.1.1)))
    s (ap (λ (r : Range ℕ). r.start) e))

pub zero-down : (f : ℕ → Bucket) (n : ℕ) → list_all (λ i. is_zero (f i)) (down n) ≡ all_zero f n
unfolding all_zero
zero-down f zero = refl
zero-down f (suc n) = ap (λ (t : Bool). is_zero (f n) && t) (zero-down f n)

-- each ID of a list is there, or none is
pub every-held : (t l : List ℕ) → list_all (λ a. elem a t) l ≡ every true t l
unfolding every
every-held t [] = refl
every-held t (a ∷ l) = ap (λ (u : Bool). elem a t && u) (every-held t l)

pub every_missing : (t l : List ℕ) → not (list_any (λ a. elem a t) l) ≡ every false t l
unfolding every
every_missing t [] = refl
every_missing t (a ∷ l) =
    neither (elem a t) (list_any (λ x. elem x t) l) ∙ ap (λ (u : Bool). not (elem a t) && u) (every_missing t l)
  where
    neither : (u v : Bool) → not (u || v) ≡ not u && not v
    neither true v = refl
    neither false v = refl

-- the order of a list does not matter to it
every_append : (want : Bool) (t a b : List ℕ) → every want t (a ++ b) ≡ every want t a && every want t b
unfolding every
every_append want t [] b = refl
every_append want t (x ∷ a) b = ap (λ (r : Bool). agree want (elem x t) && r) (every_append want t a b) ∙ and_assoc (agree want (elem x t)) (every want t a) (every want t b)
  where
    and_assoc : (x y z : Bool) → x && (y && z) ≡ (x && y) && z
    and_assoc true y z = refl
    and_assoc false y z = refl

and_comm : (a b : Bool) → a && b ≡ b && a
and_comm true true = refl
and_comm true false = refl
and_comm false true = refl
and_comm false false = refl

and_true : (a : Bool) → a && true ≡ a
and_true true = refl
and_true false = refl

pub every-reverse : (want : Bool) (t l : List ℕ) → every want t (reverse l) ≡ every want t l
unfolding every
every-reverse want t [] = refl
every-reverse want t (x ∷ l) =
    ap (every want t) (reverse-cons x l) ∙ every_append want t (reverse l) (x ∷ [])
    ∙ ap₂ ◌&&◌ (every-reverse want t l) (and_true (agree want (elem x t)))
    ∙ and_comm (every want t l) (agree want (elem x t))

-- "an ID listed as ours is not in our table or one listed as theirs is", by the two lists
pub agrees_sides : (t : List ℕ) (l : List Item) → every true t (ours_of l) && every false t (theirs_of l) ≡ agrees t l
unfolding every agrees ours_of theirs_of
agrees_sides t [] = refl
agrees_sides t (ours a ∷ l) = and_left (elem a t) (every true t (ours_of l)) (every false t (theirs_of l)) ∙ ap (λ (r : Bool). elem a t && r) (agrees_sides t l)
  where
    and_left : (x y z : Bool) → (x && y) && z ≡ x && (y && z)
    and_left true y z = refl
    and_left false y z = refl
agrees_sides t (theirs a ∷ l) = and_right (not (elem a t)) (every true t (ours_of l)) (every false t (theirs_of l)) ∙ ap (λ (r : Bool). not (elem a t) && r) (agrees_sides t l)
  where
    and_right : (x y z : Bool) → y && (x && z) ≡ x && (y && z)
    and_right true y z = refl
    and_right false true z = refl
    and_right false false z = refl

-- whether the peeling was in order, from the code's `!fine`
pub not_fine : (fine : Bool) → not fine ≡ true → fine ≡ false
not_fine false e = refl
not_fine true e = absurd (false≢true e)

pub is_fine_lem : (fine : Bool) → not fine ≡ false → fine ≡ true
is_fine_lem true e = refl
is_fine_lem false e = absurd (true≢false e)
