-- The code's tests of marks, one by one, are what the form says of the ledger that they hold. Assumes nothing.
use mathlib.Core.Path.{◌≡◌, refl, sym, ap, ◌∙◌}
use mathlib.Core.Logic.{◌⊎◌, inl, inr}
use mathlib.Core.Bool.{Bool, true, false, not, ◌&&◌, ◌||◌, cond}
use mathlib.Core.List.{List, [], ◌∷◌, ◌++◌, map}
use Prim.Native.Nat.{ℕ, zero, suc, ◌+◌}
use native.Mathlib.Omega.{arith}
use lib.Dec.{eqb, ltb}
use lib.ListN.{length, replicate}
use borrow.Author.Tests.{eqb-true, eq-eqb, lt-ltb}
use Rattle.std.proofs.lemmas.List.Sums.{sum_by-cons}
use Rattle.bucket.specs.Lists.{elem}
use Rattle.bucket.proofs.ListLaws.{elem-head, elem_tail, or_true_r}
use Rattle.bucket.proofs.TestLaws.{and_holds}
use Rattle.filter.specs.Sets.{all}
use Rattle.ledger.specs.Session.{Ledger, held, held_ids}
use Rattle.ledger.specs.Memory.{is_asked, is_offered, is_served, is_met, marked, mark_of, flag_of, marks_of, flags_of}
use Rattle.form.specs.Tallies.{table_mark, record_mark, met_count, is_zero}
use Rattle.filter.proofs.SetLaws.{◌∈◌, ◌⊆◌, clash, not_in, in_cons, and_l, and_r, or_cases}
use Rattle.ledger.proofs.BookLaws.{Books}
use Rattle.ledger.proofs.HeldLaws.{in_unmet, in_ids}
use Rattle.ledger.proofs.KeptLaws.{unmet_lacking}
use Rattle.ledger.proofs.BitLaws.{mark-below, flag_below}
use Rattle.ledger.proofs.MemoryLaws.{mark_of_offered, mark_of_served, flag_of_offered, flag_of_served, flag_of_met}
use Rattle.ledger.proofs.ActLaws.{no_flag}

-- ---- what a tested mark says

-- a test of two bits: the first says the second
bits_say : (s o : Bool) → not (s && not o) ≡ true → s ≡ true → o ≡ true
bits_say true true e h = refl
bits_say true false e h = e
bits_say false o e h = absurd (clash h refl)

say_bits : (s o : Bool) → (s ≡ true → o ≡ true) → not (s && not o) ≡ true
say_bits true true h = refl
say_bits true false h = absurd (clash (h refl) refl)
say_bits false o h = refl

module _ (m : ℕ) where
  pub table_below : table_mark m ≡ true → ltb m 8 ≡ true
  unfolding table_mark
  table_below e = and_l (ltb m 8) _ e

  pub table-served : table_mark m ≡ true → is_served m ≡ true → is_offered m ≡ true
  unfolding table_mark
  table-served e = bits_say (is_served m) (is_offered m) (and_r (ltb m 8) _ e)

  pub record_below : record_mark m ≡ true → ltb m 16 ≡ true
  unfolding record_mark
  record_below e = and_l (ltb m 16) _ e

  pub record_served : record_mark m ≡ true → is_served m ≡ true → is_offered m ≡ true
  unfolding record_mark
  record_served e = bits_say (is_served m) (is_offered m) (and_l (not (is_served m && not (is_offered m))) _ (and_r (ltb m 16) _ e))

  -- only a met one has marks
  pub record_met : (p : ℕ → Bool) → p 0 ≡ false → record_mark m ≡ true → p m ≡ true → is_met m ≡ true
  unfolding record_mark
  record_met p z e h = go (or_cases (is_met m) (eqb m 0) (and_r (not (is_served m && not (is_offered m))) _ (and_r (ltb m 16) _ e)))
    where
      go : (is_met m ≡ true) ⊎ (eqb m 0 ≡ true) → is_met m ≡ true
      go (inl k) = k
      go (inr k) = absurd (clash h (ap p (eqb-true m 0 k) ∙ z))

-- no mark
pub zero_asked : is_asked 0 ≡ false
unfolding is_asked
zero_asked = refl

pub zero_offered : is_offered 0 ≡ false
unfolding is_offered
zero_offered = refl

pub zero_served : is_served 0 ≡ false
unfolding is_served
zero_served = refl

pub zero_marked : table_mark 0 ≡ true
unfolding table_mark is_served
zero_marked = refl

-- ---- marks in a list

-- what a test says of every mark
pub all_tested : (p q : ℕ → Bool) → ((m : ℕ) → p m ≡ true → q m ≡ true) → (ms : List ℕ) → all p ms ≡ true → all q ms ≡ true
unfolding all
all_tested p q h [] e = refl
all_tested p q h (m ∷ ms) e = and_holds (h m (and_l (p m) _ e)) (all_tested p q h ms (and_r (p m) _ e))

pub all_mapped : (p : ℕ → Bool) (f : ℕ → ℕ) (l : List ℕ) → ((x : ℕ) → x ∈ l → p (f x) ≡ true) → all p (map f l) ≡ true
unfolding all
all_mapped p f [] h = refl
all_mapped p f (a ∷ l) h = and_holds (h a (elem-head a l)) (all_mapped p f l (λ x e. h x (elem_tail x a l e)))

-- hashes whose mark passes one test pass another, where every mark says so
pub marked_more : (r p q : ℕ → Bool) → ((m : ℕ) → r m ≡ true → p m ≡ true → q m ≡ true) → (l ms : List ℕ) → all r ms ≡ true → marked p l ms ⊆ marked q l ms
unfolding all marked
marked_more r p q h [] ms e x k = k
marked_more r p q h (a ∷ l) [] e x k = k
marked_more r p q h (a ∷ l) (m ∷ ms) e x k =
    go (p m) (q m) (h m (and_l (r m) _ e)) k (marked_more r p q h l ms (and_r (r m) _ e) x)
  where
    go : (b c : Bool) → (b ≡ true → c ≡ true) → x ∈ cond b (a ∷ marked p l ms) (marked p l ms) → (x ∈ marked p l ms → x ∈ marked q l ms)
        → x ∈ cond c (a ∷ marked q l ms) (marked q l ms)
    go true true f i ih = at (in_cons x a (marked p l ms) i)
      where
        at : (x ≡ a) ⊎ (x ∈ marked p l ms) → x ∈ a ∷ marked q l ms
        at (inl u) = rw u (elem-head a (marked q l ms))
        at (inr u) = elem_tail x a (marked q l ms) (ih u)
    go true false f i ih = absurd (clash (f refl) refl)
    go false true f i ih = elem_tail x a (marked q l ms) (ih i)
    go false false f i ih = ih i

all-zeros : (p : ℕ → Bool) → p 0 ≡ true → (j : ℕ) → all p (replicate j 0) ≡ true
unfolding all
all-zeros p z zero = refl
all-zeros p z (suc j) = and_holds z (all-zeros p z j)

-- marks that are all zero
pub marked-none : (p : ℕ → Bool) → p 0 ≡ false → (l ms : List ℕ) → all (λ m. eqb m 0) ms ≡ true → marked p l ms ≡ []
unfolding all marked
marked-none p z [] ms e = refl
marked-none p z (a ∷ l) [] e = refl
marked-none p z (a ∷ l) (m ∷ ms) e =
    ap (λ (b : Bool). cond b (a ∷ marked p l ms) (marked p l ms)) (ap p (eqb-true m 0 (and_l (eqb m 0) _ e)) ∙ z)
    ∙ marked-none p z l ms (and_r (eqb m 0) _ e)

-- marks that are not there are as zero ones
pub marked-padded : (p : ℕ → Bool) → p 0 ≡ false → (l ms : List ℕ) (j : ℕ) → marked p l (ms ++ replicate j 0) ≡ marked p l ms
unfolding marked
marked-padded p z [] ms j = refl
marked-padded p z (a ∷ l) [] j = marked-none p z (a ∷ l) (replicate j 0) (all-zeros is_zero refl j)
marked-padded p z (a ∷ l) (m ∷ ms) j = ap (λ (r : List ℕ). cond (p m) (a ∷ r) r) (marked-padded p z l ms j)

pub all-padded : (p : ℕ → Bool) → p 0 ≡ true → (ms : List ℕ) (j : ℕ) → all p (ms ++ replicate j 0) ≡ all p ms
unfolding all
all-padded p z [] j = all-zeros p z j
all-padded p z (m ∷ ms) j = ap (λ (b : Bool). p m && b) (all-padded p z ms j)

-- how many are met
pub marked-count : (l ms : List ℕ) → length ms ≡ length l → length (marked is_met l ms) ≡ met_count ms
unfolding marked
marked-count [] [] e = refl
marked-count [] (m ∷ ms) e = absurd (omega arith)
marked-count (a ∷ l) [] e = absurd (omega arith)
marked-count (a ∷ l) (m ∷ ms) e = go (is_met m) (marked-count l ms (omega arith)) ∙ sym (sum_by-cons (λ x. cond (is_met x) 1 0) m ms)
  where
    go : (b : Bool) → length (marked is_met l ms) ≡ met_count ms → length (cond b (a ∷ marked is_met l ms) (marked is_met l ms)) ≡ cond b 1 0 + met_count ms
    go true ih = omega arith
    go false ih = omega arith

-- ---- the marks of a ledger in form pass

module _ (derive : ℕ → ℕ) (t : List ℕ) (L : Ledger) (b : Books derive t L) where
  mark-low : (h : ℕ) → ltb (mark_of derive t L h) 8 ≡ true
  unfolding mark_of
  mark-low h = lt-ltb (mark_of derive t L h) 8 (mark-below (elem (derive h) L.asked) (elem h L.offered) (elem h L.served))

  flag_low : (h : ℕ) → ltb (flag_of derive t L h) 16 ≡ true
  unfolding flag_of mark_of
  flag_low h = lt-ltb (flag_of derive t L h) 16 (flag_below (elem (derive h) L.asked) (elem h L.offered) (elem h L.served) (elem h L.gained))

  mark_passes : (h : ℕ) → table_mark (mark_of derive t L h) ≡ true
  unfolding table_mark
  mark_passes h = and_holds (mark-low h) order
    where
      order : not (is_served (mark_of derive t L h) && not (is_offered (mark_of derive t L h))) ≡ true
      order =
          say_bits (is_served (mark_of derive t L h)) (is_offered (mark_of derive t L h))
          (λ e. mark_of_offered derive t L h ∙ b.served_offered h (sym (mark_of_served derive t L h) ∙ e))

  flag_passes : (h : ℕ) → h ∈ L.demanded → record_mark (flag_of derive t L h) ≡ true
  unfolding record_mark
  flag_passes h d = and_holds (flag_low h) (and_holds order (met (elem h L.gained) refl))
    where
      order : not (is_served (flag_of derive t L h) && not (is_offered (flag_of derive t L h))) ≡ true
      order =
          say_bits (is_served (flag_of derive t L h)) (is_offered (flag_of derive t L h))
          (λ e. flag_of_offered derive t L h ∙ b.served_offered h (sym (flag_of_served derive t L h) ∙ e))

      met : (c : Bool) → elem h L.gained ≡ c → is_met (flag_of derive t L h) || eqb (flag_of derive t L h) 0 ≡ true
      met true e = ap (λ (c : Bool). c || eqb (flag_of derive t L h) 0) (flag_of_met derive t L h ∙ e)
      met false e =
          ap (λ (c : Bool). is_met (flag_of derive t L h) || c) (eq-eqb (flag_of derive t L h) 0 (no_flag derive t L b h quiet off)) ∙ or_true_r (is_met (flag_of derive t L h))
        where
          away : derive h ∈ held_ids derive t L → ⊥
          away = unmet_lacking derive t L b h (in_unmet L h d e)

          quiet : elem (derive h) L.asked ≡ false
          quiet = not_in (derive h) L.asked (λ k. away (b.asked_held (derive h) k))

          off : h ∈ held derive t L → ⊥
          off k = away (in_ids derive h (held derive t L) k)

  pub marks_pass : all table_mark (marks_of derive t L) ≡ true
  marks_pass = all_mapped table_mark (mark_of derive t L) t (λ h e. mark_passes h)

  pub flags_pass : all record_mark (flags_of derive t L) ≡ true
  flags_pass = all_mapped record_mark (flag_of derive t L) L.demanded flag_passes
