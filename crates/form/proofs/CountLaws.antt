-- How many different numbers lists have, and how many of one stand in another. Assumes nothing.
use mathlib.Core.Path.{◌≡◌, refl, sym, ap, subst, ◌∙◌}
use mathlib.Core.Logic.{◌⊎◌, inl, inr}
use mathlib.Core.Bool.{Bool, true, false, not, ◌||◌, cond, or_comm}
use mathlib.Core.List.{List, [], ◌∷◌, ◌++◌}
use Prim.Native.Nat.{ℕ, suc, ◌+◌, ◌-◌}
use native.Mathlib.Omega.{arith}
use lib.Dec.{eqb}
use lib.ListN.{length, length-append}
use borrow.Author.Tests.{eqb-true, eq-eqb, not-true, not-false}
use Rattle.bucket.specs.Lists.{elem, Distinct}
use Rattle.bucket.proofs.ListLaws.{elem-nil, elem-head, elem_tail, elem-append}
use Rattle.bucket.proofs.TestLaws.{and_holds}
use Rattle.filter.specs.Lists.{select}
use Rattle.filter.proofs.OrderLaws.{same_test}
use Rattle.filter.proofs.SelectLaws.{select_no, select-agree, distinct-select}
use Rattle.filter.specs.Sets.{◌∪◌, all, count}
use Rattle.ledger.specs.Session.{Ledger, ids_of, held, held_ids, concerned, unmet}
use Rattle.form.specs.Tallies.{common}
use Rattle.filter.proofs.SetLaws.{◌∈◌, ◌⊆◌, clash, not_in, in_append-l, in_append-r, append_in, in_∪-l, ∪-nil, ∪-asc, asc-distinct, elem-select, select_in}
use Rattle.filter.proofs.ListLaws.{Apart, all_of, all_in, distinct_append, count_same, count-distinct}
use Rattle.ledger.proofs.HeldLaws.{in_ids, ids_in_lem, ids-part, in_unmet, unmet_in, held_in, gained-held, table-held, Concerned, in_concerned, concerned_in}

-- ---- how many numbers pass a test

module _ (p : ℕ → Bool) where
  -- none, and all
  pub none_pass : (l : List ℕ) → ((x : ℕ) → x ∈ l → p x ≡ false) → length (select p l) ≡ 0
  unfolding select
  none_pass [] h = refl
  none_pass (a ∷ l) h =
      ap length (select_no p a l (h a (elem-head a l))) ∙ none_pass l (λ x e. h x (elem_tail x a l e))

  pub pass_none : (l : List ℕ) → length (select p l) ≡ 0 → (x : ℕ) → x ∈ l → p x ≡ false
  pass_none l e x k = go (p x) refl
    where
      go : (b : Bool) → p x ≡ b → b ≡ false
      go true q = absurd (empty (select p l) e (elem-select p x l ∙ and_holds q k))
        where
          empty : (m : List ℕ) → length m ≡ 0 → x ∈ m → ⊥
          empty [] z i = clash i (elem-nil x)
          empty (b ∷ m) z i = omega arith
      go false q = refl

  -- those that pass and those that do not
  pub pass_or_not : (l : List ℕ) → length (select p l) + length (select (λ x. not (p x)) l) ≡ length l
  unfolding select
  pass_or_not [] = refl
  pass_or_not (a ∷ l) = go (p a) (pass_or_not l)
    where
      go : (b : Bool) → length (select p l) + length (select (λ x. not (p x)) l) ≡ length l
          → length (cond b (a ∷ select p l) (select p l)) + length (cond (not b) (a ∷ select (λ x. not (p x)) l) (select (λ x. not (p x)) l)) ≡ suc (length l)
      go true e = omega arith
      go false e = omega arith

-- two tests that exclude each other
pass_either : (p q : ℕ → Bool) (l : List ℕ) → ((x : ℕ) → p x ≡ true → q x ≡ true → ⊥)
    → length (select (λ x. p x || q x) l) ≡ length (select p l) + length (select q l)
unfolding select
pass_either p q [] h = refl
pass_either p q (a ∷ l) h = go (p a) refl (q a) refl (pass_either p q l h)
  where
    go : (b : Bool) → p a ≡ b → (c : Bool) → q a ≡ c → length (select (λ x. p x || q x) l) ≡ length (select p l) + length (select q l)
        → length (cond (b || c) (a ∷ select (λ x. p x || q x) l) (select (λ x. p x || q x) l)) ≡ length (cond b (a ∷ select p l) (select p l)) + length (cond c (a ∷ select q l) (select q l))
    go true e true f ih = absurd (h a e f)
    go true e false f ih = omega arith
    go false e true f ih = omega arith
    go false e false f ih = ih

-- ---- how many of one list stand in another

pub apart-common : (l m : List ℕ) → Apart l m → common l m ≡ 0
unfolding common
apart-common l m h = none_pass (λ x. elem x m) l (λ x e. not_in x m (h x e))

pub common-apart : (l m : List ℕ) → common l m ≡ 0 → Apart l m
unfolding common
common-apart l m e x k i = clash i (pass_none (λ y. elem y m) l e x k)

-- as tests
pub apart_test : (l m : List ℕ) → Apart l m → eqb (common l m) 0 ≡ true
apart_test l m h = eq-eqb (common l m) 0 (apart-common l m h)

pub common-rest : (l m : List ℕ) → common l m + length (select (λ x. not (elem x m)) l) ≡ length l
unfolding common
common-rest l m = pass_or_not (λ x. elem x m) l

-- every number of l stands in m
pub common-all : (l m : List ℕ) → all (λ x. elem x m) l ≡ eqb (common l m) (length l)
common-all l m =
    same_test (all (λ x. elem x m) l) (eqb (common l m) (length l))
    (λ e. eq-eqb (common l m) (length l) (omega (arith, common-rest l m, none_pass (λ x. not (elem x m)) l (λ x k. ap not (all_in (λ y. elem y m) l e x k)))))
    (λ e. all_of (λ x. elem x m) l (λ x k. not-false (elem x m) (pass_none (λ y. not (elem y m)) l (omega (arith, common-rest l m, eqb-true (common l m) (length l) e)) x k)))

-- in two lists that share nothing
pub common-append : (l m n : List ℕ) → Apart m n → common l (m ++ n) ≡ common l m + common l n
unfolding common
common-append l m n h =
    ap length (select-agree (λ x. elem x (m ++ n)) (λ x. elem x m || elem x n) l (λ x k. elem-append x m n))
    ∙ pass_either (λ x. elem x m) (λ x. elem x n) l (λ x e f. h x e f)

-- ---- how many different numbers

-- more numbers, of which some may stand there already
pub count-append : (l m : List ℕ) → Distinct m → count (l ++ m) ≡ count l + length (select (λ x. not (elem x l)) m)
count-append l m d =
    count_same (l ++ m) ((l ∪ []) ++ new) (λ x e. to x (append_in x l m e)) (λ x e. from x (append_in x (l ∪ []) new e))
    ∙ count-distinct ((l ∪ []) ++ new) (distinct_append (l ∪ []) new (asc-distinct (l ∪ []) (∪-asc l [] tt)) (distinct-select (λ x. not (elem x l)) m d) apart)
    ∙ length-append (l ∪ []) new
  where
    new : List ℕ
    new = select (λ x. not (elem x l)) m

    to : (x : ℕ) → (x ∈ l) ⊎ (x ∈ m) → x ∈ (l ∪ []) ++ new
    to x (inl e) = in_append-l x (l ∪ []) new (in_∪-l x l [] e)
    to x (inr e) = go (elem x l) refl
      where
        go : (b : Bool) → elem x l ≡ b → x ∈ (l ∪ []) ++ new
        go true q = in_append-l x (l ∪ []) new (in_∪-l x l [] q)
        go false q = in_append-r x (l ∪ []) new (elem-select (λ y. not (elem y l)) x m ∙ and_holds (ap not q) e)

    from : (x : ℕ) → (x ∈ l ∪ []) ⊎ (x ∈ new) → x ∈ l ++ m
    from x (inl e) = in_append-l x l m (∪-nil x l e)
    from x (inr e) = in_append-r x l m (select_in (λ y. not (elem y l)) m x e).1

    apart : Apart new (l ∪ [])
    apart x e k = clash (∪-nil x l k) (not-true (elem x l) (select_in (λ y. not (elem y l)) m x e).0)

pub count-apart : (l m : List ℕ) → Distinct l → Distinct m → Apart m l → count (l ++ m) ≡ length l + length m
count-apart l m d k h = count-distinct (l ++ m) (distinct_append l m d k h) ∙ length-append l m

-- the numbers of ts, ks and I, of which ts and ks share nothing
module _ (ts ks I : List ℕ) (dt : Distinct ts) (dk : Distinct ks) (di : Distinct I) (none : common ks ts ≡ 0) where
  count_three_sum : count (ts ++ (I ++ ks)) + (common I ts + common I ks) ≡ length ts + length ks + length I
  count_three_sum =
      let apart : Apart ks ts = common-apart ks ts none in
      omega (
        arith,
        count_same (ts ++ (I ++ ks)) ((ts ++ ks) ++ I) (λ x e. same x ∙ e) (λ x e. sym (same x) ∙ e),
        count-append (ts ++ ks) I di,
        count-apart ts ks dt dk apart,
        common-rest I (ts ++ ks),
        common-append I ts ks (λ x e k. apart x k e),
      )
    where
      same : (x : ℕ) → elem x ((ts ++ ks) ++ I) ≡ elem x (ts ++ (I ++ ks))
      same x =
          elem-append x (ts ++ ks) I
          ∙ ap (λ (b : Bool). b || elem x I) (elem-append x ts ks)
          ∙ turn (elem x ts) (elem x ks) (elem x I)
          ∙ ap (λ (b : Bool). elem x ts || b) (sym (elem-append x I ks))
          ∙ sym (elem-append x ts (I ++ ks))
        where
          turn : (a b c : Bool) → (a || b) || c ≡ a || (c || b)
          turn true b c = refl
          turn false b c = or_comm b c

  pub count_three : count (ts ++ (I ++ ks)) ≡ length ts + length ks + length I - common I ts - common I ks
  count_three = omega (arith, count_three_sum)

-- ---- the IDs held or wanted

module _ (derive : ℕ → ℕ) (t : List ℕ) (L : Ledger) (came : L.gained ⊆ L.demanded) where
  -- are those of the table, inquired and demanded
  all-concerned : List ℕ
  all-concerned = ids_of derive t ++ (L.inquired ++ ids_of derive L.demanded)

  to_table : (x : ℕ) → x ∈ ids_of derive t → x ∈ all-concerned
  unfolding all-concerned
  to_table x e = in_append-l x (ids_of derive t) (L.inquired ++ ids_of derive L.demanded) e

  to_inquired : (x : ℕ) → x ∈ L.inquired → x ∈ all-concerned
  unfolding all-concerned
  to_inquired x e = in_append-r x (ids_of derive t) (L.inquired ++ ids_of derive L.demanded) (in_append-l x L.inquired (ids_of derive L.demanded) e)

  to_demanded : (x : ℕ) → x ∈ ids_of derive L.demanded → x ∈ all-concerned
  unfolding all-concerned
  to_demanded x e = in_append-r x (ids_of derive t) (L.inquired ++ ids_of derive L.demanded) (in_append-r x L.inquired (ids_of derive L.demanded) e)

  concerned-all : (x : ℕ) → Concerned derive t L x → x ∈ all-concerned
  concerned-all x (inl e) = go (ids_in_lem derive x (held derive t L) e)
    where
      go : (h : ℕ) × (h ∈ held derive t L) × (derive h ≡ x) → x ∈ all-concerned
      go (h, k, q) = at (held_in derive t L h k)
        where
          at : (h ∈ L.gained) ⊎ (h ∈ t) → x ∈ all-concerned
          at (inl i) = to_demanded x (subst (λ (y : ℕ). y ∈ ids_of derive L.demanded) q (in_ids derive h L.demanded (came h i)))
          at (inr i) = to_table x (subst (λ (y : ℕ). y ∈ ids_of derive t) q (in_ids derive h t i))
  concerned-all x (inr (inl e)) = to_inquired x e
  concerned-all x (inr (inr e)) = to_demanded x (ids-part derive (unmet L) L.demanded (λ h k. (unmet_in L h k).0) x e)

  all_in_concerned : (x : ℕ) → x ∈ all-concerned → Concerned derive t L x
  unfolding all-concerned
  all_in_concerned x e = go (append_in x (ids_of derive t) (L.inquired ++ ids_of derive L.demanded) e)
    where
      met : (h : ℕ) × (h ∈ L.demanded) × (derive h ≡ x) → Concerned derive t L x
      met (h, k, q) = at (elem h L.gained) refl
        where
          at : (b : Bool) → elem h L.gained ≡ b → Concerned derive t L x
          at true i = inl (subst (λ (y : ℕ). y ∈ held_ids derive t L) q (in_ids derive h (held derive t L) (gained-held derive t L h i)))
          at false i = inr (inr (subst (λ (y : ℕ). y ∈ ids_of derive (unmet L)) q (in_ids derive h (unmet L) (in_unmet L h k i))))

      go : (x ∈ ids_of derive t) ⊎ (x ∈ L.inquired ++ ids_of derive L.demanded) → Concerned derive t L x
      go (inl k) = inl (ids-part derive t (held derive t L) (table-held derive t L) x k)
      go (inr k) = at (append_in x L.inquired (ids_of derive L.demanded) k)
        where
          at : (x ∈ L.inquired) ⊎ (x ∈ ids_of derive L.demanded) → Concerned derive t L x
          at (inl i) = inr (inl i)
          at (inr i) = met (ids_in_lem derive x L.demanded i)

  pub elem-concerned : (x : ℕ) → elem x (concerned derive t L) ≡ elem x (ids_of derive t ++ (L.inquired ++ ids_of derive L.demanded))
  unfolding all-concerned
  elem-concerned x =
      same_test (elem x (concerned derive t L)) (elem x all-concerned)
      (λ e. concerned-all x (concerned_in derive t L x e)) (λ e. in_concerned derive t L x (all_in_concerned x e))

  pub count-concerned : count (concerned derive t L) ≡ count (ids_of derive t ++ (L.inquired ++ ids_of derive L.demanded))
  unfolding all-concerned
  count-concerned = count_same (concerned derive t L) all-concerned (λ x e. sym (elem-concerned x) ∙ e) (λ x e. elem-concerned x ∙ e)
