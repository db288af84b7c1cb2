-- One memory for one ledger: the ledger of a ledger's memory is that ledger, and the memory of a ledger in form that was read from a memory is that
-- memory. Assumes nothing.
use mathlib.Core.Path.{◌≡◌, refl, sym, ap, ap₂, ◌∙◌}
use mathlib.Core.Bool.{Bool, true, false, ◌||◌, cond, or_comm, and-eq-true_iff}
use mathlib.Core.List.{List, [], ◌∷◌, ◌++◌, map}
use mathlib.Core.Logic.{◌⊎◌, inl, inr}
use Prim.Native.Nat.{ℕ, ◌<◌}
use native.Mathlib.Omega.{arith}
use lib.Dec.{ltb}
use lib.ListN.{length}
use borrow.Author.Tests.{ltb-true, lt-ltb}
use Rattle.bucket.specs.Lists.{elem, Distinct}
use Rattle.bucket.proofs.ListLaws.{elem-head, elem_tail, elem-cons_ne, elem-append, or_false_r}
use Rattle.bucket.proofs.TestLaws.{and_holds}
use Rattle.filter.specs.Lists.{select}
use Rattle.filter.proofs.OrderLaws.{same_test}
use Rattle.filter.specs.Sets.{◌∪◌, all}
use Rattle.ledger.specs.Session.{Ledger, ids_of, held}
use Rattle.ledger.specs.Memory.{Memory, is_asked, is_offered, is_served, is_met, marked, all_below, decode, encode, mark_of, flag_of, marks_of, flags_of}
use Rattle.filter.proofs.SetLaws.{◌∈◌, ◌⊆◌, clash, not_in_nil, not_in, in_cons, in_append-l, in_append-r, append_in, elem-∪, in_∪-l, in_∪-r, ∪-in, ∪-nil, elem-select, select_in, Asc, asc-distinct, ∪-asc, select-asc, asc_ext}
use Rattle.filter.proofs.ListLaws.{in_map, map_in}
use Rattle.ledger.proofs.BookLaws.{Books}
use Rattle.ledger.proofs.BitLaws.{mark-same, flag_same, mark-bits, flag_bits, mark-asked, mark-offered, mark-served, flag_asked, flag_offered, flag_served, flag_met, mark-below, flag_below}

-- ---- a ledger's memory

-- marks that a rule gives: those that pass are a part of the list
marked-map : (p : ℕ → Bool) (f : ℕ → ℕ) (q : ℕ → Bool) → ((h : ℕ) → p (f h) ≡ q h) → (l : List ℕ) → marked p l (map f l) ≡ select q l
unfolding marked select
marked-map p f q e [] = refl
marked-map p f q e (h ∷ l) = ap₂ (λ (b : Bool) (r : List ℕ). cond b (h ∷ r) r) (e h) (marked-map p f q e l)

in_select : (p : ℕ → Bool) (l : List ℕ) (x : ℕ) → x ∈ l → p x ≡ true → x ∈ select p l
in_select p l x e q = elem-select p x l ∙ rw (q, e)

-- a set whose members are in the table or demanded, taken apart and put together
parts : (t D s : List ℕ) → Asc s → Asc D → ((x : ℕ) → x ∈ s → (x ∈ t) ⊎ (x ∈ D)) → select (λ h. elem h s) t ∪ select (λ h. elem h s) D ≡ s
parts t D s ascS ascD where-in =
    asc_ext (left ∪ right) s (∪-asc left right (select-asc (λ h. elem h s) D ascD)) ascS
    (λ x e. to x (∪-in x left right e)) (λ x e. from x e (where-in x e))
  where
    left : List ℕ
    left = select (λ h. elem h s) t

    right : List ℕ
    right = select (λ h. elem h s) D

    to : (x : ℕ) → (x ∈ left) ⊎ (x ∈ right) → x ∈ s
    to x (inl e) = (select_in (λ h. elem h s) t x e).0
    to x (inr e) = (select_in (λ h. elem h s) D x e).0

    from : (x : ℕ) → x ∈ s → (x ∈ t) ⊎ (x ∈ D) → x ∈ left ∪ right
    from x e (inl k) = in_∪-l x left right (in_select (λ h. elem h s) t x k e)
    from x e (inr k) = in_∪-r x left right (in_select (λ h. elem h s) D x k e)

-- the bits of a ledger's marks
module _ (derive : ℕ → ℕ) (t : List ℕ) (L : Ledger) (h : ℕ) where
  pub mark_of_asked : is_asked (mark_of derive t L h) ≡ elem (derive h) L.asked
  unfolding mark_of
  mark_of_asked = mark-asked (elem (derive h) L.asked) (elem h L.offered) (elem h L.served)

  pub mark_of_offered : is_offered (mark_of derive t L h) ≡ elem h L.offered
  unfolding mark_of
  mark_of_offered = mark-offered (elem (derive h) L.asked) (elem h L.offered) (elem h L.served)

  pub mark_of_served : is_served (mark_of derive t L h) ≡ elem h L.served
  unfolding mark_of
  mark_of_served = mark-served (elem (derive h) L.asked) (elem h L.offered) (elem h L.served)

  pub flag_of_asked : is_asked (flag_of derive t L h) ≡ elem (derive h) L.asked
  unfolding flag_of mark_of
  flag_of_asked = flag_asked (elem (derive h) L.asked) (elem h L.offered) (elem h L.served) (elem h L.gained)

  pub flag_of_offered : is_offered (flag_of derive t L h) ≡ elem h L.offered
  unfolding flag_of mark_of
  flag_of_offered = flag_offered (elem (derive h) L.asked) (elem h L.offered) (elem h L.served) (elem h L.gained)

  pub flag_of_served : is_served (flag_of derive t L h) ≡ elem h L.served
  unfolding flag_of mark_of
  flag_of_served = flag_served (elem (derive h) L.asked) (elem h L.offered) (elem h L.served) (elem h L.gained)

  pub flag_of_met : is_met (flag_of derive t L h) ≡ elem h L.gained
  unfolding flag_of mark_of
  flag_of_met = flag_met (elem (derive h) L.asked) (elem h L.offered) (elem h L.served) (elem h L.gained)

module _ (derive : ℕ → ℕ) (t : List ℕ) (L : Ledger) (b : Books derive t L) where
  -- what is held is in the table or demanded
  pub held-known : (x : ℕ) → x ∈ held derive t L → (x ∈ t) ⊎ (x ∈ L.demanded)
  unfolding held
  held-known x e = go (∪-in x L.gained t e)
    where
      go : (x ∈ L.gained) ⊎ (x ∈ t) → (x ∈ t) ⊎ (x ∈ L.demanded)
      go (inl k) = inr (b.gained_demanded x k)
      go (inr k) = inl k

  asked-again : ids_of derive (select (λ h. elem (derive h) L.asked) t ++ select (λ h. elem (derive h) L.asked) L.demanded) ∪ [] ≡ L.asked
  unfolding ids_of
  asked-again =
      asc_ext (map derive kept ∪ []) L.asked (∪-asc (map derive kept) [] tt) b.asked_asc
      (λ x e. let (h, m, q) = map_in derive x kept (∪-nil x (map derive kept) e) in back x h q (append_in h (select p t) (select p L.demanded) m))
      (λ x e. let (h, m, q) = map_in derive x (held derive t L) (b.asked_held x e) in in_∪-l x (map derive kept) [] (forth x h q e (held-known h m)))
    where
      p : ℕ → Bool
      p h = elem (derive h) L.asked

      kept : List ℕ
      kept = select p t ++ select p L.demanded

      back : (x h : ℕ) → derive h ≡ x → (h ∈ select p t) ⊎ (h ∈ select p L.demanded) → x ∈ L.asked
      back x h q (inl m) = rw q at (select_in p t h m).0
      back x h q (inr m) = rw q at (select_in p L.demanded h m).0

      forth : (x h : ℕ) → derive h ≡ x → x ∈ L.asked → (h ∈ t) ⊎ (h ∈ L.demanded) → x ∈ map derive kept
      forth x h q e (inl m) = rw q at (in_map derive h kept (in_append-l h (select p t) (select p L.demanded) (in_select p t h m (rw q e))))
      forth x h q e (inr m) = rw q at (in_map derive h kept (in_append-r h (select p t) (select p L.demanded) (in_select p L.demanded h m (rw q e))))

  gained-again : select (λ h. elem h L.gained) L.demanded ≡ L.gained
  gained-again =
      asc_ext (select p L.demanded) L.gained (select-asc p L.demanded b.demanded_asc) b.gained_asc
      (λ x e. (select_in p L.demanded x e).0) (λ x e. in_select p L.demanded x (b.gained_demanded x e) e)
    where
      p : ℕ → Bool
      p h = elem h L.gained

  pub decode-encode : decode derive t (encode derive t L) L.done_went ≡ L
  unfolding decode encode
  decode-encode = λ i. record {
    inquired = L.inquired;
    asked =
        (ap₂ (λ (k l : List ℕ). ids_of derive (k ++ l) ∪ [])
        (marked-map is_asked (mark_of derive t L) (λ h. elem (derive h) L.asked) (mark_of_asked derive t L) t)
        (marked-map is_asked (flag_of derive t L) (λ h. elem (derive h) L.asked) (flag_of_asked derive t L) L.demanded)
        ∙ asked-again) i;
    offered =
        (ap₂ ◌∪◌
        (marked-map is_offered (mark_of derive t L) (λ h. elem h L.offered) (mark_of_offered derive t L) t)
        (marked-map is_offered (flag_of derive t L) (λ h. elem h L.offered) (flag_of_offered derive t L) L.demanded)
        ∙ parts t L.demanded L.offered b.offered_asc b.demanded_asc (λ x e. held-known x (b.offered_held x e))) i;
    served =
        (ap₂ ◌∪◌
        (marked-map is_served (mark_of derive t L) (λ h. elem h L.served) (mark_of_served derive t L) t)
        (marked-map is_served (flag_of derive t L) (λ h. elem h L.served) (flag_of_served derive t L) L.demanded)
        ∙ parts t L.demanded L.served b.served_asc b.demanded_asc (λ x e. held-known x (b.offered_held x (b.served_offered x e)))) i;
    demanded = L.demanded;
    gained =
        (marked-map is_met (flag_of derive t L) (λ h. elem h L.gained) (flag_of_met derive t L) L.demanded
        ∙ gained-again) i;
    done_went = L.done_went;
  }

-- equal memories, equal ledgers
pub encode_one : (derive : ℕ → ℕ) (t : List ℕ) (L K : Ledger) → Books derive t L → Books derive t K
    → encode derive t L ≡ encode derive t K → L.done_went ≡ K.done_went → L ≡ K
encode_one derive t L K b c e w =
    sym (decode-encode derive t L b) ∙ ap₂ (decode derive t) e w ∙ decode-encode derive t K c

-- ---- a memory in form

-- h and m stand at one place of a list and its marks
data At (h m : ℕ) : List ℕ → List ℕ → Type 0 where
  here : {k n : ℕ} {l ms : List ℕ} → h ≡ k → m ≡ n → At h m (k ∷ l) (n ∷ ms)
  there : {k n : ℕ} {l ms : List ℕ} → At h m l ms → At h m (k ∷ l) (n ∷ ms)

at_in : {h m : ℕ} {l ms : List ℕ} → At h m l ms → h ∈ l
at_in {h} (here {k = k} {l = l} e q) = rw e (elem-head k l)
at_in {h} (there {k = k} {l = l} a) = elem_tail h k l (at_in a)

marked-sub : (p : ℕ → Bool) (l ms : List ℕ) → marked p l ms ⊆ l
unfolding marked
marked-sub p [] ms x e = e
marked-sub p (k ∷ l) [] x e = absurd (not_in_nil x e)
marked-sub p (k ∷ l) (n ∷ ms) x e = go (p n) e (marked-sub p l ms x)
  where
    go : (b : Bool) → x ∈ cond b (k ∷ marked p l ms) (marked p l ms) → (x ∈ marked p l ms → x ∈ l) → x ∈ k ∷ l
    go false e ih = elem_tail x k l (ih e)
    go true e ih = among (in_cons x k (marked p l ms) e)
      where
        among : (x ≡ k) ⊎ (x ∈ marked p l ms) → x ∈ k ∷ l
        among (inl q) = rw q (elem-head k l)
        among (inr q) = elem_tail x k l (ih q)

marked-at : (p : ℕ → Bool) {h m : ℕ} {l ms : List ℕ} → Distinct l → At h m l ms → elem h (marked p l ms) ≡ p m
unfolding marked
marked-at p {h} {m} d (here {k = k} {n = n} {l = l} {ms = ms} e q) = go (p n) refl
  where
    go : (b : Bool) → p n ≡ b → elem h (cond b (k ∷ marked p l ms) (marked p l ms)) ≡ p m
    go true f = rw e (elem-head k (marked p l ms)) ∙ sym (ap p q ∙ f)
    go false f = not_in h (marked p l ms) (λ x. clash (rw e at (marked-sub p l ms h x)) d.0) ∙ sym (ap p q ∙ f)
marked-at p {h} {m} d (there {k = k} {n = n} {l = l} {ms = ms} a) = go (p n) (marked-at p d.1 a)
  where
    go : (b : Bool) → elem h (marked p l ms) ≡ p m → elem h (cond b (k ∷ marked p l ms) (marked p l ms)) ≡ p m
    go true ih = elem-cons_ne h k (marked p l ms) (λ e. clash (rw e at (at_in a)) d.0) ∙ ih
    go false ih = ih

below_at : (n : ℕ) {h m : ℕ} {l ms : List ℕ} → all_below n ms ≡ true → At h m l ms → m < n
unfolding all_below all
below_at n e (here {n = k} {ms = ms} q r) = rw r (ltb-true k n ((and-eq-true_iff (ltb k n) (all (λ m. ltb m n) ms)).0 e).0)
below_at n e (there {n = k} {ms = ms} a) = below_at n ((and-eq-true_iff (ltb k n) (all (λ m. ltb m n) ms)).0 e).1 a

rebuild : (f : ℕ → ℕ) (l ms : List ℕ) → length ms ≡ length l → ((h m : ℕ) → At h m l ms → f h ≡ m) → map f l ≡ ms
rebuild f [] [] e g = refl
rebuild f [] (n ∷ ms) e g = absurd (omega arith)
rebuild f (k ∷ l) [] e g = absurd (omega arith)
rebuild f (k ∷ l) (n ∷ ms) e g = ap₂ {C = List ℕ} ◌∷◌ (g k n (here refl refl)) (rebuild f l ms (omega arith) (λ h m a. g h m (there a)))

-- two lists that have nothing in common, with their marks: what is marked in either
half : (p : ℕ → Bool) (l ms k ns : List ℕ) {h m : ℕ} → Distinct l → (h ∈ k → ⊥) → At h m l ms → elem h (marked p l ms) || elem h (marked p k ns) ≡ p m
half p l ms k ns {h} {m} d off a =
    ap₂ ◌||◌ (marked-at p d a) (not_in h (marked p k ns) (λ e. off (marked-sub p k ns h e))) ∙ or_false_r (p m)

module _ (derive : ℕ → ℕ) (t : List ℕ) (M : Memory) (w : Bool) (ascT : Asc t) (b : Books derive t (decode derive t M w)) where
  demanded_is : (decode derive t M w).demanded ≡ M.records
  unfolding decode
  demanded_is = refl

  distinct-records : Distinct M.records
  distinct-records = rw demanded_is at (asc-distinct (decode derive t M w).demanded b.demanded_asc)

  apart : (x : ℕ) → x ∈ M.records → x ∈ t → ⊥
  apart x e k = b.demanded_new x (rw demanded_is e) k

  -- the marks of one kind, read for an element of the table and for a record
  table_half : (p : ℕ → Bool) {h m : ℕ} → At h m t M.marks → elem h (marked p t M.marks) || elem h (marked p M.records M.flags) ≡ p m
  table_half p {h} a = half p t M.marks M.records M.flags (asc-distinct t ascT) (λ e. apart h e (at_in a)) a

  record_half : (p : ℕ → Bool) {h m : ℕ} → At h m M.records M.flags → elem h (marked p t M.marks) || elem h (marked p M.records M.flags) ≡ p m
  record_half p {h} a =
      or_comm (elem h (marked p t M.marks)) (elem h (marked p M.records M.flags))
      ∙ half p M.records M.flags t M.marks distinct-records (apart h (at_in a)) a

  -- by ID, as no two share one
  asked_is : (h : ℕ) → h ∈ t ++ M.records
      → elem (derive h) (decode derive t M w).asked ≡ elem h (marked is_asked t M.marks) || elem h (marked is_asked M.records M.flags)
  unfolding decode ids_of
  asked_is h m =
      same_test (elem (derive h) (map derive askers ∪ [])) (elem h askers)
      (λ e. let (y, p, q) = map_in derive (derive h) askers (∪-nil (derive h) (map derive askers) e) in rw (b.no_shared y h (known y p) m q) at p)
      (λ e. in_∪-l (derive h) (map derive askers) [] (in_map derive h askers e))
      ∙ elem-append h (marked is_asked t M.marks) (marked is_asked M.records M.flags)
    where
      askers : List ℕ
      askers = marked is_asked t M.marks ++ marked is_asked M.records M.flags

      known : (x : ℕ) → x ∈ askers → x ∈ t ++ M.records
      known x e = go (append_in x (marked is_asked t M.marks) (marked is_asked M.records M.flags) e)
        where
          go : (x ∈ marked is_asked t M.marks) ⊎ (x ∈ marked is_asked M.records M.flags) → x ∈ t ++ M.records
          go (inl k) = in_append-l x t M.records (marked-sub is_asked t M.marks x k)
          go (inr k) = in_append-r x t M.records (marked-sub is_asked M.records M.flags x k)

  table-set : (p : ℕ → Bool) {h m : ℕ} → At h m t M.marks → elem h (marked p t M.marks ∪ marked p M.records M.flags) ≡ p m
  table-set p {h} a = elem-∪ h (marked p t M.marks) (marked p M.records M.flags) ∙ table_half p a

  record_set : (p : ℕ → Bool) {h m : ℕ} → At h m M.records M.flags → elem h (marked p t M.marks ∪ marked p M.records M.flags) ≡ p m
  record_set p {h} a = elem-∪ h (marked p t M.marks) (marked p M.records M.flags) ∙ record_half p a

  mark-again : (h m : ℕ) → m < 8 → At h m t M.marks → mark_of derive t (decode derive t M w) h ≡ m
  unfolding mark_of decode
  mark-again h m l a =
      mark-same (asked_is h (in_append-l h t M.records (at_in a)) ∙ table_half is_asked a) (table-set is_offered a) (table-set is_served a)
      ∙ mark-bits m l

  flag_again : (h m : ℕ) → m < 16 → At h m M.records M.flags → flag_of derive t (decode derive t M w) h ≡ m
  unfolding flag_of mark_of decode
  flag_again h m l a =
      flag_same (asked_is h (in_append-r h t M.records (at_in a)) ∙ record_half is_asked a) (record_set is_offered a) (record_set is_served a)
      (marked-at is_met distinct-records a)
      ∙ flag_bits m l

  pub encode-decode : length M.marks ≡ length t → length M.flags ≡ length M.records → all_below 8 M.marks ≡ true → all_below 16 M.flags ≡ true
      → encode derive t (decode derive t M w) ≡ M
  unfolding encode decode
  encode-decode marksLong flagsLong marksBelow flagsBelow = λ i. record {
    records = M.records;
    flags =
        rebuild (flag_of derive t (decode derive t M w)) M.records M.flags flagsLong
        (λ h m a. flag_again h m (below_at 16 flagsBelow a) a) i;
    marks = rebuild (mark_of derive t (decode derive t M w)) t M.marks marksLong (λ h m a. mark-again h m (below_at 8 marksBelow a) a) i;
    inquired = M.inquired;
  }

-- ---- a ledger's marks have no bit but theirs

below-map : (f : ℕ → ℕ) (n : ℕ) → ((h : ℕ) → f h < n) → (l : List ℕ) → all_below n (map f l) ≡ true
unfolding all_below all
below-map f n h [] = refl
below-map f n h (a ∷ l) = and_holds (lt-ltb (f a) n (h a)) (below-map f n h l)

module _ (derive : ℕ → ℕ) (t : List ℕ) (L : Ledger) where
  mark-low : (h : ℕ) → mark_of derive t L h < 8
  unfolding mark_of
  mark-low h = mark-below (elem (derive h) L.asked) (elem h L.offered) (elem h L.served)

  flag_low : (h : ℕ) → flag_of derive t L h < 16
  unfolding flag_of mark_of
  flag_low h = flag_below (elem (derive h) L.asked) (elem h L.offered) (elem h L.served) (elem h L.gained)

  pub marks-below : all_below 8 (marks_of derive t L) ≡ true
  marks-below = below-map (mark_of derive t L) 8 mark-low t

  pub flags-below : all_below 16 (flags_of derive t L) ≡ true
  flags-below = below-map (flag_of derive t L) 16 flag_low L.demanded

-- ---- hashes whose mark passes

pub marked_in : (p : ℕ → Bool) (hs ms : List ℕ) (x : ℕ) → x ∈ marked p hs ms → x ∈ hs
unfolding marked
marked_in p [] ms x e = e
marked_in p (h ∷ hs) [] x e = absurd (not_in_nil x e)
marked_in p (h ∷ hs) (m ∷ ms) x e = go (p m) e (marked_in p hs ms x)
  where
    go : (b : Bool) → x ∈ cond b (h ∷ marked p hs ms) (marked p hs ms) → (x ∈ marked p hs ms → x ∈ hs) → x ∈ h ∷ hs
    go true k ih = at (in_cons x h (marked p hs ms) k)
      where
        at : (x ≡ h) ⊎ (x ∈ marked p hs ms) → x ∈ h ∷ hs
        at (inl q) = rw q (elem-head h hs)
        at (inr q) = elem_tail x h hs (ih q)
    go false k ih = elem_tail x h hs (ih k)

pub marked-asc : (p : ℕ → Bool) (hs ms : List ℕ) → Asc hs → Asc (marked p hs ms)
unfolding marked
marked-asc p [] ms h = tt
marked-asc p (a ∷ hs) [] h = tt
marked-asc p (a ∷ hs) (m ∷ ms) h = go (p m) (marked-asc p hs ms h.1)
  where
    go : (b : Bool) → Asc (marked p hs ms) → Asc (cond b (a ∷ marked p hs ms) (marked p hs ms))
    go true ih = (λ y e. h.0 y (marked_in p hs ms y e), ih)
    go false ih = ih
