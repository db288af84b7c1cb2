-- What the code counts and tests of a ledger's memory is what the form says of the ledger: its books, that it holds nothing, and that every
-- inquired one came. Assumes nothing.
use mathlib.Core.Path.{◌≡◌, sym, ap, ap₂, subst, ◌∙◌}
use mathlib.Core.Logic.{◌⊎◌, inl, inr}
use mathlib.Core.Bool.{Bool, true, false, not}
use mathlib.Core.List.{List, [], ◌++◌, map, map-append}
use Prim.Native.Nat.{ℕ, ◌+◌, ◌-◌, ◌≤◌}
use native.Mathlib.Omega.{arith}
use lib.Dec.{eqb}
use lib.ListN.{length, length-map}
use borrow.Author.Tests.{eqb-true, eq-eqb}
use Rattle.bucket.specs.Lists.{elem, Distinct}
use Rattle.bucket.proofs.ListLaws.{elem-nil}
use Rattle.bucket.proofs.TestLaws.{and_holds}
use Rattle.filter.specs.Lists.{select}
use Rattle.filter.proofs.OrderLaws.{same_test}
use Rattle.filter.proofs.SelectLaws.{select-agree, distinct-select}
use Rattle.filter.specs.Sets.{◌∪◌, all, is_nil, count}
use Rattle.ledger.specs.Session.{Ledger, ids_of, held, held_ids, concerned, all_came}
use Rattle.ledger.specs.Form.{nothing}
use Rattle.ledger.specs.Memory.{is_asked, is_offered, is_served, is_met, Memory, marked, decode, mark_of, marks_of}
use Rattle.form.specs.Tallies.{table_mark, record_mark, is_zero, common}
use Rattle.filter.proofs.SetLaws.{◌∈◌, ◌⊆◌, append_in, in_append-l, in_append-r, in_∪-l, in_∪-r, ∪-in, ∪-nil, elem-select, select_in, Asc, asc-distinct, ∪-asc}
use Rattle.filter.proofs.ListLaws.{Apart, all_of, nil_of, distinct_append, distinct-map, map-distinct, count_same, count-distinct, every-cons, cons-every, every-nil}
use Rattle.ledger.proofs.BookLaws.{Table, Books, table-ids}
use Rattle.ledger.proofs.HeldLaws.{in_ids, ids_in_lem, ids-part, held_in, gained-held, table-held}
use Rattle.ledger.proofs.BitLaws.{mark-same}
use Rattle.form.proofs.CountLaws.{common-apart, apart-common, common-all, common-append, count_three, count-concerned}
use Rattle.ledger.proofs.MemoryLaws.{marked_in, marked-asc}
use Rattle.ledger.proofs.GivenLaws.{books-apart}
use Rattle.form.proofs.MarkTests.{zero_asked, zero_offered, zero_served, table-served, record_served, record_met, all_mapped, marked_more, marked-none}

-- ---- counting

-- what two lists share, from either side
pub common_sym : (l m : List ℕ) → Distinct l → Distinct m → common l m ≡ common m l
unfolding common
common_sym l m dl dm =
    sym (count-distinct (shared l m) (distinct-select (λ x. elem x m) l dl))
    ∙ count_same (shared l m) (shared m l) (turned l m) (turned m l)
    ∙ count-distinct (shared m l) (distinct-select (λ x. elem x l) m dm)
  where
    shared : List ℕ → List ℕ → List ℕ
    shared a b = select (λ x. elem x b) a

    turned : (a b : List ℕ) → shared a b ⊆ shared b a
    turned a b x e = let (p, q) = select_in (λ y. elem y b) a x e in elem-select (λ y. elem y a) x b ∙ and_holds q p

-- only the members count
common-same : (l m n : List ℕ) → ((x : ℕ) → elem x m ≡ elem x n) → common l m ≡ common l n
unfolding common
common-same l m n h = ap length (select-agree (λ x. elem x m) (λ x. elem x n) l (λ x k. h x))

pub ids-length : (derive : ℕ → ℕ) (l : List ℕ) → length (ids_of derive l) ≡ length l
unfolding ids_of
ids-length derive l = length-map l derive

-- how many IDs are held or wanted
module _ (derive : ℕ → ℕ) (t : List ℕ) (L : Ledger) (came : L.gained ⊆ L.demanded)
    (dt : Distinct (ids_of derive t)) (dk : Distinct (ids_of derive L.demanded)) (di : Distinct L.inquired)
    (none : common (ids_of derive L.demanded) (ids_of derive t) ≡ 0) where
  concerned-count : count (concerned derive t L)
      ≡ length t + length L.demanded + length L.inquired - common L.inquired (ids_of derive t) - common (ids_of derive L.demanded) L.inquired
  concerned-count =
      count-concerned derive t L came
      ∙ omega (
        arith,
        count_three (ids_of derive t) (ids_of derive L.demanded) L.inquired dt dk di none,
        ids-length derive t,
        ids-length derive L.demanded,
        common_sym L.inquired (ids_of derive L.demanded) di dk,
      )

module _ (derive : ℕ → ℕ) (t : List ℕ) (L : Ledger) (b : Books derive t L) where
  ids-once : (l : List ℕ) → Asc l → l ⊆ L.demanded → Distinct (ids_of derive l)
  unfolding ids_of
  ids-once l asc sub = distinct-map derive l (λ x y p q. b.no_shared x y (known x p) (known y q)) (asc-distinct l asc)
    where
      known : (x : ℕ) → x ∈ l → x ∈ t ++ L.demanded
      known x p = in_append-r x t L.demanded (sub x p)

  -- how many IDs are held or wanted
  pub books-count : Table derive t → count (concerned derive t L)
      ≡ length t + length L.demanded + length L.inquired - common L.inquired (ids_of derive t) - common (ids_of derive L.demanded) L.inquired
  books-count g =
      concerned-count derive t L b.gained_demanded (table-ids derive t g) (ids-once L.demanded b.demanded_asc (λ x e. e))
      (asc-distinct L.inquired b.inquired_asc) (apart-common (ids_of derive L.demanded) (ids_of derive t) (books-apart derive t L b))

  gained-apart : Apart (ids_of derive t) (ids_of derive L.gained)
  gained-apart x e k = books-apart derive t L b x (ids-part derive L.gained L.demanded b.gained_demanded x k) e

  elem-held_ids : (x : ℕ) → elem x (held_ids derive t L) ≡ elem x (ids_of derive t ++ ids_of derive L.gained)
  unfolding ids_of
  elem-held_ids x =
      same_test (elem x (held_ids derive t L)) (elem x (ids_of derive t ++ ids_of derive L.gained))
      (λ e. let (h, p, q) = ids_in_lem derive x (held derive t L) e in to h q (held_in derive t L h p))
      (λ e. from (append_in x (ids_of derive t) (ids_of derive L.gained) e))
    where
      to : (h : ℕ) → derive h ≡ x → (h ∈ L.gained) ⊎ (h ∈ t) → x ∈ ids_of derive t ++ ids_of derive L.gained
      to h q (inl p) = rw q at (in_append-r (derive h) (ids_of derive t) (ids_of derive L.gained) (in_ids derive h L.gained p))
      to h q (inr p) = rw q at (in_append-l (derive h) (ids_of derive t) (ids_of derive L.gained) (in_ids derive h t p))

      from : (x ∈ ids_of derive t) ⊎ (x ∈ ids_of derive L.gained) → x ∈ held_ids derive t L
      from (inl p) = ids-part derive t (held derive t L) (table-held derive t L) x p
      from (inr p) = ids-part derive L.gained (held derive t L) (gained-held derive t L) x p

  -- how many inquired ones are held, where every demanded one was inquired
  module _ (inquired : ids_of derive L.demanded ⊆ L.inquired) where
    came-common : common L.inquired (held_ids derive t L) ≡ common L.inquired (ids_of derive t) + length L.gained
    came-common =
        common-same L.inquired (held_ids derive t L) (ids_of derive t ++ ids_of derive L.gained) elem-held_ids
        ∙ common-append L.inquired (ids_of derive t) (ids_of derive L.gained) gained-apart
        ∙ ap (λ (n : ℕ). common L.inquired (ids_of derive t) + n)
        (common_sym L.inquired (ids_of derive L.gained) (asc-distinct L.inquired b.inquired_asc) (ids-once L.gained b.gained_asc b.gained_demanded) ∙ every-gained)
      where
        every-gained : common (ids_of derive L.gained) L.inquired ≡ length L.gained
        every-gained =
            eqb-true (common (ids_of derive L.gained) L.inquired) (length (ids_of derive L.gained))
            (sym (common-all (ids_of derive L.gained) L.inquired)
            ∙ all_of (λ x. elem x L.inquired) (ids_of derive L.gained) (λ x e. inquired x (ids-part derive L.gained L.demanded b.gained_demanded x e)))
            ∙ ids-length derive L.gained

    pub came-all : all_came derive t L ≡ eqb (common L.inquired (ids_of derive t) + length L.gained) (length L.inquired)
    unfolding all_came
    came-all = common-all L.inquired (held_ids derive t L) ∙ ap (λ (n : ℕ). eqb n (length L.inquired)) came-common

-- ---- the books

module _ (derive : ℕ → ℕ) (t : List ℕ) (M : Memory) (w : Bool) (g : Table derive t) (k : Table derive M.records) (inquired : Asc M.inquired)
    (mt : all table_mark M.marks ≡ true) (mr : all record_mark M.flags ≡ true)
    (none : common (ids_of derive M.records) (ids_of derive t) ≡ 0)
    (room : length t + length M.records + length M.inquired ≤ 4096 + common M.inquired (ids_of derive t) + common (ids_of derive M.records) M.inquired) where
  -- marked ones are of the table, or met
  marked-held : (p : ℕ → Bool) → p 0 ≡ false → (x : ℕ) → (x ∈ marked p t M.marks) ⊎ (x ∈ marked p M.records M.flags) → x ∈ held derive t (decode derive t M w)
  unfolding decode
  marked-held p z x (inl e) = table-held derive t (decode derive t M w) x (marked_in p t M.marks x e)
  marked-held p z x (inr e) =
      gained-held derive t (decode derive t M w) x
      (marked_more record_mark p is_met (λ m. record_met m p z) M.records M.flags mr x e)

  asked-held : (decode derive t M w).asked ⊆ held_ids derive t (decode derive t M w)
  unfolding decode
  asked-held x e =
      let (h, p, q) = ids_in_lem derive x askers (∪-nil x (ids_of derive askers) e) in
      rw q at (in_ids derive h (held derive t (decode derive t M w)) (marked-held is_asked zero_asked h (append_in h (marked is_asked t M.marks) (marked is_asked M.records M.flags) p)))
    where
      askers : List ℕ
      askers = marked is_asked t M.marks ++ marked is_asked M.records M.flags

  offered-held : (decode derive t M w).offered ⊆ held derive t (decode derive t M w)
  unfolding decode
  offered-held x e = marked-held is_offered zero_offered x (∪-in x (marked is_offered t M.marks) (marked is_offered M.records M.flags) e)

  served-offered : (decode derive t M w).served ⊆ (decode derive t M w).offered
  unfolding decode
  served-offered x e = go (∪-in x (marked is_served t M.marks) (marked is_served M.records M.flags) e)
    where
      go : (x ∈ marked is_served t M.marks) ⊎ (x ∈ marked is_served M.records M.flags) → x ∈ marked is_offered t M.marks ∪ marked is_offered M.records M.flags
      go (inl i) = in_∪-l x (marked is_offered t M.marks) (marked is_offered M.records M.flags) (marked_more table_mark is_served is_offered table-served t M.marks mt x i)
      go (inr i) = in_∪-r x (marked is_offered t M.marks) (marked is_offered M.records M.flags) (marked_more record_mark is_served is_offered record_served M.records M.flags mr x i)

  none_shared : (x y : ℕ) → x ∈ t ++ M.records → y ∈ t ++ M.records → derive x ≡ derive y → x ≡ y
  unfolding ids_of
  none_shared =
      map-distinct derive (t ++ M.records)
      (subst Distinct (sym (map-append derive t M.records))
      (distinct_append (map derive t) (map derive M.records) (table-ids derive t g) (table-ids derive M.records k) (common-apart (map derive M.records) (map derive t) none)))

  pub books_tested : Books derive t (decode derive t M w)
  unfolding decode
  books_tested = record {
    inquired_asc = inquired;
    asked_asc = ∪-asc (ids_of derive (marked is_asked t M.marks ++ marked is_asked M.records M.flags)) [] tt;
    offered_asc = ∪-asc (marked is_offered t M.marks) (marked is_offered M.records M.flags) (marked-asc is_offered M.records M.flags k.asc);
    served_asc = ∪-asc (marked is_served t M.marks) (marked is_served M.records M.flags) (marked-asc is_served M.records M.flags k.asc);
    demanded_asc = k.asc;
    gained_asc = marked-asc is_met M.records M.flags k.asc;
    offered_held = offered-held;
    asked_held = asked-held;
    served_offered = served-offered;
    gained_demanded = marked_in is_met M.records M.flags;
    demanded_new = λ x p q. common-apart (ids_of derive M.records) (ids_of derive t) none (derive x) (in_ids derive x M.records p) (in_ids derive x t q);
    no_shared = none_shared;
    few = omega (
      arith,
      concerned-count derive t (decode derive t M w) (marked_in is_met M.records M.flags) (table-ids derive t g) (table-ids derive M.records k)
          (asc-distinct M.inquired inquired) none,
    );
  }

-- ---- nothing

-- nothing asked, offered or served, no mark
markless : (derive : ℕ → ℕ) (t : List ℕ) (L : Ledger) → L.asked ≡ [] → L.offered ≡ [] → L.served ≡ [] → all is_zero (marks_of derive t L) ≡ true
unfolding mark_of
markless derive t L a o s =
    all_mapped is_zero (mark_of derive t L) t
    (λ h e. eq-eqb (mark_of derive t L h) 0 (mark-same (ap (elem (derive h)) a ∙ elem-nil (derive h)) (ap (elem h) o ∙ elem-nil h) (ap (elem h) s ∙ elem-nil h)))

module _ (derive : ℕ → ℕ) (t : List ℕ) (M : Memory) (w : Bool) where
  -- no marks and no records, no ledger
  pub nothing_tested : M.records ≡ [] → M.inquired ≡ [] → all is_zero M.marks ≡ true → w ≡ false → nothing (decode derive t M w) ≡ true
  unfolding nothing decode marked ids_of ◌∪◌
  nothing_tested d i z went =
      cons-every _ _ (ap is_nil i)
      (cons-every _ _ (ap₂ (λ (a c : List ℕ). is_nil (map derive (a ++ c) ∪ [])) (marked-none is_asked zero_asked t M.marks z) (none is_asked))
      (cons-every _ _ (ap₂ (λ (a c : List ℕ). is_nil (a ∪ c)) (marked-none is_offered zero_offered t M.marks z) (none is_offered))
      (cons-every _ _ (ap₂ (λ (a c : List ℕ). is_nil (a ∪ c)) (marked-none is_served zero_served t M.marks z) (none is_served))
      (cons-every _ _ (ap is_nil d)
      (cons-every _ _ (ap is_nil (none is_met)) (cons-every _ _ (ap not went) every-nil))))))
    where
      none : (p : ℕ → Bool) → marked p M.records M.flags ≡ []
      none p = ap (λ (l : List ℕ). marked p l M.flags) d

  -- and back, by the marks of the ledger
  pub tested_nothing : marks_of derive t (decode derive t M w) ≡ M.marks → nothing (decode derive t M w) ≡ true → all is_zero M.marks ≡ true
  unfolding nothing decode
  tested_nothing again e =
      let (e1, r1) = every-cons _ _ e in
      let (e2, r2) = every-cons _ _ r1 in
      let (e3, r3) = every-cons _ _ r2 in
      let (e4, r4) = every-cons _ _ r3 in
      subst (λ (l : List ℕ). all is_zero l ≡ true) again (markless derive t (decode derive t M w) (nil_of _ e2) (nil_of _ e3) (nil_of _ e4))
