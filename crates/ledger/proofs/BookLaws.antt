-- The form of a table, of a ledger and of a session as statements, and that the tests of `Form` are exactly these. Assumes nothing.
use mathlib.Core.Path.{◌≡◌, ap, subst}
use mathlib.Core.Bool.{true, and-eq-true_iff}
use mathlib.Core.List.{List, ◌++◌, map, map-append}
use Prim.Native.Nat.{ℕ, ◌/◌, ◌%◌, ◌≤◌, ◌<◌}
use native.Mathlib.Omega.{arith}
use lib.Dec.{eqb, leb}
use lib.ListN.{length}
use borrow.Author.Tests.{not-true, leb-true, ltb-true, le-leb, lt-ltb}
use Rattle.bucket.specs.Lists.{Distinct}
use Rattle.bucket.proofs.TestLaws.{and_holds}
use Rattle.filter.specs.Lists.{ascending, distinct}
use Rattle.filter.specs.Calls.{in_range}
use Rattle.filter.specs.Table.{hashes_of, is_table}
use Rattle.filter.proofs.OrderLaws.{distinct_true, distinct_test}
use Rattle.filter.proofs.TableLaws.{hashes-length}
use Rattle.filter.specs.Sets.{within, count, every}
use Rattle.ledger.specs.Grid.{ACTIVE, is_state}
use Rattle.ledger.specs.Session.{Ledger, Session, no_ledger, «in», ids_of, held, held_ids, concerned, all_came}
use Rattle.ledger.specs.Form.{good_numbers, idle, nothing, good_books, good_part, good_whole, good_ledger}
use Rattle.filter.proofs.SetLaws.{◌∈◌, ◌⊆◌, and_l, and_r, Asc, asc_of, of_asc, asc-distinct}
use Rattle.filter.proofs.ListLaws.{Apart, within_of, of_within, nil_of, distinct_append, distinct_apart, in_map, distinct-map, map-distinct, every-cons, every-nil, cons-every, implies_of, of_implies, same_of, of_same}

-- "strictly ascending, at most 4,096, no two sharing an ID"
pub record Table (derive : ℕ → ℕ) (t : List ℕ) : Type 0 where
  pub asc : Asc t
  pub few : length t ≤ 4096
  pub no_shared : (x y : ℕ) → x ∈ t → y ∈ t → derive x ≡ derive y → x ≡ y

-- what the form says of a ledger
pub record Books (derive : ℕ → ℕ) (t : List ℕ) (L : Ledger) : Type 0 where
  pub inquired_asc : Asc L.inquired
  pub asked_asc : Asc L.asked
  pub offered_asc : Asc L.offered
  pub served_asc : Asc L.served
  pub demanded_asc : Asc L.demanded
  pub gained_asc : Asc L.gained
  pub offered_held : L.offered ⊆ held derive t L
  pub asked_held : L.asked ⊆ held_ids derive t L
  pub served_offered : L.served ⊆ L.offered
  pub gained_demanded : L.gained ⊆ L.demanded
  pub demanded_new : Apart L.demanded t
  pub no_shared : (x y : ℕ) → x ∈ t ++ L.demanded → y ∈ t ++ L.demanded → derive x ≡ derive y → x ≡ y
  pub few : count (concerned derive t L) ≤ 4096

-- and of a session
pub record Form (derive : ℕ → ℕ) (t : List ℕ) (s : Session) : Type 0 where
  pub books : Books derive t s.ledger
  pub empty : idle s ≡ true → s.ledger ≡ no_ledger
  pub demands_inquired : «in» s ACTIVE ≡ true → ids_of derive s.ledger.demanded ⊆ s.ledger.inquired
  pub done_exactly : «in» s ACTIVE ≡ true → s.ledger.done_went ≡ all_came derive t s.ledger
  pub state : is_state s.state ≡ true
  pub swaps : s.swaps ≤ 16
  pub size_low : 37 ≤ s.size
  pub size_high : s.size ≤ 4096
  pub salt : s.salt < 64

-- ---- tables

module _ (derive : ℕ → ℕ) where
  pub table_of_lem : (bytes : List ℕ) → is_table derive bytes ≡ true → Table derive (hashes_of bytes)
  unfolding is_table Rattle.filter.specs.Table.ids_of
  table_of_lem bytes e =
      let whole = (and-eq-true_iff (eqb (length bytes % 64) 0) _).0 e in
      let few = (and-eq-true_iff (leb (length bytes / 64) 4096) _).0 whole.1 in
      let order = (and-eq-true_iff (ascending (hashes_of bytes)) _).0 few.1 in
      record {
        asc = asc_of (hashes_of bytes) order.0;
        few = omega (arith, hashes-length bytes, leb-true (length bytes / 64) 4096 few.0);
        no_shared = map-distinct derive (hashes_of bytes) (distinct_true (map derive (hashes_of bytes)) order.1);
      }

  pub table-ids : (t : List ℕ) → Table derive t → Distinct (ids_of derive t)
  unfolding ids_of
  table-ids t g = distinct-map derive t g.no_shared (asc-distinct t g.asc)

-- ---- books

nothing_of : (L : Ledger) → nothing L ≡ true → L ≡ no_ledger
unfolding nothing
nothing_of L e =
    let (e1, r1) = every-cons _ _ e in
    let (e2, r2) = every-cons _ _ r1 in
    let (e3, r3) = every-cons _ _ r2 in
    let (e4, r4) = every-cons _ _ r3 in
    let (e5, r5) = every-cons _ _ r4 in
    let (e6, r6) = every-cons _ _ r5 in
    let (e7, r7) = every-cons _ _ r6 in
    λ i.
    record {
      inquired = nil_of L.inquired e1 i;
      asked = nil_of L.asked e2 i;
      offered = nil_of L.offered e3 i;
      served = nil_of L.served e4 i;
      demanded = nil_of L.demanded e5 i;
      gained = nil_of L.gained e6 i;
      done_went = not-true L.done_went e7 i;
    }

of_nothing : (L : Ledger) → L ≡ no_ledger → nothing L ≡ true
unfolding nothing every
of_nothing L e = ap nothing e

module _ (derive : ℕ → ℕ) (t : List ℕ) where
  pub books_of : (L : Ledger) → good_books derive t L ≡ true → Books derive t L
  unfolding good_books ids_of
  books_of L e =
      let (e1, r1) = every-cons _ _ e in
      let (e2, r2) = every-cons _ _ r1 in
      let (e3, r3) = every-cons _ _ r2 in
      let (e4, r4) = every-cons _ _ r3 in
      let (e5, r5) = every-cons _ _ r4 in
      let (e6, r6) = every-cons _ _ r5 in
      let (e7, r7) = every-cons _ _ r6 in
      let (e8, r8) = every-cons _ _ r7 in
      let (e9, r9) = every-cons _ _ r8 in
      let (e10, r10) = every-cons _ _ r9 in
      let (e11, r11) = every-cons _ _ r10 in
      let (e12, r12) = every-cons _ _ r11 in
      record {
        inquired_asc = asc_of L.inquired e1;
        asked_asc = asc_of L.asked e2;
        offered_asc = asc_of L.offered e3;
        served_asc = asc_of L.served e4;
        demanded_asc = asc_of L.demanded e5;
        gained_asc = asc_of L.gained e6;
        offered_held = within_of L.offered (held derive t L) e7;
        asked_held = within_of L.asked (held_ids derive t L) e8;
        served_offered = within_of L.served L.offered e9;
        gained_demanded = within_of L.gained L.demanded e10;
        demanded_new = apart (distinct_true (map derive (t ++ L.demanded)) e11);
        no_shared = map-distinct derive (t ++ L.demanded) (distinct_true (map derive (t ++ L.demanded)) e11);
        few = leb-true (count (concerned derive t L)) 4096 e12;
      }
    where
      apart : Distinct (map derive (t ++ L.demanded)) → Apart L.demanded t
      apart d x p q =
          distinct_apart (map derive t) (map derive L.demanded) (subst Distinct (map-append derive t L.demanded) d)
          (derive x) (in_map derive x L.demanded p) (in_map derive x t q)

  pub of_books : (L : Ledger) → Asc t → Books derive t L → good_books derive t L ≡ true
  unfolding good_books ids_of
  of_books L at b =
      cons-every _ _ (of_asc L.inquired b.inquired_asc)
      (cons-every _ _ (of_asc L.asked b.asked_asc)
      (cons-every _ _ (of_asc L.offered b.offered_asc)
      (cons-every _ _ (of_asc L.served b.served_asc)
      (cons-every _ _ (of_asc L.demanded b.demanded_asc)
      (cons-every _ _ (of_asc L.gained b.gained_asc)
      (cons-every _ _ (of_within L.offered (held derive t L) b.offered_held)
      (cons-every _ _ (of_within L.asked (held_ids derive t L) b.asked_held)
      (cons-every _ _ (of_within L.served L.offered b.served_offered)
      (cons-every _ _ (of_within L.gained L.demanded b.gained_demanded)
      (cons-every _ _ one (cons-every _ _ (le-leb (count (concerned derive t L)) 4096 b.few) every-nil)))))))))))
    where
      one : distinct (map derive (t ++ L.demanded)) ≡ true
      one =
          distinct_test (map derive (t ++ L.demanded))
          (distinct-map derive (t ++ L.demanded) b.no_shared
          (distinct_append t L.demanded (asc-distinct t at) (asc-distinct L.demanded b.demanded_asc) b.demanded_new))

  -- ---- sessions

  pub form_of : (s : Session) → good_numbers s ≡ true → good_ledger derive t s ≡ true → Form derive t s
  unfolding good_numbers good_ledger good_part good_whole in_range
  form_of s n e =
      let part = and_l (good_part derive t s) _ e in
      let whole = and_r (good_part derive t s) _ e in
      let e1 = and_l (good_books derive t s.ledger) _ part in
      let e2 = and_r (good_books derive t s.ledger) _ part in
      let n1 = and_r (is_state s.state) _ n in
      let n2 = and_r (leb s.swaps 16) _ n1 in
      let n3 = and_r (leb 37 s.size) _ n2 in
      record {
        books = books_of s.ledger e1;
        empty = λ k. nothing_of s.ledger (implies_of (idle s) (nothing s.ledger) e2 k);
        demands_inquired = λ k. within_of (ids_of derive s.ledger.demanded) s.ledger.inquired (and_l (within (ids_of derive s.ledger.demanded) s.ledger.inquired) _ (implies_of («in» s ACTIVE) _ whole k));
        done_exactly = λ k. same_of s.ledger.done_went (all_came derive t s.ledger) (and_r (within (ids_of derive s.ledger.demanded) s.ledger.inquired) _ (implies_of («in» s ACTIVE) _ whole k));
        state = and_l (is_state s.state) _ n;
        swaps = leb-true s.swaps 16 (and_l (leb s.swaps 16) _ n1);
        size_low = leb-true 37 s.size (and_l (leb 37 s.size) _ n2);
        size_high = leb-true s.size 4096 (and_l (leb s.size 4096) _ n3);
        salt = ltb-true s.salt 64 (and_r (leb s.size 4096) _ n3);
      }

  pub form-numbers : (s : Session) → Form derive t s → good_numbers s ≡ true
  unfolding good_numbers in_range
  form-numbers s f =
      and_holds f.state
      (and_holds (le-leb s.swaps 16 f.swaps)
      (and_holds (le-leb 37 s.size f.size_low) (and_holds (le-leb s.size 4096 f.size_high) (lt-ltb s.salt 64 f.salt))))

  pub form-ledger : (s : Session) → Asc t → Form derive t s → good_ledger derive t s ≡ true
  unfolding good_ledger good_part good_whole
  form-ledger s at f =
      and_holds
      (and_holds (of_books s.ledger at f.books) (of_implies (idle s) (nothing s.ledger) (λ k. of_nothing s.ledger (f.empty k))))
      (of_implies («in» s ACTIVE) _
      (λ k. and_holds (of_within (ids_of derive s.ledger.demanded) s.ledger.inquired (f.demands_inquired k))
      (of_same s.ledger.done_went (all_came derive t s.ledger) (f.done_exactly k))))

  pub of_form : (s : Session) → Asc t → Form derive t s → (good_numbers s ≡ true) × (good_ledger derive t s ≡ true)
  of_form s at f = (form-numbers s f, form-ledger s at f)
