-- What is recorded keeps a ledger's form. Assumes nothing.
use mathlib.Core.Path.{◌≡◌, sym, ap, subst, ◌∙◌}
use mathlib.Core.Logic.{◌⊎◌, inl, inr}
use mathlib.Core.Bool.{Bool, true, false}
use mathlib.Core.List.{List, [], ◌++◌, map, append-nil}
use Prim.Native.Nat.{ℕ, ◌≤◌}
use native.Mathlib.Omega.{arith}
use lib.ListN.{length-map}
use Rattle.bucket.specs.Lists.{elem}
use Rattle.filter.specs.Lists.{select, minus}
use Rattle.filter.specs.Sets.{insert, ◌∪◌, once, count}
use Rattle.ledger.specs.Session.{Ledger, no_ledger, unmet, demanding, serving, gaining, done_if, ids_of, held, held_ids, concerned, hashes_for, opened, asking}
use Rattle.filter.proofs.SetLaws.{◌∈◌, ◌⊆◌, clash, not_in_nil, not_in, in_append-l, in_append-r, append_in, in_insert, insert_in, in_∪-r, ∪-in, ∪-nil, insert-asc, ∪-asc}
use Rattle.filter.proofs.ListLaws.{Apart, once-apart, once-distinct, map-distinct, count_le, count-length}
use Rattle.ledger.proofs.BookLaws.{Table, Books}
use Rattle.ledger.proofs.HeldLaws.{in_ids, ids_in_lem, ids-part, in_unmet, unmet_in, held_in, gained-held, table-held, hashes-held, Concerned, in_concerned, concerned_in}

module _ (derive : ℕ → ℕ) (t : List ℕ) where
  pub books-none : Table derive t → Books derive t no_ledger
  unfolding held concerned unmet ◌∪◌ minus select ids_of
  books-none g = record {
    inquired_asc = tt;
    asked_asc = tt;
    offered_asc = tt;
    served_asc = tt;
    demanded_asc = tt;
    gained_asc = tt;
    offered_held = λ x e. absurd (not_in_nil x e);
    asked_held = λ x e. absurd (not_in_nil x e);
    served_offered = λ x e. e;
    gained_demanded = λ x e. e;
    demanded_new = λ x e k. not_in_nil x e;
    no_shared = rw (append-nil t) g.no_shared;
    few = rw (append-nil (map derive t)) (omega (arith, g.few, count-length (map derive t), length-map t derive));
  }

  pub books-done : (goes : Bool) (L : Ledger) → Books derive t L → Books derive t (done_if goes L)
  unfolding held concerned unmet
  books-done goes L b = record {
    inquired_asc = b.inquired_asc;
    asked_asc = b.asked_asc;
    offered_asc = b.offered_asc;
    served_asc = b.served_asc;
    demanded_asc = b.demanded_asc;
    gained_asc = b.gained_asc;
    offered_held = b.offered_held;
    asked_held = b.asked_held;
    served_offered = b.served_offered;
    gained_demanded = b.gained_demanded;
    demanded_new = b.demanded_new;
    no_shared = b.no_shared;
    few = b.few;
  }

  pub books-serving : (hs : List ℕ) (L : Ledger) → hs ⊆ L.offered → Books derive t L → Books derive t (serving hs L)
  unfolding held concerned unmet
  books-serving hs L h b = record {
    inquired_asc = b.inquired_asc;
    asked_asc = b.asked_asc;
    offered_asc = b.offered_asc;
    served_asc = ∪-asc hs L.served b.served_asc;
    demanded_asc = b.demanded_asc;
    gained_asc = b.gained_asc;
    offered_held = b.offered_held;
    asked_held = b.asked_held;
    served_offered = λ x e. go x (∪-in x hs L.served e);
    gained_demanded = b.gained_demanded;
    demanded_new = b.demanded_new;
    no_shared = b.no_shared;
    few = b.few;
  }
    where
      go : (x : ℕ) → (x ∈ hs) ⊎ (x ∈ L.served) → x ∈ L.offered
      go x (inl e) = h x e
      go x (inr e) = b.served_offered x e

  pub books-asking : (xs : List ℕ) (L : Ledger) → xs ⊆ held_ids derive t L → Books derive t L → Books derive t (asking derive t xs L)
  unfolding held concerned unmet
  books-asking xs L h b = record {
    inquired_asc = b.inquired_asc;
    asked_asc = ∪-asc xs L.asked b.asked_asc;
    offered_asc = ∪-asc (hashes_for derive t L xs) L.offered b.offered_asc;
    served_asc = b.served_asc;
    demanded_asc = b.demanded_asc;
    gained_asc = b.gained_asc;
    offered_held = λ x e. offers x (∪-in x (hashes_for derive t L xs) L.offered e);
    asked_held = λ x e. asks x (∪-in x xs L.asked e);
    served_offered = λ x e. in_∪-r x (hashes_for derive t L xs) L.offered (b.served_offered x e);
    gained_demanded = b.gained_demanded;
    demanded_new = b.demanded_new;
    no_shared = b.no_shared;
    few = b.few;
  }
    where
      offers : (x : ℕ) → (x ∈ hashes_for derive t L xs) ⊎ (x ∈ L.offered) → x ∈ held derive t L
      offers x (inl e) = hashes-held derive t L xs h x e
      offers x (inr e) = b.offered_held x e

      asks : (x : ℕ) → (x ∈ xs) ⊎ (x ∈ L.asked) → x ∈ held_ids derive t L
      asks x (inl e) = h x e
      asks x (inr e) = b.asked_held x e

  pub books-opened : Table derive t → (ours theirs : List ℕ) → ours ⊆ ids_of derive t → count (ids_of derive t ++ theirs) ≤ 4096
      → Books derive t (opened derive t ours theirs no_ledger)
  unfolding held unmet ◌∪◌ minus select
  books-opened g ours theirs h few = record {
    inquired_asc = ∪-asc theirs [] tt;
    asked_asc = tt;
    offered_asc = ∪-asc (hashes_for derive t no_ledger ours) [] tt;
    served_asc = tt;
    demanded_asc = tt;
    gained_asc = tt;
    offered_held = λ x e. hashes-held derive t no_ledger ours h x (∪-nil x (hashes_for derive t no_ledger ours) e);
    asked_held = λ x e. absurd (not_in_nil x e);
    served_offered = λ x e. absurd (not_in_nil x e);
    gained_demanded = λ x e. e;
    demanded_new = λ x e k. not_in_nil x e;
    no_shared = rw (append-nil t) g.no_shared;
    few =
        let L : Ledger = opened derive t ours theirs no_ledger in
        omega (arith, count_le (concerned derive t L) (ids_of derive t ++ theirs) (λ x e. sub x (concerned_in derive t L x e)));
  }
    where
      sub : (x : ℕ) → (x ∈ ids_of derive t) ⊎ ((x ∈ theirs ∪ []) ⊎ (x ∈ ids_of derive [])) → x ∈ ids_of derive t ++ theirs
      sub x (inl e) = in_append-l x (ids_of derive t) theirs e
      sub x (inr (inl e)) = in_append-r x (ids_of derive t) theirs (∪-nil x theirs e)
      sub x (inr (inr e)) = absurd (let (y, p, q) = ids_in_lem derive x [] e in not_in_nil y p)

  -- ---- hashes demanded: new ones, that share no ID

  module _ (hs : List ℕ) (L : Ledger) (apart : Apart hs (held derive t L ++ L.demanded))
      (one : once (ids_of derive (held derive t L ++ L.demanded)) (ids_of derive hs) ≡ true) (b : Books derive t L) where
    demanded-new : Apart (hs ∪ L.demanded) t
    demanded-new x e k = go (∪-in x hs L.demanded e)
      where
        go : (x ∈ hs) ⊎ (x ∈ L.demanded) → ⊥
        go (inl p) = apart x p (in_append-l x (held derive t L) L.demanded (table-held derive t L x k))
        go (inr p) = b.demanded_new x p k

    -- of the table and the demands, each is new or was there
    new_or_old : (x : ℕ) → x ∈ t ++ (hs ∪ L.demanded) → (x ∈ hs) ⊎ (x ∈ t ++ L.demanded)
    new_or_old x e = go (append_in x t (hs ∪ L.demanded) e)
      where
        among : (x ∈ hs) ⊎ (x ∈ L.demanded) → (x ∈ hs) ⊎ (x ∈ t ++ L.demanded)
        among (inl p) = inl p
        among (inr p) = inr (in_append-r x t L.demanded p)

        go : (x ∈ t) ⊎ (x ∈ hs ∪ L.demanded) → (x ∈ hs) ⊎ (x ∈ t ++ L.demanded)
        go (inl p) = inr (in_append-l x t L.demanded p)
        go (inr p) = among (∪-in x hs L.demanded p)

    old_known : (t ++ L.demanded) ⊆ (held derive t L ++ L.demanded)
    old_known x e = go (append_in x t L.demanded e)
      where
        go : (x ∈ t) ⊎ (x ∈ L.demanded) → x ∈ held derive t L ++ L.demanded
        go (inl p) = in_append-l x (held derive t L) L.demanded (table-held derive t L x p)
        go (inr p) = in_append-r x (held derive t L) L.demanded p

    old_other : (x y : ℕ) → derive x ≡ derive y → x ∈ hs → y ∈ t ++ L.demanded → ⊥
    old_other x y e p q =
        let known : List ℕ = held derive t L ++ L.demanded in
        once-apart (ids_of derive known) (ids_of derive hs) one (derive x) (in_ids derive x hs p)
        (subst (λ (z : ℕ). z ∈ ids_of derive known) (sym e) (in_ids derive y known (old_known y q)))

    new-one : (x y : ℕ) → x ∈ hs → y ∈ hs → derive x ≡ derive y → x ≡ y
    unfolding ids_of
    new-one = map-distinct derive hs (once-distinct (map derive (held derive t L ++ L.demanded)) (map derive hs) one)

    none_shared : (x y : ℕ) → x ∈ t ++ (hs ∪ L.demanded) → y ∈ t ++ (hs ∪ L.demanded) → derive x ≡ derive y → x ≡ y
    none_shared x y p q e = go (new_or_old x p) (new_or_old y q)
      where
        go : (x ∈ hs) ⊎ (x ∈ t ++ L.demanded) → (y ∈ hs) ⊎ (y ∈ t ++ L.demanded) → x ≡ y
        go (inl m) (inl n) = new-one x y m n e
        go (inl m) (inr n) = absurd (old_other x y e m n)
        go (inr m) (inl n) = absurd (old_other y x (sym e) n m)
        go (inr m) (inr n) = b.no_shared x y m n e

    concerned-more : concerned derive t (demanding hs L) ⊆ (concerned derive t L ++ ids_of derive hs)
    unfolding held
    concerned-more x e = go (concerned_in derive t (demanding hs L) x e)
      where
        more : List ℕ
        more = concerned derive t L ++ ids_of derive hs

        old : Concerned derive t L x → x ∈ more
        old k = in_append-l x (concerned derive t L) (ids_of derive hs) (in_concerned derive t L x k)

        at : (y : ℕ) → derive y ≡ x → elem y L.gained ≡ false → (y ∈ hs) ⊎ (y ∈ L.demanded) → x ∈ more
        at y q k (inl p) = in_append-r x (concerned derive t L) (ids_of derive hs) (subst (λ (z : ℕ). z ∈ ids_of derive hs) q (in_ids derive y hs p))
        at y q k (inr p) = old (inr (inr (subst (λ (z : ℕ). z ∈ ids_of derive (unmet L)) q (in_ids derive y (unmet L) (in_unmet L y p k)))))

        go : Concerned derive t (demanding hs L) x → x ∈ more
        go (inl k) = old (inl k)
        go (inr (inl k)) = old (inr (inl k))
        go (inr (inr k)) =
            let (y, p, q) = ids_in_lem derive x (unmet (demanding hs L)) k in
            let (d, n) = unmet_in (demanding hs L) y p in
            at y q n (∪-in y hs L.demanded d)

    pub books-demanding : count (concerned derive t L ++ ids_of derive hs) ≤ 4096 → Books derive t (demanding hs L)
    unfolding held
    books-demanding few = record {
      inquired_asc = b.inquired_asc;
      asked_asc = b.asked_asc;
      offered_asc = b.offered_asc;
      served_asc = b.served_asc;
      demanded_asc = ∪-asc hs L.demanded b.demanded_asc;
      gained_asc = b.gained_asc;
      offered_held = b.offered_held;
      asked_held = b.asked_held;
      served_offered = b.served_offered;
      gained_demanded = λ x e. in_∪-r x hs L.demanded (b.gained_demanded x e);
      demanded_new = demanded-new;
      no_shared = none_shared;
      few = omega (arith, count_le (concerned derive t (demanding hs L)) (concerned derive t L ++ ids_of derive hs) concerned-more);
    }

  -- ---- a demand met

  module _ (h : ℕ) (L : Ledger) (u : h ∈ unmet L) (b : Books derive t L) where
    pub held_more : held derive t L ⊆ held derive t (gaining h L)
    held_more x e = go (held_in derive t L x e)
      where
        go : (x ∈ L.gained) ⊎ (x ∈ t) → x ∈ held derive t (gaining h L)
        go (inl p) = gained-held derive t (gaining h L) x (in_insert x h L.gained p)
        go (inr p) = table-held derive t (gaining h L) x p

    concerned-same : concerned derive t (gaining h L) ⊆ concerned derive t L
    concerned-same x e = go (concerned_in derive t (gaining h L) x e)
      where
        here : (y : ℕ) → derive y ≡ x → y ∈ held derive t L → x ∈ concerned derive t L
        here y q p = in_concerned derive t L x (inl (subst (λ (z : ℕ). z ∈ held_ids derive t L) q (in_ids derive y (held derive t L) p)))

        new : (y : ℕ) → derive y ≡ x → (y ≡ h) ⊎ (y ∈ L.gained) → x ∈ concerned derive t L
        new y q (inl p) =
            in_concerned derive t L x
            (inr (inr (subst (λ (z : ℕ). z ∈ ids_of derive (unmet L)) (ap derive (sym p) ∙ q) (in_ids derive h (unmet L) u))))
        new y q (inr p) = here y q (gained-held derive t L y p)

        at : (y : ℕ) → derive y ≡ x → (y ∈ insert h L.gained) ⊎ (y ∈ t) → x ∈ concerned derive t L
        at y q (inl p) = new y q (insert_in y h L.gained p)
        at y q (inr p) = here y q (table-held derive t L y p)

        fewer : unmet (gaining h L) ⊆ unmet L
        fewer y k =
            let (d, n) = unmet_in (gaining h L) y k in
            in_unmet L y d (not_in y L.gained (λ p. clash (in_insert y h L.gained p) n))

        go : Concerned derive t (gaining h L) x → x ∈ concerned derive t L
        go (inl k) = let (y, p, q) = ids_in_lem derive x (held derive t (gaining h L)) k in at y q (held_in derive t (gaining h L) y p)
        go (inr (inl k)) = in_concerned derive t L x (inr (inl k))
        go (inr (inr k)) = in_concerned derive t L x (inr (inr (ids-part derive (unmet (gaining h L)) (unmet L) fewer x k)))

    pub books-gaining : Books derive t (gaining h L)
    books-gaining = record {
      inquired_asc = b.inquired_asc;
      asked_asc = b.asked_asc;
      offered_asc = b.offered_asc;
      served_asc = b.served_asc;
      demanded_asc = b.demanded_asc;
      gained_asc = insert-asc h L.gained b.gained_asc;
      offered_held = λ x e. held_more x (b.offered_held x e);
      asked_held = λ x e. ids-part derive (held derive t L) (held derive t (gaining h L)) held_more x (b.asked_held x e);
      served_offered = b.served_offered;
      gained_demanded = λ x e. met x (insert_in x h L.gained e);
      demanded_new = b.demanded_new;
      no_shared = b.no_shared;
      few = omega (arith, b.few, count_le (concerned derive t (gaining h L)) (concerned derive t L) concerned-same);
    }
      where
        met : (x : ℕ) → (x ≡ h) ⊎ (x ∈ L.gained) → x ∈ L.demanded
        met x (inl p) = subst (λ (z : ℕ). z ∈ L.demanded) (sym p) (unmet_in L h u).0
        met x (inr p) = b.gained_demanded x p

  -- ---- an unmet demand is not held, not even by its ID

  pub unmet_lacking : (L : Ledger) → Books derive t L → (x : ℕ) → x ∈ unmet L → derive x ∈ held_ids derive t L → ⊥
  unmet_lacking L b x u k = let (y, p, q) = ids_in_lem derive (derive x) (held derive t L) k in go y q (held_in derive t L y p)
    where
      same : (y : ℕ) → derive y ≡ derive x → y ∈ t ++ L.demanded → y ≡ x
      same y q m = b.no_shared y x m (in_append-r x t L.demanded (unmet_in L x u).0) q

      go : (y : ℕ) → derive y ≡ derive x → (y ∈ L.gained) ⊎ (y ∈ t) → ⊥
      go y q (inl p) =
          clash (subst (λ (z : ℕ). z ∈ L.gained) (same y q (in_append-r y t L.demanded (b.gained_demanded y p))) p) (unmet_in L x u).1
      go y q (inr p) = b.demanded_new x (unmet_in L x u).0 (subst (λ (z : ℕ). z ∈ t) (same y q (in_append-l y t L.demanded p)) p)
