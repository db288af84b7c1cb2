-- Where a ledger's elements have their marks: the place of an ID and of a hash, which hash stands there, which bits its mark has, and what one
-- mark changed makes of the memory. Marks are those of a ledger laid over memory (LaidLaws.laid_marks). Assumes nothing.
--
--   Ordered                             table and demanded hashes ascend, by hashes and by IDs, and have room
--   spot x, known h                     whose ID it is, and which hash
--   held_at, hash-there, asked-at       at the place of an ID: whether it is held; of one that is, its hash, and whether it was asked
--   ask_set                             an INQUIRY's mark
--   serve_test, serve_set               a DEMAND's test and mark
--   unmet_test, gain_set                an ELEMENT's
use mathlib.Core.Path.{◌≡◌, refl, sym, ap, ap₂, subst, ◌∙◌}
use mathlib.Core.Logic.{◌⊎◌, inl, inr}
use mathlib.Core.Bool.{Bool, true, false, not, ◌&&◌, cond}
use mathlib.Core.List.{List, [], ◌∷◌, ◌++◌, map}
use Prim.Native.Nat.{ℕ, ◌+◌, ◌-◌, ◌*◌, ◌/◌, ◌≤◌, ◌<◌}
use native.Mathlib.Omega.{arith}
use lib.Dec.{eqb, ltb, leb}
use lib.ListN.{length, get_or, set}
use borrow.Author.Tests.{eq-eqb, ne_eqb, lt-ltb, le-ltb, le-leb, lt-leb}
use Rattle.bucket.specs.Lists.{elem}
use Rattle.filter.specs.Table.{position, holds}
use Rattle.filter.proofs.BisectLaws.{held as held-in-order}
use Rattle.filter.proofs.OrderLaws.{same_test}
use Rattle.ledger.specs.Session.{Ledger, unmet, hash_of, held, held_ids, asking, serving, gaining}
use Rattle.ledger.specs.Memory.{is_asked, is_offered, is_served, is_met, mark_of, flag_of}
use Rattle.session.specs.Moves.{place_of, is_held_at, hash_at_place, place_of_hash}
use Rattle.filter.proofs.SetLaws.{◌∈◌, clash, not_in, in_append-l, in_append-r, Asc, of_asc}
use Rattle.filter.proofs.ListLaws.{in_map, map_in}
use Rattle.ledger.proofs.BookLaws.{Books}
use Rattle.ledger.proofs.HeldLaws.{in_ids, ids_in_lem, hash_of_lem, held_in, gained-held, table-held, in_unmet, unmet_in}
use Rattle.ledger.proofs.MemoryLaws.{held-known, mark_of_asked, mark_of_offered, mark_of_served, flag_of_asked, flag_of_offered, flag_of_served, flag_of_met}
use Rattle.ledger.proofs.PointLaws.{position-within, position_at, position-map}
use Rattle.session.proofs.PlaceLaws.{place-first, place_second, place_none, held_first, held_second, held_none}
use Rattle.ledger.proofs.ActLaws.{marks-asking, flags-asking-table, flags-asking, marks-asking_record, marks-serving, flags-serving-table, flags-serving, marks-serving_record, marks-gaining, flags-gaining}
use Rattle.ledger.proofs.LaidLaws.{laid_marks, laid_table, laid-known, change-table, change-known}

pub record Ordered (derive : ℕ → ℕ) (t : List ℕ) (L : Ledger) : Type 0 where
  pub books : Books derive t L
  pub asc : Asc t
  pub ids : Asc (map derive t)
  pub known_ids : Asc (map derive L.demanded)
  pub few : length t ≤ 4096
  pub known_few : length L.demanded ≤ 4096

module _ (derive : ℕ → ℕ) (t : List ℕ) (L : Ledger) (o : Ordered derive t L) where
  -- ---- the place of an ID

  abbrev place_of_id : ℕ → ℕ
  place_of_id x = place_of (map derive t) (map derive L.demanded) x

  -- no demanded hash has an ID of the table
  apart-ids : (h : ℕ) → h ∈ L.demanded → derive h ∈ map derive t → ⊥
  apart-ids h e k =
      let (y, p, q) = map_in derive (derive h) t k in
      o.books.demanded_new h e (subst (λ (z : ℕ). z ∈ t) (o.books.no_shared y h (in_append-l y t L.demanded p) (in_append-r h t L.demanded e) q) p)

  held_in_table : (x : ℕ) → holds (map derive t) x ≡ elem x (map derive t)
  held_in_table x = held-in-order (map derive t) x (of_asc (map derive t) o.ids)

  in_known : (x : ℕ) → holds (map derive L.demanded) x ≡ elem x (map derive L.demanded)
  in_known x = held-in-order (map derive L.demanded) x (of_asc (map derive L.demanded) o.known_ids)

  pub place-table : (h : ℕ) → h ∈ t → place_of_id (derive h) ≡ position t h
  place-table h e =
      sym (place-first (map derive t) (map derive L.demanded) (derive h) (held_in_table (derive h) ∙ in_map derive h t e)
      (sym (position-map derive t h o.asc o.ids e)))

  pub place-known : (h : ℕ) → h ∈ L.demanded → place_of_id (derive h) ≡ 4096 + position L.demanded h
  place-known h e =
      sym (place_second (map derive t) (map derive L.demanded) (derive h)
      (held_in_table (derive h) ∙ not_in (derive h) (map derive t) (apart-ids h e))
      (in_known (derive h) ∙ in_map derive h L.demanded e)
      (sym (position-map derive L.demanded h o.books.demanded_asc o.known_ids e)))

  pub place-nowhere : (x : ℕ) → elem x (map derive t) ≡ false → elem x (map derive L.demanded) ≡ false → place_of_id x ≡ 8192
  place-nowhere x p q = sym (place_none (map derive t) (map derive L.demanded) x (held_in_table x ∙ p) (in_known x ∙ q))

  -- whose ID it is
  pub data Spot (x : ℕ) : Type 0 where
    tabled : (h : ℕ) → h ∈ t → derive h ≡ x → Spot x
    wanted : (h : ℕ) → h ∈ L.demanded → derive h ≡ x → Spot x
    nowhere : elem x (map derive t) ≡ false → elem x (map derive L.demanded) ≡ false → Spot x

  pub spot : (x : ℕ) → Spot x
  spot x = go (elem x (map derive t)) refl (elem x (map derive L.demanded)) refl
    where
      go : (a : Bool) → elem x (map derive t) ≡ a → (b : Bool) → elem x (map derive L.demanded) ≡ b → Spot x
      go true p b q = let (h, m, e) = map_in derive x t p in tabled h m e
      go false p true q = let (h, m, e) = map_in derive x L.demanded q in wanted h m e
      go false p false q = nowhere p q

  -- ---- the hash at a place

  low : (h : ℕ) → h ∈ t → position t h < 4096
  low h e = omega (arith, position-within t h o.asc e, o.few)

  high : (h : ℕ) → h ∈ L.demanded → 4096 + position L.demanded h < 8192
  high h e = omega (arith, position-within L.demanded h o.books.demanded_asc e, o.known_few)

  pub hash-at-table : (h : ℕ) → h ∈ t → hash_at_place t L.demanded (position t h) ≡ h
  unfolding hash_at_place
  hash-at-table h e =
      ap (λ (b : Bool). cond b (get_or t (position t h) 0) (get_or L.demanded (position t h - 4096) 0)) (lt-ltb (position t h) 4096 (low h e))
      ∙ position_at t h o.asc e

  pub hash-at-known : (h : ℕ) → h ∈ L.demanded → hash_at_place t L.demanded (4096 + position L.demanded h) ≡ h
  unfolding hash_at_place
  hash-at-known h e =
      let p : ℕ = position L.demanded h in
      let back : 4096 + p - 4096 ≡ p = omega arith in
      ap (λ (b : Bool). cond b (get_or t (4096 + p) 0) (get_or L.demanded (4096 + p - 4096) 0)) (le-ltb (4096 + p) 4096 (omega arith))
      ∙ ap (λ (n : ℕ). get_or L.demanded n 0) back
      ∙ position_at L.demanded h o.books.demanded_asc e

  -- ---- the place of a hash

  abbrev place_of' : ℕ → ℕ
  place_of' h = place_of_hash derive t L.demanded h

  by_tests : (h p : ℕ) (a b : Bool) → place_of_id (derive h) ≡ p → ltb p 8192 ≡ a → eqb (hash_at_place t L.demanded p) h ≡ b
      → place_of' h ≡ cond a (cond b p 8192) 8192
  unfolding place_of_hash
  by_tests h p a b is e f =
      ap (λ (q : ℕ). cond (ltb q 8192) (cond (eqb (hash_at_place t L.demanded q) h) q 8192) 8192) is
      ∙ ap₂ (λ (a b : Bool). cond a (cond b p 8192) 8192) e f

  pub hash-place-table : (h : ℕ) → h ∈ t → place_of' h ≡ position t h
  hash-place-table h e =
      by_tests h (position t h) true true (place-table h e) (lt-ltb (position t h) 8192 (omega (arith, low h e)))
      (eq-eqb (hash_at_place t L.demanded (position t h)) h (hash-at-table h e))

  pub hash-place-known : (h : ℕ) → h ∈ L.demanded → place_of' h ≡ 4096 + position L.demanded h
  hash-place-known h e =
      by_tests h (4096 + position L.demanded h) true true (place-known h e) (lt-ltb (4096 + position L.demanded h) 8192 (high h e))
      (eq-eqb (hash_at_place t L.demanded (4096 + position L.demanded h)) h (hash-at-known h e))

  -- a hash of which there is none, though its ID may be another's
  pub hash-place-nowhere : (h : ℕ) → elem h t ≡ false → elem h L.demanded ≡ false → place_of' h ≡ 8192
  hash-place-nowhere h off out = go (spot (derive h))
    where
      go : Spot (derive h) → place_of' h ≡ 8192
      go (tabled k e q) =
          by_tests h (position t k) true false (ap place_of_id (sym q) ∙ place-table k e) (lt-ltb (position t k) 8192 (omega (arith, low k e)))
          (ne_eqb (hash_at_place t L.demanded (position t k)) h (λ p. clash (subst (λ (z : ℕ). z ∈ t) (sym (hash-at-table k e) ∙ p) e) off))
      go (wanted k e q) =
          by_tests h (4096 + position L.demanded k) true false (ap place_of_id (sym q) ∙ place-known k e) (lt-ltb (4096 + position L.demanded k) 8192 (high k e))
          (ne_eqb (hash_at_place t L.demanded (4096 + position L.demanded k)) h (λ p. clash (subst (λ (z : ℕ). z ∈ L.demanded) (sym (hash-at-known k e) ∙ p) e) out))
      go (nowhere p q) = by_tests h 8192 false _ (place-nowhere (derive h) p q) (le-ltb 8192 8192 (omega arith)) refl

  -- which it is
  pub data Known (h : ℕ) : Type 0 where
    in_table : h ∈ t → Known h
    in_demanded : h ∈ L.demanded → Known h
    in_neither : elem h t ≡ false → elem h L.demanded ≡ false → Known h

  pub known : (h : ℕ) → Known h
  known h = go (elem h t) refl (elem h L.demanded) refl
    where
      go : (a : Bool) → elem h t ≡ a → (b : Bool) → elem h L.demanded ≡ b → Known h
      go true p b q = in_table p
      go false p true q = in_demanded q
      go false p false q = in_neither p q

  -- ---- marks

  module _ (M : List ℕ) (room : 8192 ≤ length M) where
    mark-at : (h : ℕ) → h ∈ t → get_or (laid_marks derive t L M) (position t h) 0 ≡ mark_of derive t L h
    mark-at h e = laid_table derive t L M o.few o.known_few room h o.asc e

    flag_at : (h : ℕ) → h ∈ L.demanded → get_or (laid_marks derive t L M) (4096 + position L.demanded h) 0 ≡ flag_of derive t L h
    flag_at h e = laid-known derive t L M o.few o.known_few room h o.books.demanded_asc e

    -- a demanded hash is held exactly if it is met
    met-held : (h : ℕ) → h ∈ L.demanded → elem h L.gained ≡ elem (derive h) (held_ids derive t L)
    met-held h e =
        same_test (elem h L.gained) (elem (derive h) (held_ids derive t L))
        (λ g. in_ids derive h (held derive t L) (gained-held derive t L h g))
        (λ k. let (y, p, q) = ids_in_lem derive (derive h) (held derive t L) k in at y q (held_in derive t L y p))
      where
        known : (y : ℕ) → (y ∈ L.gained) ⊎ (y ∈ t) → y ∈ t ++ L.demanded
        known y (inl g) = in_append-r y t L.demanded (o.books.gained_demanded y g)
        known y (inr g) = in_append-l y t L.demanded g

        at : (y : ℕ) → derive y ≡ derive h → (y ∈ L.gained) ⊎ (y ∈ t) → h ∈ L.gained
        at y q (inl g) = subst (λ (z : ℕ). z ∈ L.gained) (o.books.no_shared y h (known y (inl g)) (in_append-r h t L.demanded e) q) g
        at y q (inr g) = absurd (apart-ids h e (subst (λ (z : ℕ). z ∈ map derive t) q (in_map derive y t g)))

    pub held_at : (x : ℕ) → is_held_at (laid_marks derive t L M) (place_of_id x) ≡ elem x (held_ids derive t L)
    held_at x = go (spot x)
      where
        go : Spot x → is_held_at (laid_marks derive t L M) (place_of_id x) ≡ elem x (held_ids derive t L)
        go (tabled h e q) =
            ap (is_held_at (laid_marks derive t L M)) (ap place_of_id (sym q) ∙ place-table h e)
            ∙ sym (held_first (laid_marks derive t L M) (position t h) (low h e))
            ∙ sym (subst (λ (z : ℕ). z ∈ held_ids derive t L) q (in_ids derive h (held derive t L) (table-held derive t L h e)))
        go (wanted h e q) =
            ap (is_held_at (laid_marks derive t L M)) (ap place_of_id (sym q) ∙ place-known h e)
            ∙ sym (held_second (laid_marks derive t L M) (4096 + position L.demanded h) (omega arith) (high h e))
            ∙ ap is_met (flag_at h e)
            ∙ flag_of_met derive t L h
            ∙ met-held h e
            ∙ ap (λ (z : ℕ). elem z (held_ids derive t L)) q
        go (nowhere p q) =
            ap (is_held_at (laid_marks derive t L M)) (place-nowhere x p q)
            ∙ sym (held_none (laid_marks derive t L M) 8192 (omega arith) (omega arith))
            ∙ sym (not_in x (held_ids derive t L) (λ k. lacks (ids_in_lem derive x (held derive t L) k)))
          where
            lacks : (y : ℕ) × (y ∈ held derive t L) × (derive y ≡ x) → ⊥
            lacks (y, m, r) = at (held-known derive t L o.books y m)
              where
                at : (y ∈ t) ⊎ (y ∈ L.demanded) → ⊥
                at (inl k) = clash (subst (λ (z : ℕ). z ∈ map derive t) r (in_map derive y t k)) p
                at (inr k) = clash (subst (λ (z : ℕ). z ∈ map derive L.demanded) r (in_map derive y L.demanded k)) q

    -- ---- of an ID that is held

    module _ (x : ℕ) (e : x ∈ held_ids derive t L) where
      abbrev is : ℕ
      is = hash_of derive (held derive t L) x

      is_id : derive is ≡ x
      is_id = (hash_of_lem derive (held derive t L) x e).1

      is_known : (is ∈ t) ⊎ (is ∈ L.demanded)
      is_known = held-known derive t L o.books is (hash_of_lem derive (held derive t L) x e).0

      at_table : is ∈ t → place_of_id x ≡ position t is
      at_table k = ap place_of_id (sym is_id) ∙ place-table is k

      at-known : is ∈ L.demanded → place_of_id x ≡ 4096 + position L.demanded is
      at-known k = ap place_of_id (sym is_id) ∙ place-known is k

      pub hash-there : hash_at_place t L.demanded (place_of_id x) ≡ is
      hash-there = go is_known
        where
          go : (is ∈ t) ⊎ (is ∈ L.demanded) → hash_at_place t L.demanded (place_of_id x) ≡ is
          go (inl k) = ap (hash_at_place t L.demanded) (at_table k) ∙ hash-at-table is k
          go (inr k) = ap (hash_at_place t L.demanded) (at-known k) ∙ hash-at-known is k

      pub asked-at : is_asked (get_or (laid_marks derive t L M) (place_of_id x) 0) ≡ elem x L.asked
      asked-at = go is_known ∙ ap (λ (z : ℕ). elem z L.asked) is_id
        where
          go : (is ∈ t) ⊎ (is ∈ L.demanded) → is_asked (get_or (laid_marks derive t L M) (place_of_id x) 0) ≡ elem (derive is) L.asked
          go (inl k) =
              ap (λ (p : ℕ). is_asked (get_or (laid_marks derive t L M) p 0)) (at_table k) ∙ ap is_asked (mark-at is k) ∙ mark_of_asked derive t L is
          go (inr k) =
              ap (λ (p : ℕ). is_asked (get_or (laid_marks derive t L M) p 0)) (at-known k) ∙ ap is_asked (flag_at is k) ∙ flag_of_asked derive t L is

      -- it is asked
      pub ask_set : set (laid_marks derive t L M) (place_of_id x) (get_or (laid_marks derive t L M) (place_of_id x) 0 / 4 * 4 + 3) ≡ laid_marks derive t (asking derive t (x ∷ []) L) M
      ask_set = go is_known
        where
          asked : Ledger
          asked = asking derive t (x ∷ []) L

          go : (is ∈ t) ⊎ (is ∈ L.demanded)
              → set (laid_marks derive t L M) (place_of_id x) (get_or (laid_marks derive t L M) (place_of_id x) 0 / 4 * 4 + 3) ≡ laid_marks derive t asked M
          go (inl k) =
              ap (λ (p : ℕ). set (laid_marks derive t L M) p (get_or (laid_marks derive t L M) p 0 / 4 * 4 + 3)) (at_table k)
              ∙ change-table derive t L M o.few o.known_few room is o.asc k asked (λ m. m / 4 * 4 + 3)
              (marks-asking derive t L o.books x is e refl o.asc k) (flags-asking-table derive t L o.books x is e refl k)
          go (inr k) =
              ap (λ (p : ℕ). set (laid_marks derive t L M) p (get_or (laid_marks derive t L M) p 0 / 4 * 4 + 3)) (at-known k)
              ∙ change-known derive t L M o.few o.known_few room is o.books.demanded_asc k asked (λ m. m / 4 * 4 + 3)
              (flags-asking derive t L o.books x is e refl k) (marks-asking_record derive t L o.books x is e refl k)

    -- ---- of a hash

    module _ (h p m : ℕ) (is : place_of' h ≡ p) (there : get_or (laid_marks derive t L M) p 0 ≡ m) where
      serve_there : p < 8192
          → ltb (place_of' h) 8192 && (is_offered (get_or (laid_marks derive t L M) (place_of' h) 0) && not (is_served (get_or (laid_marks derive t L M) (place_of' h) 0)))
          ≡ is_offered m && not (is_served m)
      serve_there l =
          ap (λ (q : ℕ). ltb q 8192 && (is_offered (get_or (laid_marks derive t L M) q 0) && not (is_served (get_or (laid_marks derive t L M) q 0)))) is
          ∙ ap₂ (λ (b : Bool) (v : ℕ). b && (is_offered v && not (is_served v))) (lt-ltb p 8192 l) there

      unmet-there : leb 4096 (place_of' h) && (ltb (place_of' h) 8192 && not (is_met (get_or (laid_marks derive t L M) (place_of' h) 0)))
          ≡ leb 4096 p && (ltb p 8192 && not (is_met m))
      unmet-there =
          ap (λ (q : ℕ). leb 4096 q && (ltb q 8192 && not (is_met (get_or (laid_marks derive t L M) q 0)))) is
          ∙ ap (λ (v : ℕ). leb 4096 p && (ltb p 8192 && not (is_met v))) there

    -- DEMAND: it was offered and not served yet
    pub serve_test : (h : ℕ)
        → ltb (place_of' h) 8192 && (is_offered (get_or (laid_marks derive t L M) (place_of' h) 0) && not (is_served (get_or (laid_marks derive t L M) (place_of' h) 0)))
        ≡ elem h L.offered && not (elem h L.served)
    serve_test h = go (known h)
      where
        go : Known h
            → ltb (place_of' h) 8192 && (is_offered (get_or (laid_marks derive t L M) (place_of' h) 0) && not (is_served (get_or (laid_marks derive t L M) (place_of' h) 0)))
            ≡ elem h L.offered && not (elem h L.served)
        go (in_table e) =
            serve_there h (position t h) (mark_of derive t L h) (hash-place-table h e) (mark-at h e) (omega (arith, low h e))
            ∙ ap₂ (λ (a b : Bool). a && not b) (mark_of_offered derive t L h) (mark_of_served derive t L h)
        go (in_demanded e) =
            serve_there h (4096 + position L.demanded h) (flag_of derive t L h) (hash-place-known h e) (flag_at h e) (high h e)
            ∙ ap₂ (λ (a b : Bool). a && not b) (flag_of_offered derive t L h) (flag_of_served derive t L h)
        go (in_neither p q) =
            ap (λ (n : ℕ). ltb n 8192 && (is_offered (get_or (laid_marks derive t L M) n 0) && not (is_served (get_or (laid_marks derive t L M) n 0)))) (hash-place-nowhere h p q)
            ∙ sym (ap (λ (b : Bool). b && not (elem h L.served)) (not_in h L.offered (λ k. lacks (held-known derive t L o.books h (o.books.offered_held h k)))))
          where
            lacks : (h ∈ t) ⊎ (h ∈ L.demanded) → ⊥
            lacks (inl k) = clash k p
            lacks (inr k) = clash k q

    pub serve_set : (h : ℕ) → h ∈ L.offered → elem h L.served ≡ false
        → set (laid_marks derive t L M) (place_of' h) (get_or (laid_marks derive t L M) (place_of' h) 0 + 4) ≡ laid_marks derive t (serving (h ∷ []) L) M
    serve_set h offered new = go (held-known derive t L o.books h (o.books.offered_held h offered))
      where
        go : (h ∈ t) ⊎ (h ∈ L.demanded)
            → set (laid_marks derive t L M) (place_of' h) (get_or (laid_marks derive t L M) (place_of' h) 0 + 4) ≡ laid_marks derive t (serving (h ∷ []) L) M
        go (inl k) =
            ap (λ (p : ℕ). set (laid_marks derive t L M) p (get_or (laid_marks derive t L M) p 0 + 4)) (hash-place-table h k)
            ∙ change-table derive t L M o.few o.known_few room h o.asc k (serving (h ∷ []) L) (λ m. m + 4)
            (marks-serving derive t L o.books h o.asc k new) (flags-serving-table derive t L o.books h k)
        go (inr k) =
            ap (λ (p : ℕ). set (laid_marks derive t L M) p (get_or (laid_marks derive t L M) p 0 + 4)) (hash-place-known h k)
            ∙ change-known derive t L M o.few o.known_few room h o.books.demanded_asc k (serving (h ∷ []) L) (λ m. m + 4)
            (flags-serving derive t L o.books h k new) (marks-serving_record derive t L o.books h k)

    -- ELEMENT: it is an unmet demand
    pub unmet_test : (h : ℕ)
        → leb 4096 (place_of' h) && (ltb (place_of' h) 8192 && not (is_met (get_or (laid_marks derive t L M) (place_of' h) 0))) ≡ elem h (unmet L)
    unmet_test h = go (known h)
      where
        go : Known h → leb 4096 (place_of' h) && (ltb (place_of' h) 8192 && not (is_met (get_or (laid_marks derive t L M) (place_of' h) 0))) ≡ elem h (unmet L)
        go (in_table e) =
            unmet-there h (position t h) (mark_of derive t L h) (hash-place-table h e) (mark-at h e)
            ∙ ap (λ (b : Bool). b && (ltb (position t h) 8192 && not (is_met (mark_of derive t L h)))) (lt-leb 4096 (position t h) (low h e))
            ∙ sym (not_in h (unmet L) (λ u. o.books.demanded_new h (unmet_in L h u).0 e))
        go (in_demanded e) =
            unmet-there h (4096 + position L.demanded h) (flag_of derive t L h) (hash-place-known h e) (flag_at h e)
            ∙ ap₂ (λ (a b : Bool). a && (b && not (is_met (flag_of derive t L h)))) (le-leb 4096 (4096 + position L.demanded h) (omega arith)) (lt-ltb (4096 + position L.demanded h) 8192 (high h e))
            ∙ ap not (flag_of_met derive t L h)
            ∙ sym (left (elem h L.gained) refl)
          where
            left : (b : Bool) → elem h L.gained ≡ b → elem h (unmet L) ≡ not b
            left true g = not_in h (unmet L) (λ u. clash g (unmet_in L h u).1)
            left false g = in_unmet L h e g
        go (in_neither p q) =
            ap (λ (n : ℕ). leb 4096 n && (ltb n 8192 && not (is_met (get_or (laid_marks derive t L M) n 0)))) (hash-place-nowhere h p q)
            ∙ sym (not_in h (unmet L) (λ u. clash (unmet_in L h u).0 q))

    pub gain_set : (h : ℕ) → h ∈ unmet L → set (laid_marks derive t L M) (place_of' h) 8 ≡ laid_marks derive t (gaining h L) M
    gain_set h u =
        ap (λ (p : ℕ). set (laid_marks derive t L M) p 8) (hash-place-known h (unmet_in L h u).0)
        ∙ change-known derive t L M o.few o.known_few room h o.books.demanded_asc (unmet_in L h u).0 (gaining h L) (λ m. 8)
        (flags-gaining derive t L o.books h u) (marks-gaining derive t L o.books h)
