-- What is held, wanted and unmet, by its members: hashes, and the IDs of hashes.
--
--   in_ids, ids_in_lem, ids-part        members of the IDs of hashes; ids-distinct, ids-apart, ids-count: where no two share an ID, and how many
--   hash_of_lem, hashes_in_lem, ..          the hashes with IDs of a list
--   in_unmet, held_in, ..           members of what a ledger says
--
-- Assumes nothing.
use mathlib.Core.Path.{◌≡◌, sym, ap, subst, ◌∙◌, ap₂, refl}
use mathlib.Core.Logic.{◌⊎◌, inl, inr}
use mathlib.Core.Bool.{Bool, true, false, cond}
use mathlib.Core.List.{List, [], ◌∷◌, ◌++◌, map}
use Prim.Native.Nat.{ℕ, ◌≤◌}
use native.Mathlib.Omega.{arith}
use lib.Dec.{eqb}
use lib.ListN.{length, length-map}
use borrow.Author.Tests.{eqb-true, eq-eqb}
use Rattle.bucket.specs.Lists.{elem, Distinct}
use Rattle.bucket.proofs.ListLaws.{elem-head, elem_tail}
use Rattle.ledger.specs.Session.{Ledger, unmet, ids_of, hash_of, held, held_ids, concerned, hashes_for}
use Rattle.filter.proofs.SetLaws.{◌∈◌, ◌⊆◌, clash, not_in_nil, in_cons, in_append-l, in_append-r, append_in, in_∪-l, in_∪-r, ∪-in, in_∖, ∖-in}
use Rattle.filter.specs.Sets.{count}
use Rattle.filter.proofs.ListLaws.{Apart, in_map, map_in, distinct-map, count_le, count-length}

module _ (derive : ℕ → ℕ) where
  -- ---- IDs of hashes

  pub in_ids : (h : ℕ) (l : List ℕ) → h ∈ l → derive h ∈ ids_of derive l
  unfolding ids_of
  in_ids h l e = in_map derive h l e

  pub ids_in_lem : (x : ℕ) (l : List ℕ) → x ∈ ids_of derive l → (h : ℕ) × (h ∈ l) × (derive h ≡ x)
  unfolding ids_of
  ids_in_lem x l e = map_in derive x l e

  pub ids-part : (l m : List ℕ) → l ⊆ m → ids_of derive l ⊆ ids_of derive m
  ids-part l m h x e = let (y, p, q) = ids_in_lem x l e in subst (λ (z : ℕ). z ∈ ids_of derive m) q (in_ids y m (h y p))

  -- where no two of them share an ID
  pub ids-distinct : (l : List ℕ) → ((x y : ℕ) → x ∈ l → y ∈ l → derive x ≡ derive y → x ≡ y) → Distinct l → Distinct (ids_of derive l)
  unfolding ids_of
  ids-distinct l no_shared d = distinct-map derive l no_shared d

  pub ids-apart : (l m : List ℕ) → ((x y : ℕ) → x ∈ l → y ∈ m → derive x ≡ derive y → x ≡ y) → Apart l m → Apart (ids_of derive l) (ids_of derive m)
  ids-apart l m no_shared a i e k =
      let (x, xl, xe) = ids_in_lem i l e in
      let (y, ym, ye) = ids_in_lem i m k in
      a x xl (subst (λ (z : ℕ). z ∈ m) (sym (no_shared x y xl ym (xe ∙ sym ye))) ym)

  -- no more different ones than hashes
  pub ids-count : (l m : List ℕ) → l ⊆ ids_of derive m → count l ≤ length m
  unfolding ids_of
  ids-count l m h = omega (arith, count_le l (map derive m) h, count-length (map derive m), length-map m derive)

  -- ---- the hash with an ID

  pub hash_of_lem : (l : List ℕ) (x : ℕ) → x ∈ ids_of derive l → (hash_of derive l x ∈ l) × (derive (hash_of derive l x) ≡ x)
  unfolding ids_of hash_of
  hash_of_lem [] x h = absurd (not_in_nil x h)
  hash_of_lem (a ∷ l) x h = go (eqb (derive a) x) refl (in_cons x (derive a) (ids_of derive l) h) (hash_of_lem l x)
    where
      go : (b : Bool) → eqb (derive a) x ≡ b → (x ≡ derive a) ⊎ (x ∈ ids_of derive l)
          → (x ∈ ids_of derive l → (hash_of derive l x ∈ l) × (derive (hash_of derive l x) ≡ x))
          → (cond b a (hash_of derive l x) ∈ a ∷ l) × (derive (cond b a (hash_of derive l x)) ≡ x)
      go true e p ih = (elem-head a l, eqb-true (derive a) x e)
      go false e (inl p) ih = absurd (clash (eq-eqb (derive a) x (sym p)) e)
      go false e (inr p) ih = (elem_tail (hash_of derive l x) a l (ih p).0, (ih p).1)

  -- the hashes with IDs of a list: their IDs are the IDs, they stand in the list, and none stands twice
  module _ (l xs : List ℕ) (has : xs ⊆ ids_of derive l) where
    pub hashes-ids : ids_of derive (map (hash_of derive l) xs) ≡ xs
    unfolding ids_of
    hashes-ids = go xs has
      where
        go : (ys : List ℕ) → ys ⊆ map derive l → map derive (map (hash_of derive l) ys) ≡ ys
        go [] h = refl
        go (y ∷ ys) h = ap₂ {C = List ℕ} ◌∷◌ (hash_of_lem l y (h y (elem-head y ys))).1 (go ys (λ x e. h x (elem_tail x y ys e)))

    pub hashes_in_lem : map (hash_of derive l) xs ⊆ l
    hashes_in_lem h e = let (x, m, p) = map_in (hash_of derive l) h xs e in subst (λ (z : ℕ). z ∈ l) p (hash_of_lem l x (has x m)).0

    pub hashes-distinct : Distinct xs → Distinct (map (hash_of derive l) xs)
    hashes-distinct d =
        distinct-map (hash_of derive l) xs
        (λ x y p q e. sym (hash_of_lem l x (has x p)).1 ∙ ap derive e ∙ (hash_of_lem l y (has y q)).1) d

-- ---- of a ledger

pub in_unmet : (L : Ledger) (h : ℕ) → h ∈ L.demanded → elem h L.gained ≡ false → h ∈ unmet L
unfolding unmet
in_unmet L h p q = in_∖ h L.demanded L.gained p q

pub unmet_in : (L : Ledger) (h : ℕ) → h ∈ unmet L → (h ∈ L.demanded) × (elem h L.gained ≡ false)
unfolding unmet
unmet_in L h e = ∖-in h L.demanded L.gained e

module _ (derive : ℕ → ℕ) (t : List ℕ) where
  pub held_in : (L : Ledger) (h : ℕ) → h ∈ held derive t L → (h ∈ L.gained) ⊎ (h ∈ t)
  unfolding held
  held_in L h e = ∪-in h L.gained t e

  pub gained-held : (L : Ledger) (h : ℕ) → h ∈ L.gained → h ∈ held derive t L
  unfolding held
  gained-held L h e = in_∪-l h L.gained t e

  pub table-held : (L : Ledger) (h : ℕ) → h ∈ t → h ∈ held derive t L
  unfolding held
  table-held L h e = in_∪-r h L.gained t e

  pub hashes-held : (L : Ledger) (xs : List ℕ) → xs ⊆ held_ids derive t L → hashes_for derive t L xs ⊆ held derive t L
  unfolding hashes_for
  hashes-held L xs h = hashes_in_lem derive (held derive t L) xs h

  abbrev pub Concerned : Ledger → ℕ → Type 0
  Concerned L x = (x ∈ held_ids derive t L) ⊎ ((x ∈ L.inquired) ⊎ (x ∈ ids_of derive (unmet L)))

  pub in_concerned : (L : Ledger) (x : ℕ) → Concerned L x → x ∈ concerned derive t L
  unfolding concerned
  in_concerned L x (inl e) = in_append-l x (held_ids derive t L) (L.inquired ++ ids_of derive (unmet L)) e
  in_concerned L x (inr (inl e)) =
      in_append-r x (held_ids derive t L) (L.inquired ++ ids_of derive (unmet L)) (in_append-l x L.inquired (ids_of derive (unmet L)) e)
  in_concerned L x (inr (inr e)) =
      in_append-r x (held_ids derive t L) (L.inquired ++ ids_of derive (unmet L)) (in_append-r x L.inquired (ids_of derive (unmet L)) e)

  pub concerned_in : (L : Ledger) (x : ℕ) → x ∈ concerned derive t L → Concerned L x
  unfolding concerned
  concerned_in L x e = go (append_in x (held_ids derive t L) (L.inquired ++ ids_of derive (unmet L)) e)
    where
      go : (x ∈ held_ids derive t L) ⊎ (x ∈ L.inquired ++ ids_of derive (unmet L)) → Concerned L x
      go (inl k) = inl k
      go (inr k) = inr (append_in x L.inquired (ids_of derive (unmet L)) k)
