-- The true difference of two tables, and the elements behind it (document 02, Req 14).
--
--   Lists R t u xs   xs are the IDs that table t has and table u lacks, each once
--   listed           the elements of t with these IDs: in t (listed_in), not in u (listed-apart), each once (listed-distinct)
--   listed-whole     and all that t has and u lacks
--   union_is         with u they are the union
--
-- Assumes nothing.
use mathlib.Core.Path.{◌≡◌, subst}
use mathlib.Core.Bool.{true, false}
use mathlib.Core.List.{List, [], map}
use mathlib.Core.Logic.{◌⊎◌, inl, inr}
use Prim.Native.Nat.{ℕ}
use Rattle.bucket.specs.Lists.{elem, Distinct}
use Rattle.filter.specs.Sets.{◌∪◌}
use Rattle.ledger.specs.Session.{ids_of, hash_of}
use Rattle.filter.proofs.SetLaws.{◌∈◌, ◌⊆◌, either, clash, in_∪-l, in_∪-r, ∪-in, ∪-nil, Asc, ∪-asc, asc_ext}
use Rattle.filter.proofs.ListLaws.{Apart, in_map}
use Rattle.ledger.proofs.HeldLaws.{in_ids, ids_in_lem, hash_of_lem, hashes-ids, hashes_in_lem, hashes-distinct}
use Rattle.union.proofs.Ends.{Rules}

-- the IDs that table t has and table u lacks, listed once each
pub record Lists (R : Rules) (t u xs : List ℕ) : Type 0 where
  pub apart : Distinct xs
  pub has : xs ⊆ ids_of R.id_of t
  pub lacks : Apart xs (ids_of R.id_of u)
  pub whole : (x : ℕ) → x ∈ ids_of R.id_of t → (x ∈ ids_of R.id_of u → ⊥) → x ∈ xs

-- the elements behind such a list
module _ (R : Rules) (t u xs : List ℕ) (l : Lists R t u xs) where
  abbrev pub listed : List ℕ
  listed = map (hash_of R.id_of t) xs

  pub listed-ids : ids_of R.id_of listed ≡ xs
  listed-ids = hashes-ids R.id_of t xs l.has

  pub listed_in : listed ⊆ t
  listed_in = hashes_in_lem R.id_of t xs l.has

  pub listed-distinct : Distinct listed
  listed-distinct = hashes-distinct R.id_of t xs l.has l.apart

  pub listed-apart : Apart listed u
  listed-apart h e k = l.lacks (R.id_of h) (subst (λ (ys : List ℕ). R.id_of h ∈ ys) listed-ids (in_ids R.id_of h listed e)) (in_ids R.id_of h u k)

  -- where IDs are apart: all that t has and u lacks
  module _ (g : List ℕ) (tg : t ⊆ g) (ug : u ⊆ g) (no_shared : (x y : ℕ) → x ∈ g → y ∈ g → R.id_of x ≡ R.id_of y → x ≡ y) where
    pub listed-whole : (h : ℕ) → h ∈ t → (h ∈ u → ⊥) → h ∈ listed
    listed-whole h ht hu =
        let it : R.id_of h ∈ ids_of R.id_of t = in_ids R.id_of h t ht in
        let m : R.id_of h ∈ xs = l.whole (R.id_of h) it (λ k. other (ids_in_lem R.id_of (R.id_of h) u k)) in
        let (st, se) = hash_of_lem R.id_of t (R.id_of h) it in
        subst (λ (z : ℕ). z ∈ listed) (no_shared (hash_of R.id_of t (R.id_of h)) h (tg (hash_of R.id_of t (R.id_of h)) st) (tg h ht) se)
        (in_map (hash_of R.id_of t) (R.id_of h) xs m)
      where
        other : (y : ℕ) × (y ∈ u) × (R.id_of y ≡ R.id_of h) → ⊥
        other (y, yu, e) = hu (subst (λ (z : ℕ). z ∈ u) (no_shared y h (ug y yu) (tg h ht) e) yu)

    -- with u they are all, and sets that have the same members are equal as lists
    pub union_is : Asc u → Asc g → ((x : ℕ) → x ∈ g → (x ∈ t) ⊎ (x ∈ u)) → listed ∪ [] ∪ u ≡ g
    union_is au ag gin =
        asc_ext (listed ∪ [] ∪ u) g (∪-asc (listed ∪ []) u au) ag (λ x e. to x (∪-in x (listed ∪ []) u e)) (λ x e. from x (gin x e))
      where
        to : (x : ℕ) → (x ∈ listed ∪ []) ⊎ (x ∈ u) → x ∈ g
        to x (inl e) = tg x (listed_in x (∪-nil x listed e))
        to x (inr e) = ug x e

        new : (x : ℕ) → x ∈ t → (elem x u ≡ true) ⊎ (elem x u ≡ false) → x ∈ listed ∪ [] ∪ u
        new x e (inl k) = in_∪-r x (listed ∪ []) u k
        new x e (inr k) = in_∪-l x (listed ∪ []) u (in_∪-l x listed [] (listed-whole x e (λ p. clash p k)))

        from : (x : ℕ) → (x ∈ t) ⊎ (x ∈ u) → x ∈ listed ∪ [] ∪ u
        from x (inl e) = new x e (either (elem x u))
        from x (inr e) = in_∪-r x (listed ∪ []) u e
