-- Where a hash has its place among those of the table and those demanded: exactly if one of them has its ID, and then at that one.
-- Assumes nothing.
use mathlib.Core.Path.{◌≡◌, refl, sym, ap, ap₂, subst, ◌∙◌}
use mathlib.Core.Bool.{Bool, true, false, ◌||◌, cond, false≢true}
use mathlib.Core.List.{List, ◌++◌, map, map-append}
use Prim.Native.Nat.{ℕ, ◌+◌, ◌-◌, ◌≤◌, ◌<◌}
use native.Mathlib.Omega.{arith}
use lib.Dec.{eqb, ltb}
use lib.ListN.{length, get_or, length-map}
use borrow.Author.Tests.{eqb-true, eq-eqb, ltb-true, lt-ltb, le-ltb}
use Rattle.bucket.specs.Lists.{elem}
use Rattle.bucket.proofs.ListLaws.{elem_at, elem-append}
use Rattle.filter.specs.Lists.{ascending}
use Rattle.filter.specs.Table.{position, holds}
use Rattle.filter.proofs.OrderLaws.{map_at, same_test}
use Rattle.filter.proofs.BisectLaws.{held}
use Rattle.session.specs.Moves.{place_of, hash_at_place}
use Rattle.filter.proofs.SetLaws.{◌∈◌, and_l, and_r, in_append-l, in_append-r}

-- what a search in the IDs of hashes finds
module _ (derive : ℕ → ℕ) (l : List ℕ) (x : ℕ) (e : holds (map derive l) x ≡ true) where
  found_within : position (map derive l) x < length l
  found_within =
      omega (
        arith,
        length-map l derive,
        ltb-true (position (map derive l) x) (length (map derive l)) (and_l (ltb (position (map derive l) x) (length (map derive l))) (eqb (get_or (map derive l) (position (map derive l) x) 0) x) e),
      )

  found_in : get_or l (position (map derive l) x) 0 ∈ l
  found_in = elem_at l (position (map derive l) x) found_within

  found-id : derive (get_or l (position (map derive l) x) 0) ≡ x
  found-id =
      sym (map_at derive l (position (map derive l) x) found_within)
      ∙ eqb-true (get_or (map derive l) (position (map derive l) x) 0) x (and_r (ltb (position (map derive l) x) (length (map derive l))) (eqb (get_or (map derive l) (position (map derive l) x) 0) x) e)

module _ (derive : ℕ → ℕ) (t K : List ℕ) (ascT : ascending (map derive t) ≡ true) (ascK : ascending (map derive K) ≡ true) (fewT : length t ≤ 4096) (fewK : length K ≤ 4096) where
  known-id : (x : ℕ) → holds (map derive t) x || holds (map derive K) x ≡ elem x (map derive (t ++ K))
  known-id x =
      ap₂ ◌||◌ (held (map derive t) x ascT) (held (map derive K) x ascK)
      ∙ sym (elem-append x (map derive t) (map derive K))
      ∙ ap (elem x) (sym (map-append derive t K))

  -- there is a place for an ID exactly if it is that of a hash
  pub place-known : (x : ℕ) → ltb (place_of (map derive t) (map derive K) x) 8192 ≡ elem x (map derive (t ++ K))
  unfolding place_of
  place-known x = go (holds (map derive t) x) refl (holds (map derive K) x) refl ∙ known-id x
    where
      p : ℕ
      p = position (map derive t) x

      q : ℕ
      q = position (map derive K) x

      go : (a : Bool) → holds (map derive t) x ≡ a → (b : Bool) → holds (map derive K) x ≡ b → ltb (cond a p (cond b (4096 + q) 8192)) 8192 ≡ a || b
      go true e b f = lt-ltb p 8192 (omega (arith, found_within derive t x e))
      go false e true f = lt-ltb (4096 + q) 8192 (omega (arith, found_within derive K x f))
      go false e false f = le-ltb 8192 8192 (omega arith)

  -- and the hash there has it
  place-hash : (x : ℕ) → x ∈ map derive (t ++ K)
      → (hash_at_place t K (place_of (map derive t) (map derive K) x) ∈ t ++ K) × (derive (hash_at_place t K (place_of (map derive t) (map derive K) x)) ≡ x)
  unfolding place_of hash_at_place
  place-hash x k = go (holds (map derive t) x) refl (holds (map derive K) x) refl (known-id x ∙ k)
    where
      p : ℕ
      p = position (map derive t) x

      q : ℕ
      q = position (map derive K) x

      Is : ℕ → Type 0
      Is h = (h ∈ t ++ K) × (derive h ≡ x)

      go : (a : Bool) → holds (map derive t) x ≡ a → (b : Bool) → holds (map derive K) x ≡ b → a || b ≡ true → Is (hash_at_place t K (cond a p (cond b (4096 + q) 8192)))
      go true e b f h =
          rw (lt-ltb p 4096 (omega (arith, found_within derive t x e)))
          (in_append-l (get_or t p 0) t K (found_in derive t x e), found-id derive t x e)
      go false e true f h =
          rw (le-ltb (4096 + q) 4096 (omega arith), near) (in_append-r (get_or K q 0) t K (found_in derive K x f), found-id derive K x f)
        where
          near : 4096 + q - 4096 ≡ q
          near = omega arith
      go false e false f h = absurd (false≢true h)

  -- no other hash is there
  pub place_same : ((x y : ℕ) → x ∈ t ++ K → y ∈ t ++ K → derive x ≡ derive y → x ≡ y)
      → (h : ℕ) → derive h ∈ map derive (t ++ K) → eqb (hash_at_place t K (place_of (map derive t) (map derive K) (derive h))) h ≡ elem h (t ++ K)
  place_same one h k =
      same_test (eqb k' h) (elem h (t ++ K))
      (λ e. subst (λ (z : ℕ). z ∈ t ++ K) (eqb-true k' h e) (place-hash (derive h) k).0)
      (λ e. eq-eqb k' h (one k' h (place-hash (derive h) k).0 e (place-hash (derive h) k).1))
    where
      k' : ℕ
      k' = hash_at_place t K (place_of (map derive t) (map derive K) (derive h))
