-- How many IDs are held or wanted after an OFFER: those before it, and the new ones that were not inquired. Assumes nothing.
use mathlib.Core.Path.{◌≡◌, refl, sym, ap, ap₂, ◌∙◌}
use mathlib.Core.Logic.{◌⊎◌, inl, inr}
use mathlib.Core.Bool.{Bool, true, false, not, ◌||◌}
use mathlib.Core.List.{List, ◌++◌}
use Prim.Native.Nat.{ℕ, ◌+◌, ◌≤◌}
use native.Mathlib.Omega.{arith}
use lib.Dec.{ltb, leb}
use lib.ListN.{length, length-map}
use borrow.Author.Tests.{leb-true, leb-false, lt-ltb, le-ltb}
use Rattle.bucket.specs.Lists.{elem, Distinct}
use Rattle.filter.specs.Table.{holds}
use Rattle.filter.proofs.OrderLaws.{same_test}
use Rattle.filter.proofs.SelectLaws.{mem_elem, select-agree}
use Rattle.filter.specs.Sets.{once, count}
use Rattle.ledger.specs.Session.{Ledger, unmet, ids_of, held, held_ids, concerned}
use Rattle.session.specs.Moves.{extra}
use Rattle.filter.proofs.SetLaws.{◌∈◌, of_asc, asc-distinct, in_append-l, in_append-r, append_in}
use Rattle.filter.proofs.ListLaws.{Apart, once-apart, once-distinct, distinct-map, count_le}
use Rattle.ledger.proofs.BookLaws.{Books}
use Rattle.ledger.proofs.HeldLaws.{ids-part, unmet_in, Concerned, in_concerned, concerned_in}
use Rattle.form.proofs.CountLaws.{count-append, count-apart, elem-concerned}

module _ (derive : ℕ → ℕ) (t : List ℕ) (L : Ledger) (b : Books derive t L) (rest : List ℕ) (one : once (ids_of derive (held derive t L ++ L.demanded)) (ids_of derive rest) ≡ true) where
  -- the IDs of new hashes are no others', and none is there twice
  pub new-distinct : Distinct (ids_of derive rest)
  new-distinct = once-distinct (ids_of derive (held derive t L ++ L.demanded)) (ids_of derive rest) one

  new_apart : Apart (ids_of derive rest) (ids_of derive (held derive t L ++ L.demanded))
  new_apart = once-apart (ids_of derive (held derive t L ++ L.demanded)) (ids_of derive rest) one

  pub new_not_held : Apart (ids_of derive rest) (held_ids derive t L)
  new_not_held x e k =
      new_apart x e (ids-part derive (held derive t L) (held derive t L ++ L.demanded) (λ h. in_append-l h (held derive t L) L.demanded) x k)

  pub new_not_demanded : Apart (ids_of derive rest) (ids_of derive L.demanded)
  new_not_demanded x e k =
      new_apart x e (ids-part derive L.demanded (held derive t L ++ L.demanded) (λ h. in_append-r h (held derive t L) L.demanded) x k)

  -- so they are wanted already only if they were inquired
  wanted : (x : ℕ) → x ∈ ids_of derive rest → elem x (concerned derive t L) ≡ elem x L.inquired
  wanted x e =
      same_test (elem x (concerned derive t L)) (elem x L.inquired)
      (λ k. go (concerned_in derive t L x k)) (λ k. in_concerned derive t L x (inr (inl k)))
    where
      go : Concerned derive t L x → x ∈ L.inquired
      go (inl k) = absurd (new_not_held x e k)
      go (inr (inl k)) = k
      go (inr (inr k)) = absurd (new_not_demanded x e (ids-part derive (unmet L) L.demanded (λ h m. (unmet_in L h m).0) x k))

  pub new-count : count (concerned derive t L ++ ids_of derive rest) ≡ count (concerned derive t L) + extra derive L.inquired rest
  unfolding extra ids_of
  new-count =
      count-append (concerned derive t L) (ids_of derive rest) new-distinct
      ∙ ap (λ (l : List ℕ). count (concerned derive t L) + length l)
      (select-agree (λ x. not (elem x (concerned derive t L))) (λ x. not (holds L.inquired x)) (ids_of derive rest)
      (λ x m. ap not (wanted x (mem_elem m) ∙ sym (Rattle.filter.proofs.BisectLaws.held L.inquired x (of_asc L.inquired b.inquired_asc)))))

  -- what is demanded then is among them
  demanded-count : length L.demanded + length rest ≤ count (concerned derive t L ++ ids_of derive rest)
  unfolding ids_of
  demanded-count =
      omega (
        arith,
        length-map L.demanded derive,
        length-map rest derive,
        count-apart (ids_of derive L.demanded) (ids_of derive rest) distinct new-distinct new_not_demanded,
        count_le (ids_of derive L.demanded ++ ids_of derive rest) (concerned derive t L ++ ids_of derive rest) (λ x e. go x (append_in x (ids_of derive L.demanded) (ids_of derive rest) e)),
      )
    where
      distinct : Distinct (ids_of derive L.demanded)
      distinct =
          distinct-map derive L.demanded (λ x y p q. b.no_shared x y (in_append-r x t L.demanded p) (in_append-r y t L.demanded q))
          (asc-distinct L.demanded b.demanded_asc)

      go : (x : ℕ) → (x ∈ ids_of derive L.demanded) ⊎ (x ∈ ids_of derive rest) → x ∈ concerned derive t L ++ ids_of derive rest
      go x (inl k) =
          in_append-l x (concerned derive t L) (ids_of derive rest)
          (elem-concerned derive t L b.gained_demanded x
          ∙ in_append-r x (ids_of derive t) (L.inquired ++ ids_of derive L.demanded) (in_append-r x L.inquired (ids_of derive L.demanded) k))
      go x (inr k) = in_append-r x (concerned derive t L) (ids_of derive rest) k

  -- and all have their room
  pub new-room : leb (count (concerned derive t L ++ ids_of derive rest)) 4096 ≡ true → length L.demanded + length rest ≤ 4096
  new-room e = omega (arith, demanded-count, leb-true (count (concerned derive t L ++ ids_of derive rest)) 4096 e)

  -- so one test of how many is enough
  pub new_full : ltb 4096 (count (concerned derive t L) + extra derive L.inquired rest) || ltb 4096 (length L.demanded + length rest)
      ≡ not (leb (count (concerned derive t L ++ ids_of derive rest)) 4096)
  new_full =
      ap (λ (c : ℕ). ltb 4096 c || ltb 4096 (length L.demanded + length rest)) (sym new-count)
      ∙ go (leb (count (concerned derive t L ++ ids_of derive rest)) 4096) refl
    where
      go : (a : Bool) → leb (count (concerned derive t L ++ ids_of derive rest)) 4096 ≡ a
          → ltb 4096 (count (concerned derive t L ++ ids_of derive rest)) || ltb 4096 (length L.demanded + length rest) ≡ not a
      go true e =
          ap₂ ◌||◌ (le-ltb 4096 (count (concerned derive t L ++ ids_of derive rest)) (leb-true (count (concerned derive t L ++ ids_of derive rest)) 4096 e))
          (le-ltb 4096 (length L.demanded + length rest) (new-room e))
      go false e =
          ap (λ (b : Bool). b || ltb 4096 (length L.demanded + length rest))
          (lt-ltb 4096 (count (concerned derive t L ++ ids_of derive rest)) (leb-false (count (concerned derive t L ++ ids_of derive rest)) 4096 e))
