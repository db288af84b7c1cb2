-- The elements of a table offered one after the other: their marks set, and their hashes gathered in order. Assumes nothing.
use mathlib.Core.Path.{◌≡◌, refl, sym, ap, subst, ◌∙◌}
use mathlib.Core.Bool.{true}
use mathlib.Core.List.{List, [], ◌∷◌, ◌++◌, map-append}
use Prim.Native.Nat.{ℕ, suc, ◌+◌, ◌*◌, ◌/◌, ◌≤◌, ◌<◌}
use native.Mathlib.Numerals.{add-one}
use lib.ListN.{length, take, drop, get_or, set, length-set, drop_of_length-le}
use lib.Seq.{drop-cons, take_all, take-suc}
use Rattle.bucket.specs.Digits.{groups, packed}
use Rattle.bucket.specs.Lists.{over}
use Rattle.bucket.proofs.ListLaws.{elem_at}
use Rattle.filter.specs.Table.{first_eight, hashes_of, ids_of, is_table, position}
use Rattle.filter.proofs.TableLaws.{ids-length, held-id}
use Rattle.session.specs.Turns.{mark_all, hashes_at}
use Rattle.session.specs.Ready.{Opens}
use Rattle.filter.proofs.SetLaws.{◌∈◌}
use Rattle.filter.proofs.ListLaws.{within_of}
use Rattle.session.proofs.PlaceLaws.{holds-within}
use Rattle.session.proofs.AskLaws.{Gathering, gathering-start, gathering-next}

-- where an element of the table stands, by its ID
module _ (table : List ℕ) (good : is_table first_eight table ≡ true) (x : ℕ) (held : x ∈ ids_of first_eight table) where
  held_place : position (ids_of first_eight table) x < length table / 64
  held_place =
      rw (ids-length first_eight table) at (holds-within (ids_of first_eight table) x (held-id table good x ∙ held))

-- a walk over ours that has come to element i
pub record Offering (table ours marks₀ hashes₀ marks hashes : List ℕ) (i : ℕ) : Type 0 where
  pub rest : mark_all (ids_of first_eight table) (drop i ours) marks ≡ mark_all (ids_of first_eight table) ours marks₀
  pub gathering : Gathering (hashes_at (hashes_of table) (ids_of first_eight table) (take i ours)) hashes₀ hashes i
  pub same : length marks ≡ length marks₀

pub offering_start : (table ours marks hashes : List ℕ) → Offering table ours marks hashes marks hashes 0
offering_start table ours marks hashes = record { rest = refl; gathering = gathering-start hashes; same = refl }

module _ {table ours marks₀ hashes₀ marks hashes : List ℕ} {i : ℕ} (s : Offering table ours marks₀ hashes₀ marks hashes i) where
  pub offering_end : length ours ≤ i
      → (marks ≡ mark_all (ids_of first_eight table) ours marks₀) × (hashes ≡ over 0 (packed 512 (hashes_at (hashes_of table) (ids_of first_eight table) ours)) hashes₀)
  unfolding mark_all
  offering_end h = (
    ap (λ (l : List ℕ). mark_all (ids_of first_eight table) l marks) (sym (drop_of_length-le ours h)) ∙ s.rest,
    s.gathering.bytes ∙ ap (λ (l : List ℕ). over 0 (packed 512 (hashes_at (hashes_of table) (ids_of first_eight table) l)) hashes₀) (take_all i ours h),
  )

  module _ {marks₁ : List ℕ} (o : Opens table ours marks₁) (h : i < length ours) {x p : ℕ} (item : x ≡ get_or ours i 0) (is : p ≡ position (ids_of first_eight table) x) where
    held : x ∈ ids_of first_eight table
    held = within_of ours (ids_of first_eight table) o.ours-held x (subst (λ (y : ℕ). y ∈ ours) (sym item) (elem_at ours i h))

    pub offered-place : p < length table / 64
    offered-place =
        subst (λ (q : ℕ). q < length table / 64) (sym is)
        (held_place table o.table-good x held)

    here : p ≡ position (ids_of first_eight table) (get_or ours i 0)
    here = is ∙ ap (position (ids_of first_eight table)) item

    first : (l : List ℕ) → mark_all (ids_of first_eight table) l (set marks p 2) ≡ mark_all (ids_of first_eight table) (get_or ours i 0 ∷ l) marks
    unfolding mark_all
    first l = ap (λ (q : ℕ). mark_all (ids_of first_eight table) l (set marks q 2)) here

    more : hashes_at (hashes_of table) (ids_of first_eight table) (take i ours) ++ get_or (hashes_of table) p 0 ∷ [] ≡ hashes_at (hashes_of table) (ids_of first_eight table) (take (i + 1) ours)
    more =
        ap (λ (q : ℕ). hashes_at (hashes_of table) (ids_of first_eight table) (take i ours) ++ get_or (hashes_of table) q 0 ∷ []) here
        ∙ sym (map-append (λ x. get_or (hashes_of table) (position (ids_of first_eight table) x) 0) (take i ours) (get_or ours i 0 ∷ []))
        ∙ ap (hashes_at (hashes_of table) (ids_of first_eight table)) (sym (take-suc ours i 0 h) ∙ ap (λ (n : ℕ). take n ours) (sym (add-one i)))

    pub offering_next : {hashes' : List ℕ} → 64 * i + 64 ≤ length hashes₀ → hashes' ≡ over (64 * i) (groups 8 64 (get_or (hashes_of table) p 0)) hashes
        → Offering table ours marks₀ hashes₀ (set marks p 2) hashes' (i + 1)
    offering_next {hashes'} room e =
        record {
          rest =
              ap (λ (n : ℕ). mark_all (ids_of first_eight table) (drop n ours) (set marks p 2)) (add-one i)
              ∙ first (drop (suc i) ours)
              ∙ ap (λ (l : List ℕ). mark_all (ids_of first_eight table) l marks) (sym (drop-cons ours i 0 h)) ∙ s.rest;
          gathering =
              subst (λ (l : List ℕ). Gathering l hashes₀ hashes' (i + 1)) more
              (gathering-next (get_or (hashes_of table) p 0) s.gathering room e);
          same = length-set marks p 2 ∙ s.same;
        }
