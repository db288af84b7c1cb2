-- What demand 3 speaks of: the true difference, its parts, and stopping sets (document 01: knots).
--
--   differing t s        the IDs in only one of table and set, each with its side
--   Clear R d            in no part of d does a shared bucket look pure or is it zero in all columns
--   IsClosed R d q       each bucket that the part q touches is touched by at least two of it
--   StoppingSet R d q    a part that is not empty and is closed
--   Core R d q           q is the largest closed part: the largest stopping set (the 2-core), or nothing
--   Exactly ..           the second half of demand 3
--
-- A part of d is a mask q; `select q d` lists it.
-- Assumes nothing.
use Rattle.std.specs.Prelude.{◌≡◌, Bool, true, false, not, ◌&&◌, ℕ, ◌≤◌, ◌<◌}
use mathlib.Core.List.{List, ◌++◌, map, Memᴰ}
use Rattle.bucket.specs.Bucket.{is_zero}
use Rattle.bucket.specs.Lists.{elem, Distinct}
use Rattle.filter.specs.Lists.{select, minus}
use Rattle.filter.specs.Filter.{Item, ours, theirs, Rule, sum_at, load}
use Rattle.filter.specs.Peeling.{is_pure}

-- "True difference: the IDs in only one of table and set, that being their side"
unfoldable pub differing : List ℕ → List ℕ → List Item
differing t s = map ours (minus t s) ++ map theirs (minus s t)

module _ (R : Rule) where
  -- "in no part of the true difference does a bucket shared by several IDs pass for a bucket holding one ID or none"
  abbrev pub Clear : List Item → Type 0
  Clear d =
      (p : Item → Bool) (i : ℕ) → i < R.size → 2 ≤ load R (select p d) i
      → (is_pure R i (sum_at R (select p d) i) ≡ false) × (is_zero (sum_at R (select p d) i) ≡ false)

  -- "each bucket touched is touched by at least two of the group"
  abbrev pub IsClosed : List Item → (Item → Bool) → Type 0
  IsClosed d q = (i : ℕ) → i < R.size → 1 ≤ load R (select q d) i → 2 ≤ load R (select q d) i

  -- "a non-empty group of IDs of the true difference"
  pub record StoppingSet (d : List Item) (q : Item → Bool) : Type 0 where
    pub someone : Item
    pub belongs : Memᴰ someone d
    pub taken : q someone ≡ true
    pub closed : IsClosed d q

  -- "The largest contains every other."
  pub record Core (d : List Item) (q : Item → Bool) : Type 0 where
    pub closed : IsClosed d q
    pub largest : (p : Item → Bool) → IsClosed d p → (x : Item) → Memᴰ x d → p x ≡ true → q x ≡ true

  -- IDs listed as ours and as theirs, and whether the reading is called complete (or else stuck), for a table t and a set s
  pub record Exactly (t s listed_ours listed_theirs : List ℕ) (complete : Bool) : Type 0 where
    -- "the true difference less its largest knot, if there is one, each ID once and on its right side"
    pub core : Item → Bool
    pub is_core : Core (differing t s) core
    pub ours_are : (a : ℕ) → elem a listed_ours ≡ elem a (minus t s) && not (core (ours a))
    pub theirs_are : (a : ℕ) → elem a listed_theirs ≡ elem a (minus s t) && not (core (theirs a))
    pub once : Distinct (listed_ours ++ listed_theirs)
    -- "complete exactly when there is no knot, and otherwise stuck"
    pub whole : ((q : Item → Bool) → StoppingSet (differing t s) q → ⊥) → complete ≡ true
    pub stopped : (q : Item → Bool) → StoppingSet (differing t s) q → complete ≡ false
