-- Sets of numbers as ascending lists, and tests of lists: what the session's definition is written in.
--
--   insert a l     the ascending list l with a in it
--   l ∪ m          the ascending list m with every number of l in it
--   l ∖ m          the numbers of l that are not in m
--   within l m     every number of l stands in m
--   once seen l    no number of l was seen, and none stands in l twice
--   news seen l    the numbers of l that were not seen, without repeats, in their order
--   count l        how many different numbers stand in l
--
-- Equal sets are equal lists, so a set's memory and its checksum are fixed by its members alone.
-- Laws (proofs/SetLaws, ListLaws).
-- Assumes nothing.
use Rattle.std.specs.Prelude.{Bool, true, false, not, ◌&&◌, cond, List, [], ◌∷◌, ℕ, eqb, ltb, length}
use Rattle.bucket.specs.Lists.{elem}
use Rattle.filter.specs.Lists.{minus}

infixl 60 ◌∪◌
infixl 60 ◌∖◌
unfoldable pub insert : ℕ → List ℕ → List ℕ
insert a [] = a ∷ []
insert a (b ∷ l) = cond (ltb a b) (a ∷ b ∷ l) (cond (eqb a b) (b ∷ l) (b ∷ insert a l))

unfoldable pub ◌∪◌ : List ℕ → List ℕ → List ℕ
[] ∪ m = m
(a ∷ l) ∪ m = insert a (l ∪ m)

abbrev pub ◌∖◌ : List ℕ → List ℕ → List ℕ
l ∖ m = minus l m

abbrev pub is_nil : List ℕ → Bool
is_nil [] = true
is_nil (a ∷ l) = false

unfoldable pub all : (ℕ → Bool) → List ℕ → Bool
all p [] = true
all p (a ∷ l) = p a && all p l

unfoldable pub within : List ℕ → List ℕ → Bool
within l m = all (λ x. elem x m) l

unfoldable pub once : List ℕ → List ℕ → Bool
once seen [] = true
once seen (a ∷ l) = not (elem a seen) && once (a ∷ seen) l

unfoldable pub news : List ℕ → List ℕ → List ℕ
news seen [] = []
news seen (a ∷ l) = cond (elem a seen) (news seen l) (a ∷ news (a ∷ seen) l)

abbrev pub count : List ℕ → ℕ
count l = length (l ∪ [])

-- every test of a list
unfoldable pub every : List Bool → Bool
every [] = true
every (b ∷ l) = b && every l

abbrev pub implies : Bool → Bool → Bool
implies true b = b
implies false b = true

abbrev pub same : Bool → Bool → Bool
same true b = b
same false b = not b
