-- Lists as lent memory, and lists as sets.
--
--   part at k l     the k elements of l from position at on, or as many as there are
--   over at xs l    l with xs written over it from position at on
--   pad n l         l with zeros behind it, up to n
--   elem a l        whether a stands in l
--   Distinct l      no number stands in l twice
--
-- Assumes nothing.
use Rattle.std.specs.Prelude.{◌≡◌, Bool, false, ◌||◌, List, [], ◌∷◌, ◌++◌, ℕ, ◌+◌, ◌-◌, eqb, length, take, drop, replicate}

abbrev pub part : {A : Type 0} → ℕ → ℕ → List A → List A
part at k l = take k (drop at l)

unfoldable pub over : {A : Type 0} → ℕ → List A → List A → List A
over at xs l = take at l ++ (xs ++ drop (at + length xs) l)

unfoldable pub pad : ℕ → List ℕ → List ℕ
pad n l = l ++ replicate (n - length l) 0

unfoldable pub elem : ℕ → List ℕ → Bool
elem a [] = false
elem a (b ∷ l) = eqb a b || elem a l

abbrev pub Distinct : List ℕ → Type 0
Distinct [] = Unit {0}
Distinct (a ∷ l) = (elem a l ≡ false) × Distinct l
