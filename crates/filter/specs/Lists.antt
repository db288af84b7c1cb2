-- Lists of numbers in order and without repeats, and parts of a list.
--
--   ascending l     each number is above the one before it
--   distinct l      no number stands in l twice, as a test
--   select p l      the part of l that p names, in its order
--   minus t l       the numbers of t that are not in l
--   bisect ..       the position that a binary search ends at
--
-- Laws (proofs/OrderLaws, SelectLaws, BisectLaws): ascending-distinct, distinct_true; select_yes, select_no; bisect-least.
-- Assumes nothing.
use Rattle.std.specs.Prelude.{Bool, true, not, ◌&&◌, cond, List, [], ◌∷◌, ℕ, zero, suc, ◌+◌, ◌/◌, ltb}
use Rattle.bucket.specs.Lists.{elem}

-- each number of the list is above the one before it, the first above a
unfoldable pub rising : ℕ → List ℕ → Bool
rising a [] = true
rising a (b ∷ l) = ltb a b && rising b l

abbrev pub ascending : List ℕ → Bool
ascending [] = true
ascending (a ∷ l) = rising a l

unfoldable pub distinct : List ℕ → Bool
distinct [] = true
distinct (a ∷ l) = not (elem a l) && distinct l

unfoldable pub select : {A : Type 0} → (A → Bool) → List A → List A
select p [] = []
select p (x ∷ l) = cond (p x) (x ∷ select p l) (select p l)

unfoldable pub minus : List ℕ → List ℕ → List ℕ
minus t l = select (λ a. not (elem a l)) t

-- a binary search between lo and hi for the first position at which p fails, in at most n steps
unfoldable pub bisect : (ℕ → Bool) → ℕ → ℕ → ℕ → ℕ
bisect p zero lo hi = lo
bisect p (suc n) lo hi =
    cond (ltb lo hi)
    (cond (p ((lo + hi) / 2)) (bisect p n ((lo + hi) / 2 + 1) hi) (bisect p n lo ((lo + hi) / 2)))
    lo
