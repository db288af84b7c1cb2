-- Four entries stored at the start of a list are the list with those four written over it. Assumes nothing.
use Rattle.std.proofs.Common.{◌≡◌, ℕ, ◌≤◌, List, [], ◌∷◌, length, get_or, set, refl, arith}
use Rattle.bucket.specs.Lists.{over}

pub four_over : (xs l : List ℕ) → length xs ≡ 4 → 4 ≤ length l
    → set (set (set (set l 0 (get_or xs 0 0)) 1 (get_or xs 1 0)) 2 (get_or xs 2 0)) 3 (get_or xs 3 0) ≡ over 0 xs l
unfolding over
four_over [] l e h = absurd (omega arith)
four_over (a ∷ []) l e h = absurd (omega arith)
four_over (a ∷ b ∷ []) l e h = absurd (omega arith)
four_over (a ∷ b ∷ c ∷ []) l e h = absurd (omega arith)
four_over (a ∷ b ∷ c ∷ d ∷ x ∷ xs) l e h = absurd (omega arith)
four_over (a ∷ b ∷ c ∷ d ∷ []) [] e h = absurd (omega arith)
four_over (a ∷ b ∷ c ∷ d ∷ []) (p ∷ []) e h = absurd (omega arith)
four_over (a ∷ b ∷ c ∷ d ∷ []) (p ∷ q ∷ []) e h = absurd (omega arith)
four_over (a ∷ b ∷ c ∷ d ∷ []) (p ∷ q ∷ r ∷ []) e h = absurd (omega arith)
four_over (a ∷ b ∷ c ∷ d ∷ []) (p ∷ q ∷ r ∷ s ∷ l) e h = refl
