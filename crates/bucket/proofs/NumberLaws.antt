-- Counts as numbers: what is read of a column, and what `has_bits` and `fits_in` say. Assumes nothing.
use mathlib.Core.Path.{◌≡◌, refl, sym, ap, ◌∙◌}
use mathlib.Core.Bool.{Bool, true, ◌&&◌, true≢false}
use mathlib.Core.List.{List, [], ◌∷◌, map}
use Prim.Native.Nat.{ℕ, ◌^◌, ◌<◌}
use lib.IntN.{ℤ, pos, negsuc}
use lib.ListN.{length, get_or, length-map}
use lib.Signed.{mag}
use mir.Syntax.{w64}
use mir.Val.{to_z, of_z, hbits}
use mir.ValLaws.{to_z-of_z}
use borrow.Author.Rules.{sfits_of}
use borrow.Author.Tests.{ltb-true}
use Rattle.std.specs.List.{list_all}
use Rattle.bucket.specs.Digits.{unpacked}
use Rattle.bucket.specs.Packing.{number, has_bits, fits_in}
use Rattle.bucket.proofs.PackedLaws.{unpacked-length}

-- an element that was read and passed on
pub count-stored : (cs : List ℤ) (i : ℕ) → mag (get_or cs i (pos 0)) < 2 ^ hbits w64 → to_z w64 (of_z w64 (get_or cs i (pos 0))) ≡ get_or cs i (pos 0)
count-stored cs i h = to_z-of_z w64 (get_or cs i (pos 0)) (sfits_of h)

-- numbers as counts
pub counts-length : (w n : ℕ) (bs : List ℕ) → length (map pos (unpacked w n bs)) ≡ n
counts-length w n bs = length-map (unpacked w n bs) pos ∙ unpacked-length w n bs

pub number-below : (w : ℕ) (z : ℤ) → has_bits w z ≡ true → number z < 2 ^ w
number-below w (pos n) h = ltb-true n (2 ^ w) h
number-below w (negsuc n) h = absurd (true≢false (sym h))

-- as the library's `all` tests them
pub all-fits : (w : ℕ) (cs : List ℤ) → list_all (has_bits w) cs ≡ fits_in w cs
unfolding fits_in
all-fits w [] = refl
all-fits w (c ∷ cs) = ap (λ (t : Bool). has_bits w c && t) (all-fits w cs)
