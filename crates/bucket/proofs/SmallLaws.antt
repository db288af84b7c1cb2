-- Counts below 2^61 either way: their sums and negations are exact on 64 bits. Assumes nothing.
use mathlib.Core.Path.{◌≡◌, refl, ◌∙◌}
use mathlib.Core.Bool.{Bool, true, false, cond}
use Prim.Native.Nat.{ℕ, zero, suc, ◌+◌, ◌-◌, ◌^◌, ◌≤◌, ◌<◌}
use native.Mathlib.Omega.{arith}
use borrow.Author.Rules.{sfits_of}
use borrow.Author.Tests.{ltb-true}
use lib.Dec.{ltb}
use lib.IntN.{ℤ, pos, negsuc, neg_ℤ, sub_ℕ, ◌+ℤ◌, ◌-ℤ◌, +ℤ_idl}
use lib.Signed.{mag}
use mir.Syntax.{w64}
use mir.Val.{SFits, to_z, of_z}
use mir.ValLaws.{to_z-of_z}
use Rattle.bucket.specs.Columns.{is_small}

small-neg : (z : ℤ) → is_small (neg_ℤ z) ≡ is_small z
small-neg (pos zero) = refl
small-neg (pos (suc n)) = refl
small-neg (negsuc n) = refl

small_mag : (z : ℤ) → is_small z ≡ true → mag z < 2 ^ 61
small_mag (pos n) e = ltb-true n (2 ^ 61) e
small_mag (negsuc n) e = let h = ltb-true (suc n) (2 ^ 61) e in omega arith

pub small-fits : (z : ℤ) → is_small z ≡ true → SFits w64 z
small-fits z e = let h = small_mag z e in sfits_of (omega arith)

mag_subℕ : (a b : ℕ) → mag (sub_ℕ a b) ≤ a + b
mag_subℕ a b = go (ltb a b)
  where
    go : (t : Bool) → mag (cond t (negsuc (b - suc a)) (pos (a - b))) ≤ a + b
    go true = omega arith
    go false = omega arith

mag_sum : (a b : ℤ) → mag (a +ℤ b) ≤ mag a + mag b + 1
mag_sum (pos a) (pos b) = omega arith
mag_sum (pos a) (negsuc b) = omega (arith, mag_subℕ a (suc b))
mag_sum (negsuc a) (pos b) = omega (arith, mag_subℕ b (suc a))
mag_sum (negsuc a) (negsuc b) = omega arith

module _ (a b : ℤ) (ha : is_small a ≡ true) (hb : is_small b ≡ true) where
  sum_fits : SFits w64 (a +ℤ b)
  sum_fits = let la = small_mag a ha in let lb = small_mag b hb in sfits_of (omega (arith, mag_sum a b))

  -- what the code's sum must fit, and what it gives
  pub small-sum-fits : SFits w64 (to_z w64 (of_z w64 a) +ℤ to_z w64 (of_z w64 b))
  small-sum-fits = rw (to_z-of_z w64 a (small-fits a ha), to_z-of_z w64 b (small-fits b hb)) sum_fits

  pub small-sum : to_z w64 (of_z w64 (to_z w64 (of_z w64 a) +ℤ to_z w64 (of_z w64 b))) ≡ a +ℤ b
  small-sum = rw (to_z-of_z w64 a (small-fits a ha), to_z-of_z w64 b (small-fits b hb), to_z-of_z w64 (a +ℤ b) sum_fits)

module _ (z : ℤ) (h : is_small z ≡ true) where
  negation_fits : SFits w64 (neg_ℤ z)
  negation_fits = small-fits (neg_ℤ z) (small-neg z ∙ h)

  pub small-minus-fits : SFits w64 (pos 0 -ℤ to_z w64 (of_z w64 z))
  small-minus-fits = rw (to_z-of_z w64 z (small-fits z h), +ℤ_idl (neg_ℤ z)) negation_fits

  pub small-minus : to_z w64 (of_z w64 (pos 0 -ℤ to_z w64 (of_z w64 z))) ≡ neg_ℤ z
  small-minus = rw (to_z-of_z w64 z (small-fits z h), +ℤ_idl (neg_ℤ z), to_z-of_z w64 (neg_ℤ z) negation_fits)
