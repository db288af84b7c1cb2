-- The purity test: the test by the tables, and what passes its first two conditions. Assumes nothing.
use mathlib.Core.Path.{◌≡◌, refl, sym, ap, ap₂, ◌∙◌}
use mathlib.Core.Bool.{Bool, true, ◌&&◌, false≢true}
use Prim.Native.Nat.{ℕ, zero, suc}
use lib.Bits.{bit_xor}
use lib.Dec.{eqb}
use mir.ValLaws.{to_z-of_z}
use lib.IntN.{ℤ, pos, negsuc, neg_ℤ, ◌+ℤ◌}
use borrow.Author.Tests.{eq-eqb}
use Rattle.bucket.specs.Crc.{crc_of, crc_tables, crc_by, next_by}
use Rattle.bucket.specs.Lists.{elem}
use Rattle.bucket.specs.Places.{places_by, places}
use Rattle.bucket.specs.Bucket.{Bucket, bucket, ◌⊕◌, neg, ◌⊖◌, is_one, looks_pure_by, looks_pure}
use Rattle.bucket.proofs.CrcLaws.{crc_xor3}
use Rattle.bucket.proofs.TableLaws.{crc_by_tables}
use Rattle.bucket.proofs.PlaceLaws.{places_by_tables}

-- ---- the tables' test is the definition's

pub pure_by_tables : (k size i : ℕ) (b : Bucket) → looks_pure_by (crc_by crc_tables) (next_by crc_tables) k size i b ≡ looks_pure k size i b
unfolding looks_pure_by
pure_by_tables k size i b =
    ap (λ (d : ℕ). is_one b.count && (eqb b.hashsum d && elem i (places_by (next_by crc_tables) k size d))) (crc_by_tables b.idsum)
    ∙ ap (λ (t : Bool). is_one b.count && (eqb b.hashsum (crc_of b.idsum) && t)) (ap (elem i) (places_by_tables k size (crc_of b.idsum)))

-- ---- why the third condition is there

-- two elements of one side and one of the other in one bucket pass the first two conditions, on whichever side the two are: only the place tells
pub three_look_pure : (k size i a b c : ℕ) (side : ℤ) → is_one side ≡ true
    → looks_pure k size i (bucket a (crc_of a) side ⊕ (bucket b (crc_of b) side ⊖ bucket c (crc_of c) side))
    ≡ elem i (places k size (crc_of (bit_xor a (bit_xor b c))))
unfolding looks_pure_by ◌⊕◌ neg
three_look_pure k size i a b c side h =
    ap₂ (λ (s t : Bool). s && (t && elem i (places k size (crc_of (bit_xor a (bit_xor b c)))))) (one side h)
    (eq-eqb (bit_xor (crc_of a) (bit_xor (crc_of b) (crc_of c))) (crc_of (bit_xor a (bit_xor b c))) (sym (crc_xor3 a b c)))
  where
    one : (z : ℤ) → is_one z ≡ true → is_one (z +ℤ (z +ℤ neg_ℤ z)) ≡ true
    one (pos zero) e = e
    one (pos (suc zero)) e = refl
    one (pos (suc (suc n))) e = absurd (false≢true e)
    one (negsuc zero) e = refl
    one (negsuc (suc n)) e = absurd (false≢true e)

-- a count that is passed on as its bits
pub ruleset as_passed = (to_z-of_z)
