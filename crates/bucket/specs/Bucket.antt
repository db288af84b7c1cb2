-- A bucket (document 01, "Slips, IDs and places" and "Subtraction and reading"): two XOR sums and a signed count, a commutative group.
--
--   bucket x h c           the bucket of IDSUM x, HASHSUM h and COUNT c
--   a ⊕ b, neg a, a ⊖ b    sum, inverse, difference: "XOR the sums, subtract the counts exactly as signed numbers"
--   𝟎, is_zero b            zero in all three columns
--   looks_pure_by ..         the purity test, over the CRC-32 and the draws; looks_pure by document 01's own
--
-- Laws (proofs/BucketLaws): ⊕-assoc, ⊕-comm, ⊕-idl, ⊕-invl and what follows; is_zero_true, is_zero_zero. The purity test: proofs/PurityLaws.
-- Assumes nothing.
use Rattle.std.specs.Prelude.{Bool, true, false, ◌&&◌, ℕ, zero, suc, eqb, ℤ, pos, negsuc, neg_ℤ, ◌+ℤ◌}
use Rattle.std.specs.Int.Bits.{bit_xor}
use Rattle.bucket.specs.Crc.{crc_of}
use Rattle.bucket.specs.Lists.{elem}
use Rattle.bucket.specs.Places.{crc_next, places_by}

pub record Bucket : Type 0 where
  pub idsum : ℕ
  pub hashsum : ℕ
  pub count : ℤ

abbrev pub bucket : ℕ → ℕ → ℤ → Bucket
bucket x h c = record { idsum = x; hashsum = h; count = c }

infixr 60 ◌⊕◌
unfoldable pub ◌⊕◌ : Bucket → Bucket → Bucket
a ⊕ b = bucket (bit_xor a.idsum b.idsum) (bit_xor a.hashsum b.hashsum) (a.count +ℤ b.count)

unfoldable pub neg : Bucket → Bucket
neg a = bucket a.idsum a.hashsum (neg_ℤ a.count)

infixr 60 ◌⊖◌
abbrev pub ◌⊖◌ : Bucket → Bucket → Bucket
a ⊖ b = a ⊕ neg b

unfoldable pub 𝟎 : Bucket
𝟎 = bucket 0 0 (pos 0)

abbrev pub is_zero_ℤ : ℤ → Bool
is_zero_ℤ (pos zero) = true
is_zero_ℤ (pos (suc n)) = false
is_zero_ℤ (negsuc n) = false

unfoldable pub is_zero : Bucket → Bool
is_zero b = eqb b.idsum 0 && (eqb b.hashsum 0 && is_zero_ℤ b.count)

-- the count is 1 or −1
abbrev pub is_one : ℤ → Bool
is_one (pos zero) = false
is_one (pos (suc zero)) = true
is_one (pos (suc (suc n))) = false
is_one (negsuc zero) = true
is_one (negsuc (suc n)) = false

-- "A bucket looks pure if its count is 1 or −1, its HASHSUM is the CRC-32 of its IDSUM, and the bucket is one of the places of that IDSUM."
unfoldable pub looks_pure_by : (ℕ → ℕ) → (ℕ → ℕ → ℕ) → ℕ → ℕ → ℕ → Bucket → Bool
looks_pure_by crc next k size i b =
    is_one b.count && (eqb b.hashsum (crc b.idsum) && elem i (places_by next k size (crc b.idsum)))

abbrev pub looks_pure : ℕ → ℕ → ℕ → Bucket → Bool
looks_pure k size i b = looks_pure_by crc_of crc_next k size i b
