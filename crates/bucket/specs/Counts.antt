-- Counts of bits (document 01, "Estimator" and "Messages").
--
--   stratum_of x the trailing zero bits of an ID, at most 31
--   width_of n   the bits that a counter needs, at least 1
--
-- Laws (proofs/CountLaws): stratum_le, stratum-zeros, stratum-next, width-least.
-- Assumes nothing.
use Rattle.std.specs.Prelude.{ℕ, ◌-◌, min, max}
use Rattle.std.specs.Int.Count.{count_trailing_zeros, count_leading_zeros}

-- "An ID's stratum is its number of trailing zero bits, at most 31."
unfoldable pub stratum_of : ℕ → ℕ
stratum_of x = min 31 (count_trailing_zeros 64 x)

-- "the smallest width that holds the largest counter .., at least 1": of a number of 32 bits
unfoldable pub width_of : ℕ → ℕ
width_of n = max 1 (32 - count_leading_zeros 32 n)
