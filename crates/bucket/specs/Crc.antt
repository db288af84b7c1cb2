-- CRC-32 of IEEE 802.3 (document 01, "Slips, IDs and places"): reflected, polynomial 0xEDB88320, all ones at the start and XORed at the end.
--
--   crc32 bs        of a list of bytes, a bit at a time
--   crc_of x         of a number as eight bytes, most significant first
--   crc_tables       eight tables of 256: entry 256 k + b is what the byte b leaves with k bytes behind it
--   crc_by t x       by any eight tables: eight entries and a constant, XORed; with crc_tables it is crc_of
--   next_by t d i    the same of d × 2^32 + i for i below 256, whose bytes 1 to 3 are zero: five entries
--
-- Laws (proofs/CrcLaws, TableLaws): crc_lt, crc_affine, crc_xor3; crc_by_tables, next_by_tables.
-- Assumes nothing.
use Rattle.std.specs.Prelude.{List, [], ◌∷◌, ℕ, zero, suc, ◌+◌, ◌*◌, ◌/◌, ◌%◌, ◌^◌, get_or}
use Rattle.std.specs.Int.Bits.{bit_xor}
use Rattle.bucket.specs.Digits.{groups}

-- what a shift by one leaves, and the polynomial on it if the bit that fell out was set
abbrev pub fold : ℕ → ℕ → ℕ
fold zero half = half
fold (suc b) half = bit_xor half 0xEDB88320

abbrev pub step : ℕ → ℕ
step c = fold (c % 2) (c / 2)

unfoldable pub steps : ℕ → ℕ → ℕ
steps zero c = c
steps (suc n) c = steps n (step c)

-- the bytes taken in one after the other
unfoldable pub feed : ℕ → List ℕ → ℕ
feed c [] = c
feed c (b ∷ bs) = feed (steps 8 (bit_xor c b)) bs

unfoldable pub crc32 : List ℕ → ℕ
crc32 bs = bit_xor (feed 0xFFFFFFFF bs) 0xFFFFFFFF

-- "Its input is always eight bytes, most significant first."
unfoldable pub crc_of : ℕ → ℕ
crc_of x = crc32 (groups 8 8 x)

-- what the byte i mod 256 leaves with i / 256 bytes behind it
abbrev pub entry : ℕ → ℕ
entry i = steps (8 * (i / 256 + 1)) (i % 256)

-- n values of a rule, from the i-th on
unfoldable pub tabulated : (ℕ → ℕ) → ℕ → ℕ → List ℕ
tabulated f i zero = []
tabulated f i (suc n) = f i ∷ tabulated f (suc i) n

unfoldable pub crc_tables : List ℕ
crc_tables = tabulated entry 0 2048

-- the k low bytes of x looked up in the tables from a row on, and XORed to c
unfoldable pub looked_up : List ℕ → ℕ → ℕ → ℕ → ℕ → ℕ
looked_up t row x zero c = c
looked_up t row x (suc k) c = looked_up t row x k (bit_xor c (get_or t ((row + k) * 256 + x / 2 ^ (8 * k) % 256) 0))

-- the CRC of eight zero bytes
abbrev pub crc_of_zero : ℕ
crc_of_zero = 0x6522DF69

unfoldable pub crc_by : List ℕ → ℕ → ℕ
crc_by t x = looked_up t 0 x 8 crc_of_zero

unfoldable pub next_by : List ℕ → ℕ → ℕ → ℕ
next_by t d i = looked_up t 0 i 1 (looked_up t 4 d 4 crc_of_zero)
