-- Counters in bytes, as the code is asked for them: every width, length and position is answered.
--
--   numbers cs            counts as the numbers that are packed
--   is_width w             1 to 32
--   fits_in w cs           each count is a number of w bits
--   takes w n at room     n counters of width w from position at on lie within room bytes (at most 65,536 of them)
--   Packed w n bs         bytes in which n counters of width w stand
--   pack_into w cs at s    the memory s with the counts packed into it from at on; pack_end: the position behind them
--   counter_at w n at s i  counter i of n that stand in s from at on
--   is_bare w n at s       the spare bits behind them are zero
--   unpack_into ..         a column with the counters that stand in s laid into it
--
-- Where the counts do not fit the width, or the bytes or the column are too short, nothing is written.
-- Laws (proofs/RoundLaws): bit-written, spare-written, bit-read: where each bit stands in memory; packed-back, packed-bare: what was packed is read back.
-- Assumes nothing.
use Rattle.std.specs.Prelude.{◌≡◌, Bool, true, false, ◌&&◌, cond, List, [], ◌∷◌, map, ℕ, ◌+◌, ◌*◌, ◌^◌, ◌≤◌, eqb, ltb, leb, ℤ, pos, negsuc, length, get_or}
use Rattle.bucket.specs.Digits.{bytes_for, packed, unpacked, spare_bits}
use Rattle.bucket.specs.Lists.{over, part}

abbrev pub number : ℤ → ℕ
number (pos n) = n
number (negsuc n) = 0

abbrev pub numbers : List ℤ → List ℕ
numbers cs = map number cs

abbrev pub has_bits : ℕ → ℤ → Bool
has_bits w (pos n) = ltb n (2 ^ w)
has_bits w (negsuc n) = false

unfoldable pub fits_in : ℕ → List ℤ → Bool
fits_in w [] = true
fits_in w (c ∷ cs) = has_bits w c && fits_in w cs

abbrev pub is_width : ℕ → Bool
is_width w = leb 1 w && leb w 32

abbrev pub takes : ℕ → ℕ → ℕ → ℕ → Bool
takes w n at room = is_width w && (leb n 65536 && leb (at + bytes_for (w * n)) room)

-- bytes in which n counters of width w stand
abbrev pub Packed : ℕ → ℕ → List ℕ → Type 0
Packed w n bs = (1 ≤ w) × (w ≤ 32) × (n ≤ 65536) × (length bs ≡ bytes_for (w * n))

-- the counts can be packed
abbrev pub packs : ℕ → List ℤ → ℕ → List ℕ → Bool
packs w cs at s = fits_in w cs && takes w (length cs) at (length s)

unfoldable pub pack_into : ℕ → List ℤ → ℕ → List ℕ → List ℕ
pack_into w cs at s = cond (packs w cs at s) (over at (packed w (numbers cs)) s) s

unfoldable pub pack_end : ℕ → List ℤ → ℕ → List ℕ → ℕ
pack_end w cs at s = cond (packs w cs at s) (at + bytes_for (w * length cs)) at

-- the n counters that stand in s from at on
abbrev pub counters_at : ℕ → ℕ → ℕ → List ℕ → List ℕ
counters_at w n at s = unpacked w n (part at (bytes_for (w * n)) s)

unfoldable pub counter_at : ℕ → ℕ → ℕ → List ℕ → ℕ → ℕ
counter_at w n at s i = cond (takes w n at (length s)) (get_or (counters_at w n at s) i 0) 0

unfoldable pub is_bare : ℕ → ℕ → ℕ → List ℕ → Bool
is_bare w n at s = takes w n at (length s) && eqb (spare_bits w n (part at (bytes_for (w * n)) s)) 0

-- the counters are there, and so is the room for them in the column
abbrev pub unpacks : ℕ → ℕ → ℕ → List ℕ → ℕ → List ℤ → Bool
unpacks w n at s from cs = takes w n at (length s) && leb (from + n) (length cs)

unfoldable pub unpack_into : ℕ → ℕ → ℕ → List ℕ → ℕ → List ℤ → List ℤ
unpack_into w n at s from cs = cond (unpacks w n at s from cs) (over from (map pos (counters_at w n at s)) cs) cs
