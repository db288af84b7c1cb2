-- Numbers of w bits side by side, highest bit first: joined to one number, and cut apart again.
-- Bytes are the case w = 8. Every byte, field, ID, hash and counter of the library goes through `joined` and `groups`.
--
--   joined w xs         the w low bits of each number of xs, one after the other, as one number
--   groups w n x        the last n groups of w bits of x, highest first
--   put_into at k x s    the memory s with k bytes of x written into it
--   packed w xs         numbers of w bits in bytes (document 01, "Messages": packed counters)
--   unpacked w n bs     the n numbers of w bits that stand in bytes
--   spare_bits w n bs    what stands in the bits behind them
--   bit_at w xs j        bit j of numbers of w bits, highest first from 0
--   before xs ys        xs comes before ys where they first differ
--
-- Laws (proofs/DigitLaws, PackedLaws): groups-joined, joined-groups, before-joined; unpacked-packed, packed-unpacked; packed-bit, packed-rest,
-- unpacked-bit, spare_zero: where each bit stands.
-- Assumes nothing.
use Rattle.std.specs.Prelude.{Bool, false, ◌&&◌, cond, List, [], ◌∷◌, ℕ, zero, suc, ◌+◌, ◌-◌, ◌*◌, ◌/◌, ◌%◌, ◌^◌, ◌<◌, eqb, ltb, leb, length, get_or}
use Rattle.bucket.specs.Lists.{over}

unfoldable pub joined : ℕ → List ℕ → ℕ
joined w [] = 0
joined w (x ∷ xs) = x % 2 ^ w * 2 ^ (w * length xs) + joined w xs

unfoldable pub groups : ℕ → ℕ → ℕ → List ℕ
groups w zero x = []
groups w (suc n) x = x / 2 ^ (w * n) % 2 ^ w ∷ groups w n x

-- each number has w bits
abbrev pub Below : ℕ → List ℕ → Type 0
Below w xs = (i : ℕ) → get_or xs i 0 < 2 ^ w

-- the order of lists of one length, from the front
unfoldable pub before : List ℕ → List ℕ → Bool
before [] ys = false
before (x ∷ xs) [] = false
before (x ∷ xs) (y ∷ ys) = cond (eqb x y) (before xs ys) (ltb x y)

-- the memory s with the k low bytes of x written into it from at on; unchanged where k is above eight or they do not fit
unfoldable pub put_into : ℕ → ℕ → ℕ → List ℕ → List ℕ
put_into at k x s = cond (leb k 8 && leb (at + k) (length s)) (over at (groups 8 k x) s) s

-- the bytes that n bits take, and the bits left over in them
abbrev pub bytes_for : ℕ → ℕ
bytes_for n = (n + 7) / 8

abbrev pub spare : ℕ → ℕ
spare n = 8 * bytes_for n - n

-- "Counters are packed highest bit first, spare low bits zero."
unfoldable pub packed : ℕ → List ℕ → List ℕ
packed w xs = groups 8 (bytes_for (w * length xs)) (joined w xs * 2 ^ spare (w * length xs))

unfoldable pub unpacked : ℕ → ℕ → List ℕ → List ℕ
unpacked w n bs = groups w n (joined 8 bs / 2 ^ spare (w * n))

unfoldable pub spare_bits : ℕ → ℕ → List ℕ → ℕ
spare_bits w n bs = joined 8 bs % 2 ^ spare (w * n)

abbrev pub bit_at : ℕ → List ℕ → ℕ → ℕ
bit_at w xs j = get_or xs (j / w) 0 / 2 ^ (w - 1 - j % w) % 2
