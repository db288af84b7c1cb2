-- The items of a message by number, where they stand in its bytes; 0 or nothing where the bytes do not hold them.
--
--   number_at k from bs i     number i of those of k bytes each that stand in bs from a position on
--   id_at bs i                ID i of an INQUIRY
--   idsum_at n bs i           IDSUM i of a slice of n buckets; hashsum_at, counter_of: likewise
--   hash_part bs i            the 64 bytes of hash i of an OFFER or DEMAND; of a DONE hash 0 is the checksum
--   content_of bs             the content of an ELEMENT: "handed back as a part of the buffer"
--
-- Laws (proofs/ItemLaws): of a message that was read, these are the items of `content`.
-- Assumes nothing.
use Rattle.std.specs.Prelude.{◌&&◌, cond, List, [], ℕ, ◌+◌, ◌*◌, ltb, leb, length, drop}
use Rattle.bucket.specs.Lists.{part}
use Rattle.bucket.specs.Packing.{counter_at}
use Rattle.message.specs.Reading.{field}

unfoldable pub number_at : ℕ → ℕ → List ℕ → ℕ → ℕ
number_at k from bs i = cond (leb (from + k * i + k) (length bs)) (field k (from + k * i) bs) 0

unfoldable pub id_at : List ℕ → ℕ → ℕ
id_at bs i = number_at 8 8 bs i

unfoldable pub idsum_at : ℕ → List ℕ → ℕ → ℕ
idsum_at n bs i = cond (ltb i n) (number_at 8 16 bs i) 0

unfoldable pub hashsum_at : ℕ → List ℕ → ℕ → ℕ
hashsum_at n bs i = cond (leb n 2520 && ltb i n) (number_at 4 (16 + 8 * n) bs i) 0

unfoldable pub counter_of : ℕ → ℕ → List ℕ → ℕ → ℕ
counter_of n width bs i = cond (leb n 2520) (counter_at width n (16 + 12 * n) bs i) 0

unfoldable pub hash_part : List ℕ → ℕ → List ℕ
hash_part bs i = cond (leb (4 + 64 * i + 64) (length bs)) (part (4 + 64 * i) 64 bs) []

abbrev pub content_of : List ℕ → List ℕ
content_of bs = drop 4 bs
