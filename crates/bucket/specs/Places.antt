-- The places of an element (document 01, "Slips, IDs and places"), over how many it has, the size of the filter, and draw 0.
--
--   draw next d i            draw i of the chain that begins with d: the draw after e, the i-th, is next e i
--   crc_next e i              document 01's: "the CRC-32 of the number draw i × 2^32 + i"
--   places_by next k size d   "the first three distinct remainders of draws modulo the filter size among draws 0 to 63;
--                            if there are fewer, the lowest bucket numbers not yet taken make up three", with k for three
--   places k size d          the same by crc_next; d is the CRC-32 of the salted ID
--   place_count size          how many places an element has in a filter of a size
--
-- The code draws by lent tables, so its contract is over `next_by` of those; with the right tables that is `places` (places_by_tables).
-- Laws (proofs/PlaceLaws): places-length, places-distinct, places-below, places_by_tables; place-count-some, place-count-most.
-- Assumes nothing.
use Rattle.std.specs.Prelude.{◌||◌, cond, List, [], ◌∷◌, ◌++◌, ℕ, zero, suc, ◌+◌, ◌-◌, ◌*◌, ◌%◌, ◌^◌, ltb, leb, eqb, length}
use Rattle.bucket.specs.Crc.{crc_of}
use Rattle.bucket.specs.Lists.{elem}

unfoldable pub draw : (ℕ → ℕ → ℕ) → ℕ → ℕ → ℕ
draw next d zero = d
draw next d (suc i) = next (draw next d i) i

abbrev pub crc_next : ℕ → ℕ → ℕ
crc_next e i = crc_of (e * 2 ^ 32 + i)

-- candidates 0 to 63 are the draws' remainders, and those after them the bucket numbers from 0
abbrev pub candidate : (ℕ → ℕ → ℕ) → ℕ → ℕ → ℕ → ℕ
candidate next size d i = cond (ltb i 64) (draw next d i % size) (i - 64)

-- m candidates, from the i-th on
unfoldable pub candidates : (ℕ → ℕ → ℕ) → ℕ → ℕ → ℕ → ℕ → List ℕ
candidates next size d i zero = []
candidates next size d i (suc m) = candidate next size d i ∷ candidates next size d (suc i) m

-- c behind those taken, unless there are k already or it is one of them
abbrev pub keep : ℕ → List ℕ → ℕ → List ℕ
keep k taken c = cond (leb k (length taken) || elem c taken) taken (taken ++ c ∷ [])

unfoldable pub firsts : ℕ → List ℕ → List ℕ → List ℕ
firsts k taken [] = taken
firsts k taken (c ∷ cs) = firsts k (keep k taken c) cs

-- a filter of no buckets has no places
unfoldable pub places_by : (ℕ → ℕ → ℕ) → ℕ → ℕ → ℕ → List ℕ
places_by next k size d = cond (eqb size 0) [] (firsts k [] (candidates next size d 0 (64 + size)))

abbrev pub places : ℕ → ℕ → ℕ → List ℕ
places k size d = places_by crc_next k size d

unfoldable pub place_count : ℕ → ℕ
place_count size = 3
