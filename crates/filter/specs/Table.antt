-- A table (document 01, "Slips, IDs and places"): "hashes of 64 bytes, strictly ascending, at most 4,096, no two sharing an ID".
--
--   hash_at t i             hash i of the bytes t, as a number, most significant byte first
--   hashes_of t             all whole hashes of t
--   first_eight h           "The ID is the first eight bytes, most significant first."
--   ids_of derive t         the IDs of the hashes, by the derivation of IDs
--   is_table derive t       the form of a table
--   position l a           where a binary search for a in the list l ends: of the IDs or of the hashes
--   holds l a              whether a stands there
--
-- A hash is a number below 2^512, so that every order is that of numbers. The derivation of IDs is a parameter: first_eight is document 01's.
-- Laws (proofs/TableLaws): table-ids, hash-id, held-id, held-hash. (proofs/IdLaws): ids-distinct, ids-below.
-- Assumes nothing.
use Rattle.std.specs.Prelude.{Bool, ◌&&◌, List, map, ℕ, ◌*◌, ◌/◌, ◌%◌, ◌^◌, eqb, ltb, leb, length, get_or}
use Rattle.bucket.specs.Crc.{tabulated}
use Rattle.bucket.specs.Digits.{joined}
use Rattle.bucket.specs.Lists.{part}
use Rattle.filter.specs.Lists.{ascending, distinct, bisect}

unfoldable pub hash_at : List ℕ → ℕ → ℕ
hash_at t i = joined 8 (part (64 * i) 64 t)

unfoldable pub hashes_of : List ℕ → List ℕ
hashes_of t = tabulated (hash_at t) 0 (length t / 64)

unfoldable pub first_eight : ℕ → ℕ
first_eight h = h / 2 ^ (8 * 56)

unfoldable pub ids_of : (ℕ → ℕ) → List ℕ → List ℕ
ids_of derive t = map derive (hashes_of t)

unfoldable pub is_table : (ℕ → ℕ) → List ℕ → Bool
is_table derive t =
    eqb (length t % 64) 0 && (leb (length t / 64) 4096 && (ascending (hashes_of t) && distinct (ids_of derive t)))

-- the first of a list of numbers that is not below a, if the list is ascending
unfoldable pub position : List ℕ → ℕ → ℕ
position l a = bisect (λ i. ltb (get_or l i 0) a) (length l) 0 (length l)

abbrev pub holds : List ℕ → ℕ → Bool
holds l a = ltb (position l a) (length l) && eqb (get_or l (position l a) 0) a
