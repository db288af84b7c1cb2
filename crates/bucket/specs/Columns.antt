-- The three columns of a filter as lent slices, and one bucket of them changed.
--
--   columns is hs cs    the columns IDSUM, HASHSUM and COUNT
--   view c i            bucket i; past the end of a column its part is zero
--   place c i b         the columns with bucket i replaced by b
--   is_open c i d        bucket i is inside all three columns, and its count and d are below 2^61 either way
--
-- Counts are lent as signed numbers of 64 bits: the bound keeps every sum exact. A filter's counts stay far below it.
-- Laws (proofs/ColumnLaws): is_open_inside, is_open_small; place_same, place_other, place-lengths.
-- Assumes nothing.
use Rattle.std.specs.Prelude.{Bool, ◌&&◌, List, ℕ, suc, ◌^◌, ltb, ℤ, pos, negsuc, length, get_or, set}
use Rattle.bucket.specs.Bucket.{Bucket, bucket}

pub record Columns : Type 0 where
  pub idsums : List ℕ
  pub hashsums : List ℕ
  pub counts : List ℤ

abbrev pub columns : List ℕ → List ℕ → List ℤ → Columns
columns is hs cs = record { idsums = is; hashsums = hs; counts = cs }

unfoldable pub view : Columns → ℕ → Bucket
view c i = bucket (get_or c.idsums i 0) (get_or c.hashsums i 0) (get_or c.counts i (pos 0))

unfoldable pub place : Columns → ℕ → Bucket → Columns
place c i b = columns (set c.idsums i b.idsum) (set c.hashsums i b.hashsum) (set c.counts i b.count)

abbrev pub is_small : ℤ → Bool
is_small (pos n) = ltb n (2 ^ 61)
is_small (negsuc n) = ltb (suc n) (2 ^ 61)

unfoldable pub is_open : Columns → ℕ → ℤ → Bool
is_open c i d =
    ltb i (length c.idsums)
    && (ltb i (length c.hashsums) && (ltb i (length c.counts) && (is_small (get_or c.counts i (pos 0)) && is_small d)))
