-- What the private functions that put messages into a buffer, and lay slices into columns, say of their steps. Nothing that a public contract cites.
--
--   item_in k from bs i      the bytes of item i of those of k bytes each that stand in bs from a position on, or none
--   end_to_end say ps         the bytes that say makes of each piece, one after the other
--   framed_hashes t hs       the bytes of a message of type t with hashes; Says t say: that say makes such messages
--   cut_bytes k h b n        the bytes of n items of b bytes each in messages of at most k, each with h bytes before its items
--   head_of s                the sixteen bytes before a slice's columns
--   filter_bytes w size      the bytes of a whole filter
--   SlicePut, FilterPut     what a slice, a filter can be put on
--   lay_buckets ..           the buckets that stand in a message's bytes laid into columns, as refusal 2 allows
--
-- Assumes nothing.
use Rattle.std.specs.Prelude.{◌≡◌, true, cond, None, Some, List, [], ◌∷◌, ◌++◌, map, ℕ, ◌+◌, ◌*◌, ◌≤◌, leb, ltb, pos, length, take}
use Rattle.bucket.specs.Columns.{Columns, columns}
use Rattle.bucket.specs.Digits.{packed, unpacked}
use Rattle.bucket.specs.Lists.{over, part}
use Rattle.bucket.specs.Packing.{counters_at, fits_in}
use Rattle.filter.specs.declared.answers.Refusal.TheVariants.{Room}
use Rattle.filter.specs.Calls.{has_room}
use Rattle.message.specs.declared.kinds.Slice.{Slice}
use Rattle.message.specs.Laying.{Lay, lay}
use Rattle.message.specs.Layout.{Content, layout, framed, in_slice, slice_type, slice_bytes}
use Rattle.message.specs.Writing.{messages}

unfoldable pub item_in : ℕ → ℕ → List ℕ → ℕ → List ℕ
item_in k from bs i = cond (leb (from + k * i + k) (length bs)) (part (from + k * i) k bs) []

unfoldable pub end_to_end : (List ℕ → List ℕ) → List (List ℕ) → List ℕ
end_to_end say [] = []
end_to_end say (l ∷ ls) = say l ++ end_to_end say ls

unfoldable pub framed_hashes : ℕ → List ℕ → List ℕ
framed_hashes type hashes = framed type (packed 512 hashes)

-- what is said of hashes is laid out as messages of type t
abbrev pub Says : ℕ → (List ℕ → Content) → Type 0
Says type say = (hs : List ℕ) → layout (say hs) ≡ framed_hashes type hs

abbrev pub cut_bytes : ℕ → ℕ → ℕ → ℕ → ℕ
cut_bytes k head item n = head * messages k n + item * n

unfoldable pub head_of : Slice → List ℕ
head_of s =
    packed 16 (slice_bytes s.width s.count ∷ slice_type s.size s.offset ∷ [])
    ++ (packed 32 (s.size ∷ s.offset ∷ []) ++ packed 16 (s.salt ∷ s.width ∷ []))

abbrev pub filter_bytes : ℕ → ℕ → ℕ
filter_bytes width size = slice_bytes width (in_slice size 0) + cond (ltb 2520 size) (slice_bytes width (in_slice size 2520)) 0

pub record SlicePut (size offset width : ℕ) (c : Columns) (out : List ℕ) (at : ℕ) : Type 0 where
  pub some : 1 ≤ width
  pub most : width ≤ 32
  pub high : size ≤ 4096
  pub within : offset ≤ size
  pub ids-there : size ≤ length c.idsums
  pub hashes-there : size ≤ length c.hashsums
  pub counts-there : size ≤ length c.counts
  pub counts-fit : fits_in width (take size c.counts) ≡ true
  pub room : at + slice_bytes width (in_slice size offset) ≤ length out

pub record FilterPut (size width : ℕ) (c : Columns) (out : List ℕ) (at : ℕ) : Type 0 where
  pub some : 1 ≤ width
  pub most : width ≤ 32
  pub low : 1 ≤ size
  pub high : size ≤ 4096
  pub ids-there : size ≤ length c.idsums
  pub hashes-there : size ≤ length c.hashsums
  pub counts-there : size ≤ length c.counts
  pub counts-fit : fits_in width (take size c.counts) ≡ true
  pub room : at + filter_bytes width size ≤ length out

abbrev pub buckets_laid : ℕ → ℕ → ℕ → List ℕ → Columns → Columns
buckets_laid offset width n bs c =
    columns
    (over offset (unpacked 64 n (part 16 (8 * n) bs)) c.idsums)
    (over offset (unpacked 32 n (part (16 + 8 * n) (4 * n) bs)) c.hashsums)
    (over offset (map pos (counters_at width n (16 + 12 * n) bs)) c.counts)

unfoldable pub lay_buckets : ℕ → ℕ → ℕ → List ℕ → Columns → Lay
lay_buckets offset width n bs c =
    cond (has_room (offset + n) c) (lay None (buckets_laid offset width n bs c)) (lay (Some Room) c)
