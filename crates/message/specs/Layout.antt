-- The messages (document 01, "Messages"): what each says, its bytes, and its ranges.
--
--   Content            what a message says: its numbers and its items. A hash is a number below 2^512
--   in_slice size o     how many buckets the slice at an offset has
--   slice_type size o   IBF or IBF LAST
--   framed t body      MSG SIZE and MSG TYPE before what follows them
--   layout c           the bytes of a message, the table of document 01 line by line
--   slice_bytes w n     the size of a message with a slice of n buckets at width w
--   Good c             everything that c says is in its range
--
-- Every number goes through `packed`: bytes most significant first, counters side by side (bucket/specs/Digits).
-- Assumes nothing.
use Rattle.std.specs.Prelude.{◌≡◌, Bool, true, ◌&&◌, ◌||◌, cond, List, [], ◌∷◌, ◌++◌, ℕ, ◌+◌, ◌-◌, ◌*◌, ◌^◌, ◌<◌, min, eqb, ltb, leb, length}
use Rattle.bucket.specs.Digits.{bytes_for, packed, Below}

-- MSG TYPE: "the numbers registered in 000's GANA section"
abbrev pub DEMAND : ℕ
DEMAND = 560

abbrev pub INQUIRY : ℕ
INQUIRY = 561

abbrev pub OFFER : ℕ
OFFER = 562

abbrev pub IBF : ℕ
IBF = 565

abbrev pub ELEMENT : ℕ
ELEMENT = 566

abbrev pub IBF_LAST : ℕ
IBF_LAST = 567

abbrev pub DONE : ℕ
DONE = 568

pub data Content : Type 0 where
  slice : (size offset salt width : ℕ) → (ids hashes counts : List ℕ) → Content
  inquiry : (salt : ℕ) → (ids : List ℕ) → Content
  offer : (hashes : List ℕ) → Content
  demand : (hashes : List ℕ) → Content
  element : (bytes : List ℕ) → Content
  done : (check : ℕ) → Content

-- "n = min(size − offset, 2,520)"
abbrev pub in_slice : ℕ → ℕ → ℕ
in_slice size offset = min (size - offset) 2520

-- "IBF LAST is the slice that reaches the end, IBF any other."
abbrev pub slice_type : ℕ → ℕ → ℕ
slice_type size offset = cond (eqb (offset + in_slice size offset) size) IBF_LAST IBF

-- "Each begins with MSG SIZE (16 bits, header included) and MSG TYPE (16 bits ..)"
unfoldable pub framed : ℕ → List ℕ → List ℕ
framed type body = packed 16 ((4 + length body) ∷ type ∷ []) ++ body

unfoldable pub layout : Content → List ℕ
-- "size 4 bytes, offset 4, salt 2, width 2; n IDSUMs, n HASHSUMs, n packed counters"
layout (slice size offset salt width ids hashes counts) =
    framed (slice_type size offset)
    (packed 32 (size ∷ offset ∷ [])
    ++ (packed 16 (salt ∷ width ∷ []) ++ (packed 64 ids ++ (packed 32 hashes ++ packed width counts))))
-- "salt 4; 1 to 8,190 IDs"
layout (inquiry salt ids) = framed INQUIRY (packed 32 (salt ∷ []) ++ packed 64 ids)
-- "1 to 1,023 hashes"
layout (offer hashes) = framed OFFER (packed 512 hashes)
layout (demand hashes) = framed DEMAND (packed 512 hashes)
-- "1 to 65,531 bytes"
layout (element bytes) = framed ELEMENT bytes
-- "XOR of all hashes held"
layout (done check) = framed DONE (packed 512 (check ∷ []))

-- "16 + 12n + ceil(n × width / 8)"
abbrev pub slice_bytes : ℕ → ℕ → ℕ
slice_bytes width n = 16 + 12 * n + bytes_for (width * n)

-- 37 to 4,096 buckets; "An offset is 0 or 2,520, below the size"; salt 0 to 63; "readers take 1 to 32"
abbrev pub slice_good : ℕ → ℕ → ℕ → ℕ → Bool
slice_good size offset salt width =
    leb 37 size && leb size 4096 && (eqb offset 0 || eqb offset 2520) && ltb offset size && ltb salt 64 && leb 1 width && leb width 32

pub record GoodSlice (size offset salt width : ℕ) (ids hashes counts : List ℕ) : Type 0 where
  pub ranges : slice_good size offset salt width ≡ true
  pub n-ids : length ids ≡ in_slice size offset
  pub n-hashes : length hashes ≡ in_slice size offset
  pub n-counts : length counts ≡ in_slice size offset
  pub ids-fit : Below 64 ids
  pub hashes-fit : Below 32 hashes
  pub counts-fit : Below width counts

-- 1 to high items of w bits
pub record Many (w high : ℕ) (xs : List ℕ) : Type 0 where
  pub number : (leb 1 (length xs) && leb (length xs) high) ≡ true
  pub fit : Below w xs

abbrev pub Good : Content → Type 0
Good (slice size offset salt width ids hashes counts) = GoodSlice size offset salt width ids hashes counts
Good (inquiry salt ids) = (ltb salt 64 ≡ true) × Many 64 8190 ids
Good (offer hashes) = Many 512 1023 hashes
Good (demand hashes) = Many 512 1023 hashes
Good (element bytes) = Many 8 65531 bytes
Good (done check) = check < 2 ^ 512
