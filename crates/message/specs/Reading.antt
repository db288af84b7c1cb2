-- Bytes read as exactly one message: its kind and numbers, and what it says.
--
--   field k at bs     the number in the k bytes from position at on
--   parse bs          the kind and numbers of the message that bs is, or None
--   content m bs      what the bytes bs say, read as m
--   head c            the kind and numbers of what is said
--   numbers_of ..      a message as numbers, for C
--
-- Laws (proofs/ExactLaws): read_exactly, bytes are read as m exactly when they are the layout of something good whose head is m; so None is
-- exactly the complement of what the layout admits.
-- Assumes nothing.
use Rattle.std.specs.Prelude.{Bool, ◌&&◌, ◌||◌, cond, List, ℕ, ◌+◌, ◌-◌, ◌*◌, ◌/◌, ◌%◌, eqb, ltb, leb, length, drop, Option, Some, None}
use Rattle.bucket.specs.Digits.{joined, unpacked}
use Rattle.bucket.specs.Lists.{part}
use Rattle.bucket.specs.Packing.{counters_at, is_bare}
use Rattle.filter.specs.declared.answers.Refusal.TheVariants.{Malformed}
use Rattle.filter.specs.Answers.{refusal_number}
use Rattle.message.specs.declared.kinds.Message.{Message}
use Rattle.message.specs.declared.kinds.Message.TheVariants.{Ibf, IbfLast, Inquiry, Offer, Demand, Element, Done}
use Rattle.message.specs.declared.kinds.MessageNumbers.{MessageNumbers}
use Rattle.message.specs.declared.kinds.Slice.{Slice}
use Rattle.message.specs.Layout.{DEMAND, INQUIRY, OFFER, IBF, ELEMENT, IBF_LAST, DONE, Content, slice, inquiry, offer, demand, element, done, in_slice, slice_type, slice_bytes, slice_good}

abbrev pub field : ℕ → ℕ → List ℕ → ℕ
field k at bs = joined 8 (part at k bs)

-- the numbers of a slice are good, and type and size are those of its layout
abbrev pub slice_fits : ℕ → ℕ → ℕ → ℕ → ℕ → ℕ → Bool
slice_fits type size offset salt width len =
    slice_good size offset salt width && eqb type (slice_type size offset) && eqb len (slice_bytes width (in_slice size offset))

-- the numbers of a slice, which has as many buckets as its offset leaves
abbrev pub slice_with : ℕ → ℕ → ℕ → ℕ → Slice
slice_with size offset salt width = record { size = size; offset = offset; salt = salt; width = width; count = in_slice size offset }

abbrev pub slice_head : ℕ → ℕ → ℕ → ℕ → ℕ → Message
slice_head type size offset salt width =
    cond (eqb type IBF_LAST) (IbfLast (slice_with size offset salt width)) (Ibf (slice_with size offset salt width))

-- "spare low bits zero"
abbrev pub slice_of : ℕ → ℕ → ℕ → ℕ → ℕ → List ℕ → Option Message
slice_of type size offset salt width bs =
    cond (slice_fits type size offset salt width (length bs))
    (cond (is_bare width (in_slice size offset) (16 + 12 * in_slice size offset) bs) (Some (slice_head type size offset salt width)) None)
    None

unfoldable pub parse_slice : ℕ → List ℕ → Option Message
parse_slice type bs =
    cond (leb 16 (length bs)) (slice_of type (field 4 4 bs) (field 4 8 bs) (field 2 12 bs) (field 2 14 bs) bs) None

unfoldable pub parse_inquiry : List ℕ → Option Message
parse_inquiry bs =
    cond (leb 16 (length bs))
    (cond (eqb (length bs % 8) 0 && ltb (field 4 4 bs) 64) (Some (Inquiry (field 4 4 bs) ((length bs - 8) / 8))) None)
    None

-- at least one hash, and no part of another
abbrev pub hashes_fit : ℕ → Bool
hashes_fit len = leb 68 len && eqb (len % 64) 4

-- "a message .. whose type is not in this table" is malformed
abbrev pub parse_body : ℕ → List ℕ → Option Message
parse_body type bs =
    cond (eqb type IBF || eqb type IBF_LAST) (parse_slice type bs)
    (cond (eqb type INQUIRY) (parse_inquiry bs)
    (cond (eqb type OFFER) (cond (hashes_fit (length bs)) (Some (Offer (length bs / 64))) None)
    (cond (eqb type DEMAND) (cond (hashes_fit (length bs)) (Some (Demand (length bs / 64))) None)
    (cond (eqb type ELEMENT) (cond (leb 5 (length bs)) (Some (Element (length bs - 4))) None)
    (cond (eqb type DONE) (cond (eqb (length bs) 68) (Some Done) None)
    None)))))

-- MSG SIZE is the number of bytes
unfoldable pub parse : List ℕ → Option Message
parse bs = cond (leb 4 (length bs) && eqb (field 2 0 bs) (length bs)) (parse_body (field 2 2 bs) bs) None

-- the slice that stands in the bytes bs
abbrev pub slice_in : Slice → List ℕ → Content
slice_in s bs =
    let n = s.count in
    slice s.size s.offset s.salt s.width
    (unpacked 64 n (part 16 (8 * n) bs))
    (unpacked 32 n (part (16 + 8 * n) (4 * n) bs))
    (counters_at s.width n (16 + 12 * n) bs)

unfoldable pub content : Message → List ℕ → Content
content (Ibf s) bs = slice_in s bs
content (IbfLast s) bs = slice_in s bs
content (Inquiry salt n) bs = inquiry salt (unpacked 64 n (drop 8 bs))
content (Offer n) bs = offer (unpacked 512 n (drop 4 bs))
content (Demand n) bs = demand (unpacked 512 n (drop 4 bs))
content (Element n) bs = element (drop 4 bs)
content Done bs = done (joined 8 (drop 4 bs))

unfoldable pub head : Content → Message
head (slice size offset salt width ids hashes counts) = slice_head (slice_type size offset) size offset salt width
head (inquiry salt ids) = Inquiry salt (length ids)
head (offer hashes) = Offer (length hashes)
head (demand hashes) = Demand (length hashes)
head (element bytes) = Element (length bytes)
head (done check) = Done

-- what stands from start up to next as numbers: the refusal's, MSG TYPE, or 0 where there is no message, and its numbers and count of items, or 0
abbrev pub numbered : ℕ → ℕ → ℕ → ℕ → ℕ → ℕ → ℕ → ℕ → ℕ → MessageNumbers
numbered refusal kind size offset salt width count start next =
    record { refusal = refusal; kind = kind; size = size; offset = offset; salt = salt; width = width; count = count; start = start; next = next }

-- refusal 4: "message malformed"
abbrev pub numbers_of : Option Message → ℕ → ℕ → MessageNumbers
numbers_of (Some (Ibf s)) start next = numbered 0 IBF s.size s.offset s.salt s.width s.count start next
numbers_of (Some (IbfLast s)) start next = numbered 0 IBF_LAST s.size s.offset s.salt s.width s.count start next
numbers_of (Some (Inquiry salt n)) start next = numbered 0 INQUIRY 0 0 salt 0 n start next
numbers_of (Some (Offer n)) start next = numbered 0 OFFER 0 0 0 0 n start next
numbers_of (Some (Demand n)) start next = numbered 0 DEMAND 0 0 0 0 n start next
numbers_of (Some (Element n)) start next = numbered 0 ELEMENT 0 0 0 0 n start next
numbers_of (Some Done) start next = numbered 0 DONE 0 0 0 0 1 start next
numbers_of None start next = numbered (refusal_number Malformed) 0 0 0 0 0 0 start start
