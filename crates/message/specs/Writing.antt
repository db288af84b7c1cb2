-- Messages written from a position of a lent buffer (document 01, "Messages").
--
--   layouts cs          messages end to end
--   pieces k l          a list cut: "full messages and a last one"
--   inquiries_of s ids   INQUIRY messages for a list of IDs; offers_of, demands_of: for hashes
--   width_for n cs       the smallest width for the first n counts
--   slices_of ..         a whole filter as one slice or two
--   have_room cs at out  the messages lie within the buffer
--   wrote r cs at out   what a writer answers and leaves: the next position with the messages written, or the refusal and everything unchanged
--   inquiry_call ..      the writers, each with its refusals in the order in which they are tried
--   write_numbers w      the same with the answer as numbers, for C
--
-- Laws (proofs/RoundLaws): a writer's answer is read back, message by message; (proofs/PieceLaws): the pieces are the list, and each is in range;
-- (proofs/WidthLaws): width-smallest.
-- Assumes nothing.
use Rattle.std.specs.Prelude.{Bool, ◌&&◌, cond, Option, None, Some, Result, Ok, Err, List, [], ◌∷◌, ◌++◌, map, ℕ, zero, suc, ◌+◌, ◌-◌, ◌/◌, ◌%◌, max, eqb, ltb, leb, ℤ, length, take, drop}
use Rattle.bucket.specs.Columns.{Columns}
use Rattle.bucket.specs.Counts.{width_of}
use Rattle.bucket.specs.Digits.{joined}
use Rattle.bucket.specs.Lists.{over, part}
use Rattle.bucket.specs.Packing.{numbers}
use Rattle.filter.specs.declared.answers.Refusal.{Refusal}
use Rattle.filter.specs.declared.answers.Refusal.TheVariants.{Form, Room, Range, Malformed}
use Rattle.filter.specs.Answers.{refusal_number, number_of, first_of}
use Rattle.filter.specs.Calls.{in_range, are_counts, has_room}
use Rattle.filter.specs.Table.{hashes_of}
use Rattle.message.specs.declared.kinds.Written.{Written}
use Rattle.message.specs.Layout.{Content, slice, inquiry, offer, demand, element, done, layout, in_slice}

unfoldable pub layouts : List Content → List ℕ
layouts [] = []
layouts (c ∷ cs) = layout c ++ layouts cs

-- m pieces of k items each, the last of what is left
unfoldable pub pieces_of : ℕ → ℕ → List ℕ → List (List ℕ)
pieces_of k zero l = []
pieces_of k (suc m) l = take k l ∷ pieces_of k m (drop k l)

-- n items take n / k messages, rounded up: none for an empty list
abbrev pub messages : ℕ → ℕ → ℕ
messages k n = (n + (k - 1)) / k

abbrev pub pieces : ℕ → List ℕ → List (List ℕ)
pieces k l = pieces_of k (messages k (length l)) l

abbrev pub inquiries_of : ℕ → List ℕ → List Content
inquiries_of salt ids = map (inquiry salt) (pieces 8190 ids)

abbrev pub offers_of : List ℕ → List Content
offers_of hashes = map offer (pieces 1023 hashes)

abbrev pub demands_of : List ℕ → List Content
demands_of hashes = map demand (pieces 1023 hashes)

unfoldable pub largest : List ℕ → ℕ
largest [] = 0
largest (x ∷ xs) = max x (largest xs)

-- "Writers use the smallest width that holds the largest counter of the whole filter, at least 1"
unfoldable pub width_for : ℕ → List ℤ → ℕ
width_for n cs = width_of (largest (numbers (take n cs)))

-- the slice at an offset of a filter in three columns
abbrev pub slice_at : ℕ → ℕ → ℕ → ℕ → Columns → Content
slice_at size offset salt width c =
    slice size offset salt width
    (part offset (in_slice size offset) c.idsums)
    (part offset (in_slice size offset) c.hashsums)
    (numbers (part offset (in_slice size offset) c.counts))

-- "Slices come in offset order without a gap, with one size, salt and width."
unfoldable pub slices_of : ℕ → ℕ → ℕ → Columns → List Content
slices_of size salt width c =
    slice_at size 0 salt width c ∷ cond (ltb 2520 size) (slice_at size 2520 salt width c ∷ []) []

unfoldable pub have_room : List Content → ℕ → List ℕ → Bool
have_room cs at out = leb (at + length (layouts cs)) (length out)

pub record Write : Type 0 where
  pub answer : Result ℕ Refusal
  pub out : List ℕ

abbrev pub write : Result ℕ Refusal → List ℕ → Write
write a out = record { answer = a; out = out }

unfoldable pub wrote : Option Refusal → List Content → ℕ → List ℕ → Write
wrote None cs at out = write (Ok (at + length (layouts cs))) (over at (layouts cs) out)
wrote (Some r) cs at out = write (Err r) out

-- 3 for the salt, 2
unfoldable pub inquiry_call : ℕ → List ℕ → ℕ → List ℕ → Write
inquiry_call salt ids at out =
    let cs = inquiries_of salt ids in
    wrote (first_of ((Range, ltb salt 64) ∷ (Room, have_room cs at out) ∷ [])) cs at out

-- 1 where the bytes are not whole hashes, 2; say makes the messages, offers_of or demands_of
unfoldable pub hashes_call : (List ℕ → List Content) → List ℕ → ℕ → List ℕ → Write
hashes_call say bytes at out =
    let cs = say (hashes_of bytes) in
    wrote (first_of ((Form, eqb (length bytes % 64) 0) ∷ (Room, have_room cs at out) ∷ [])) cs at out

-- 2, then 4 for a content that no message can hold
unfoldable pub element_call : List ℕ → ℕ → List ℕ → Write
element_call bytes at out =
    let cs = element bytes ∷ [] in
    wrote (first_of ((Room, have_room cs at out) ∷ (Malformed, leb 1 (length bytes) && leb (length bytes) 65531) ∷ [])) cs at out

-- 2, for a checksum of fewer than 64 bytes too
unfoldable pub done_call : List ℕ → ℕ → List ℕ → Write
done_call check at out =
    let cs = done (joined 8 (take 64 check)) ∷ [] in
    wrote (first_of ((Room, leb 64 (length check) && have_room cs at out) ∷ [])) cs at out

-- 1 for a COUNT among the first size places, 3, 2
unfoldable pub filter_call : ℕ → ℕ → Columns → ℕ → List ℕ → Write
filter_call size salt c at out =
    let cs = slices_of size salt (width_for size c.counts) c in
    wrote
    (first_of ((Form, are_counts size c.counts) ∷ (Range, in_range size salt) ∷ (Room, has_room size c && have_room cs at out) ∷ []))
    cs at out

-- an answer as numbers: the refusal, and the next position, 0 where it is refused
abbrev pub written_of : Result ℕ Refusal → Written
written_of (Ok next) = record { refusal = number_of None; next = next }
written_of (Err r) = record { refusal = refusal_number r; next = 0 }

pub record Left : Type 0 where
  pub answer : Written
  pub out : List ℕ

abbrev pub left : Written → List ℕ → Left
left w out = record { answer = w; out = out }

abbrev pub write_numbers : Write → Left
write_numbers w = left (written_of w.answer) w.out
