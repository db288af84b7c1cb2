-- The numbers of document 01 that the definitions of messages hold, once more and by themselves: a wrong number in a definition, which code and
-- proofs would follow, breaks a line here. Each stands under the paper's words.
-- Assumes nothing.
use Rattle.std.specs.Prelude.{◌≡◌, refl, true, false, ◌&&◌, List, [], ◌∷◌, ℕ, ltb, leb, length, replicate, Some, None, Ok, Err}
use Rattle.bucket.specs.Columns.{Columns}
use Rattle.bucket.specs.Crc.{tabulated}
use Rattle.bucket.specs.Digits.{joined, groups, packed, Below}
use Rattle.filter.specs.declared.answers.Refusal.TheVariants.{Form, Room, Range, Malformed}
use Rattle.filter.specs.Table.{hashes_of}
use Rattle.message.specs.declared.kinds.Message.TheVariants.{Done}
use Rattle.message.specs.Layout.{DEMAND, INQUIRY, OFFER, IBF, ELEMENT, IBF_LAST, DONE, inquiry, offer, demand, element, done, layout, framed, in_slice, slice_type, slice_bytes, slice_good, Good}
use Rattle.message.specs.Reading.{numbers_of}
use Rattle.message.specs.Walking.{broken, walk_numbers}
use Rattle.message.specs.Writing.{layouts, pieces_of, inquiries_of, offers_of, demands_of, slices_of, have_room, wrote, inquiry_call, hashes_call, element_call, done_call, written_of}

-- "37 buckets at width 2 is 470 bytes; 4,096 at width 4 is 31,516 then 19,716."
pub sizes :
    (slice_bytes 2 (in_slice 37 0) ≡ 470)
    × (slice_bytes 4 (in_slice 4096 0) ≡ 31516)
    × (slice_bytes 4 (in_slice 4096 2520) ≡ 19716)
sizes = (refl, refl, refl)

-- "MSG TYPE (16 bits, the numbers registered in 000's GANA section)"
pub types :
    (DEMAND ≡ 560)
    × (INQUIRY ≡ 561)
    × (OFFER ≡ 562)
    × (IBF ≡ 565)
    × (ELEMENT ≡ 566)
    × (IBF_LAST ≡ 567)
    × (DONE ≡ 568)
types = (refl, refl, refl, refl, refl, refl, refl)

-- "All numbers are in network order. Each begins with MSG SIZE (16 bits, header included) and MSG TYPE"; DONE is 68 bytes
pub bytes :
    (layout (inquiry 3 (0x0102030405060708 ∷ [])) ≡ 0 ∷ 16 ∷ 2 ∷ 0x31 ∷ 0 ∷ 0 ∷ 0 ∷ 3 ∷ 1 ∷ 2 ∷ 3 ∷ 4 ∷ 5 ∷ 6 ∷ 7 ∷ 8 ∷ [])
    × (layout (element (9 ∷ [])) ≡ 0 ∷ 5 ∷ 2 ∷ 0x36 ∷ 9 ∷ [])
    × (length (layout (offer (1 ∷ 2 ∷ []))) ≡ 132)
    × (length (layout (demand (1 ∷ 2 ∷ []))) ≡ 132)
    × (length (layout (done 1)) ≡ 68)
unfolding packed groups joined layout framed
bytes = (refl, refl, refl, refl, refl)

-- "n = min(size − offset, 2,520)", "IBF LAST is the slice that reaches the end, IBF any other."
pub slices :
    (in_slice 2519 0 ≡ 2519)
    × (in_slice 4096 0 ≡ 2520)
    × (in_slice 4096 2520 ≡ 1576)
    × (slice_type 2520 0 ≡ 567)
    × (slice_type 2521 0 ≡ 565)
    × (slice_type 2521 2520 ≡ 567)
slices = (refl, refl, refl, refl, refl, refl)

-- "Slices come in offset order without a gap", the second at 2,520
pub filters : (c : Columns) → (length (slices_of 2520 0 1 c) ≡ 1) × (length (slices_of 2521 0 1 c) ≡ 2)
unfolding slices_of
filters c = (refl, refl)

-- "37 to 4,096 buckets", "An offset is 0 or 2,520, below the size", "Salt is 0 to 63", "readers take 1 to 32"
pub ranges :
    (slice_good 37 0 0 1 ≡ true)
    × (slice_good 36 0 0 1 ≡ false)
    × (slice_good 4096 2520 63 32 ≡ true)
    × (slice_good 4097 2520 63 32 ≡ false)
    × (slice_good 4096 1 63 32 ≡ false)
    × (slice_good 4096 2519 63 32 ≡ false)
    × (slice_good 4096 2521 63 32 ≡ false)
    × (slice_good 2520 2520 63 32 ≡ false)
    × (slice_good 2521 2520 63 32 ≡ true)
    × (slice_good 4096 2520 64 32 ≡ false)
    × (slice_good 4096 2520 63 33 ≡ false)
    × (slice_good 4096 2520 63 0 ≡ false)
ranges = (refl, refl, refl, refl, refl, refl, refl, refl, refl, refl, refl, refl)

-- 1 to high items of w bits
abbrev Counted : ℕ → ℕ → List ℕ → Type 0
Counted w high xs = ((leb 1 (length xs) && leb (length xs) high) ≡ true) × Below w xs

-- "salt 4; 1 to 8,190 IDs"
pub ids : (salt : ℕ) (xs : List ℕ) → Good (inquiry salt xs) → (ltb salt 64 ≡ true) × Counted 64 8190 xs
ids salt xs g = (g.0, (g.1.number, g.1.fit))

-- "1 to 1,023 hashes"
pub hashes : (xs : List ℕ) → (Good (offer xs) → Counted 512 1023 xs) × (Good (demand xs) → Counted 512 1023 xs)
hashes xs = (λ g. (g.number, g.fit), λ g. (g.number, g.fit))

-- "1 to 65,531 bytes"
pub contents : (xs : List ℕ) → Good (element xs) → Counted 8 65531 xs
contents xs g = (g.number, g.fit)

-- "Longer lists are cut into full messages and a last one."
pub cuts :
    (length (inquiries_of 0 (replicate 8190 0)) ≡ 1)
    × (length (inquiries_of 0 (replicate 8191 0)) ≡ 2)
    × (length (offers_of (replicate 1023 0)) ≡ 1)
    × (length (offers_of (replicate 1024 0)) ≡ 2)
    × (length (demands_of (replicate 1023 0)) ≡ 1)
    × (length (demands_of (replicate 1024 0)) ≡ 2)
unfolding pieces_of
cuts = (refl, refl, refl, refl, refl, refl)

-- refusal 4: "message malformed"
pub refusals :
    ((numbers_of None 5 9).refusal ≡ 4)
    × ((walk_numbers (broken 5) 5).refusal ≡ 4)
    × ((walk_numbers None 5).refusal ≡ 0)
    × ((numbers_of (Some Done) 5 73).refusal ≡ 0)
    × ((written_of (Err Malformed)).refusal ≡ 4)
    × ((written_of (Ok 9)).refusal ≡ 0)
refusals = (refl, refl, refl, refl, refl, refl)

-- the writers at the ends of what they take: salts to 63, whole hashes of 64 bytes, contents of 1 to 65,531 bytes, a checksum of 64 bytes
pub writers :
    ((inquiry_call 63 [] 0 []).answer ≡ Ok 0)
    × ((inquiry_call 64 [] 0 []).answer ≡ Err Range)
    × ((hashes_call offers_of (replicate 64 0) 0 (replicate 68 0)).answer ≡ Ok 68)
    × ((hashes_call demands_of (replicate 63 0) 0 (replicate 68 0)).answer ≡ Err Form)
    × ((hashes_call demands_of (replicate 64 0) 0 (replicate 67 0)).answer ≡ Err Room)
    × ((element_call [] 0 (replicate 4 0)).answer ≡ Err Malformed)
    × ((element_call (replicate 65531 0) 0 (replicate 65535 0)).answer ≡ Ok 65535)
    × ((element_call (replicate 65532 0) 0 (replicate 65536 0)).answer ≡ Err Malformed)
    × ((done_call (replicate 64 0) 0 (replicate 68 0)).answer ≡ Ok 68)
    × ((done_call (replicate 63 0) 0 (replicate 68 0)).answer ≡ Err Room)
unfolding inquiry_call hashes_call element_call done_call wrote have_room layouts layout framed packed groups joined pieces_of hashes_of tabulated
writers = (refl, refl, refl, refl, refl, refl, refl, refl, refl, refl)
