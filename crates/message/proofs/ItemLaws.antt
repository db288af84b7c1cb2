-- The items of a message that was read, by number, are those of what it says, its `content`: at each number the list has the item that the bytes hold there,
-- and past its end both are 0.
--
--   ids_by_number                     the IDs of an INQUIRY
--   ibf_by_number, ibf_last_by_number   the IDSUMs, HASHSUMs and counters of an IBF or IBF LAST
--   offers_by_number, demands_by_number, check_by_number     the hashes of an OFFER or DEMAND, the checksum of a DONE, as numbers
--   element-length                    the content of an ELEMENT is as long as it says
--
-- Assumes nothing.
use mathlib.Core.Path.{◌≡◌, refl, sym, ap, ◌∙◌}
use mathlib.Core.Bool.{Bool, true, false}
use mathlib.Core.List.{List}
use Prim.Native.Nat.{ℕ, ◌+◌, ◌*◌, ◌≤◌, ◌<◌}
use native.Mathlib.Omega.{arith}
use borrow.Author.Tests.{ltb-true, ltb-false, le-leb, lt-ltb, le-ltb}
use lib.Dec.{ltb, leb}
use lib.ListN.{length, drop, get_or, length-drop, get_or-eq_default}
use lib.Seq.{take_all}
use Rattle.std.proofs.Common.{Some}
use Rattle.bucket.specs.Digits.{joined, unpacked}
use Rattle.bucket.specs.Lists.{part}
use Rattle.bucket.specs.Packing.{takes, counters_at, counter_at}
use Rattle.bucket.proofs.PackedLaws.{unpacked-length}
use Rattle.bucket.proofs.RoomLaws.{bits_ahead}
use Rattle.bucket.proofs.TestLaws.{cond-kept, cond-made, and_fails, and_holds}
use Rattle.bucket.proofs.ReadLaws.{counter_here}
use Rattle.message.specs.declared.kinds.Message.TheVariants.{Ibf, IbfLast, Inquiry, Offer, Demand, Element, Done}
use Rattle.message.specs.declared.kinds.Slice.{Slice}
use Rattle.message.specs.Items.{number_at, id_at, idsum_at, hashsum_at, counter_of, hash_part, content_of}
use Rattle.message.specs.Reading.{parse}
use Rattle.message.proofs.ReachLaws.{number_past, number-within, hash-past, hash-within}
use Rattle.message.proofs.ShapeLaws.{Sliced, sliced-takes, shape}
use Rattle.message.proofs.WholeLaws.{item_there}

-- n numbers of k bytes each from a position on, by number
module _ (k n from : ℕ) (bs : List ℕ) (room : from + k * n ≤ length bs) (i : ℕ) (h : i < n) where
  within : from + k * i + k ≤ length bs
  within = let ahead = bits_ahead k n i h in omega arith

  number-there : get_or (unpacked (8 * k) n (part from (k * n) bs)) i 0 ≡ number_at k from bs i
  number-there = item_there k n from bs room i h ∙ number-within k from bs i within

-- past the end
none-past : (w n : ℕ) (l : List ℕ) (i : ℕ) → n ≤ i → get_or (unpacked w n l) i 0 ≡ 0
none-past w n l i h = get_or-eq_default (unpacked w n l) 0 (rw (unpacked-length w n l) h)

by_place : {P : Type 0} (i n : ℕ) → (i < n → P) → (n ≤ i → P) → P
by_place {P} i n f g = go (ltb i n) refl
  where
    go : (t : Bool) → ltb i n ≡ t → P
    go true h = f (ltb-true i n h)
    go false h = g (ltb-false i n h)

-- what stands behind a position, where it is all there is
rest_part : (from m : ℕ) (bs : List ℕ) → length bs ≡ from + m → drop from bs ≡ part from m bs
rest_part from m bs e = sym (take_all m (drop from bs) (omega (arith, length-drop from bs)))

pub ids_by_number : (bs : List ℕ) (salt n : ℕ) → parse bs ≡ Some (Inquiry salt n) → (i : ℕ) → get_or (unpacked 64 n (drop 8 bs)) i 0 ≡ id_at bs i
unfolding id_at
ids_by_number bs salt n e i =
    let l = shape bs e in
    by_place i n
    (λ h. ap (λ (s : List ℕ). get_or (unpacked 64 n s) i 0) (rest_part 8 (8 * n) bs l) ∙ number-there 8 n 8 bs (omega arith) i h)
    (λ h. none-past 64 n (drop 8 bs) i h ∙ number_past 8 8 bs i (omega arith))

hash-there : (n : ℕ) (bs : List ℕ) → length bs ≡ 4 + 64 * n → (i : ℕ) → get_or (unpacked 512 n (drop 4 bs)) i 0 ≡ joined 8 (hash_part bs i)
unfolding joined
hash-there n bs l i =
    by_place i n
    (λ h. ap (λ (s : List ℕ). get_or (unpacked 512 n s) i 0) (rest_part 4 (64 * n) bs l)
    ∙ item_there 64 n 4 bs (omega arith) i h
    ∙ ap (joined 8) (hash-within bs i (within 64 n 4 bs (omega arith) i h)))
    (λ h. none-past 512 n (drop 4 bs) i h ∙ ap (joined 8) (hash-past bs i (omega arith)))

pub offers_by_number : (bs : List ℕ) (n : ℕ) → parse bs ≡ Some (Offer n) → (i : ℕ) → get_or (unpacked 512 n (drop 4 bs)) i 0 ≡ joined 8 (hash_part bs i)
offers_by_number bs n e = hash-there n bs (shape bs e)

pub demands_by_number : (bs : List ℕ) (n : ℕ) → parse bs ≡ Some (Demand n) → (i : ℕ) → get_or (unpacked 512 n (drop 4 bs)) i 0 ≡ joined 8 (hash_part bs i)
demands_by_number bs n e = hash-there n bs (shape bs e)

pub check_by_number : (bs : List ℕ) → parse bs ≡ Some Done → joined 8 (drop 4 bs) ≡ joined 8 (hash_part bs 0)
check_by_number bs e =
    let l = shape bs e in
    ap (joined 8) (rest_part 4 64 bs l ∙ hash-within bs 0 (omega arith))

pub element-length : (bs : List ℕ) (n : ℕ) → parse bs ≡ Some (Element n) → length (content_of bs) ≡ n
element-length bs n e = let l = shape bs e in omega (arith, length-drop 4 bs)

pub record SliceItems (width n : ℕ) (bs : List ℕ) : Type 0 where
  pub idsums : (i : ℕ) → get_or (unpacked 64 n (part 16 (8 * n) bs)) i 0 ≡ idsum_at n bs i
  pub hashsums : (i : ℕ) → get_or (unpacked 32 n (part (16 + 8 * n) (4 * n) bs)) i 0 ≡ hashsum_at n bs i
  pub counters : (i : ℕ) → get_or (counters_at width n (16 + 12 * n) bs) i 0 ≡ counter_of n width bs i

slice-there : {type : ℕ} (s : Slice) (bs : List ℕ) → Sliced bs type s → SliceItems s.width s.count bs
unfolding idsum_at hashsum_at counter_of
slice-there s bs l =
    record {
      idsums = λ i. by_place i n
          (λ h. number-there 8 n 16 bs (omega arith) i h ∙ cond-made (number_at 8 16 bs i) 0 (lt-ltb i n h))
          (λ h. none-past 64 n (part 16 (8 * n) bs) i h ∙ cond-kept (number_at 8 16 bs i) 0 (le-ltb i n h));
      hashsums = λ i. by_place i n
          (λ h. number-there 4 n (16 + 8 * n) bs (omega arith) i h ∙ cond-made (number_at 4 (16 + 8 * n) bs i) 0 (and_holds few (lt-ltb i n h)))
          (λ h. none-past 32 n (part (16 + 8 * n) (4 * n) bs) i h ∙ cond-kept (number_at 4 (16 + 8 * n) bs i) 0 (and_fails (leb n 2520) (le-ltb i n h)));
      counters = λ i. counter_here bs (16 + 12 * n) n width i there ∙ cond-made (counter_at width n (16 + 12 * n) bs i) 0 few;
    }
  where
    width : ℕ
    width = s.width

    n : ℕ
    n = s.count

    few : leb n 2520 ≡ true
    few = le-leb n 2520 l.few

    there : takes width n (16 + 12 * n) (length bs) ≡ true
    there = sliced-takes l

pub ibf_by_number : (bs : List ℕ) (s : Slice) → parse bs ≡ Some (Ibf s) → SliceItems s.width s.count bs
ibf_by_number bs s e = slice-there s bs (shape bs e)

pub ibf_last_by_number : (bs : List ℕ) (s : Slice) → parse bs ≡ Some (IbfLast s) → SliceItems s.width s.count bs
ibf_last_by_number bs s e = slice-there s bs (shape bs e)
