-- What is read is what was written: bytes that are a message are the layout of what they say, which is in range. Assumes nothing.
use mathlib.Core.Path.{◌≡◌, refl, sym, ap, ap₂, ◌∙◌, subst}
use mathlib.Core.Bool.{true, ◌&&◌, ◌||◌}
use mathlib.Core.List.{List, [], ◌∷◌, ◌++◌, append-nil}
use Prim.Native.Nat.{ℕ, ◌+◌, ◌-◌, ◌*◌, ◌/◌, ◌%◌, ◌^◌, ◌≤◌, ◌<◌}
use native.Mathlib.Omega.{arith}
use borrow.Author.Tests.{leb-true, eqb-true, le-leb}
use lib.Dec.{eqb, ltb, leb}
use lib.ListN.{length, drop, length-drop}
use lib.Seq.{take_all}
use Rattle.std.proofs.Common.{Option, Some, None}
use Rattle.bucket.specs.Digits.{bytes_for, spare, joined, packed, unpacked, spare_bits, Below}
use Rattle.bucket.specs.Lists.{part}
use Rattle.bucket.specs.Packing.{takes, counters_at, is_bare}
use Rattle.bucket.proofs.DigitLaws.{groups-below, groups-joined, joined_lt}
use Rattle.bucket.proofs.OverLaws.{number_lt, part_length}
use Rattle.bucket.proofs.PackedLaws.{unpacked-length, packed-unpacked}
use Rattle.message.specs.declared.kinds.Message.{Message}
use Rattle.message.specs.declared.kinds.Message.TheVariants.{Inquiry, Offer, Demand, Element, Done}
use Rattle.message.specs.Layout.{DEMAND, INQUIRY, OFFER, IBF, ELEMENT, IBF_LAST, DONE, Good, Many, GoodSlice, slice, layout, framed, in_slice, slice_type}
use Rattle.message.specs.Reading.{field, content, head, slice_fits, slice_head, parse, parse_body, parse_slice, parse_inquiry, hashes_fit}
use Rattle.message.proofs.FrameLaws.{framed-back}
use Rattle.message.proofs.ReadLaws.{both, Ranges, slice-ranges}
use Rattle.message.proofs.ShapeLaws.{choose}
use Rattle.message.proofs.WholeLaws.{whole_back, one-back, two_back, packed-cons, packed-nil, part-rest, part-below, drop-below}

pub record Told (bs : List ℕ) (m : Message) : Type 0 where
  pub good : Good (content m bs)
  pub bytes : layout (content m bs) ≡ bs
  pub same : head (content m bs) ≡ m

-- nothing is read, or the layout of what the bytes say
abbrev pub Sound : List ℕ → Option Message → Type 0
Sound bs None = Unit {0}
Sound bs (Some m) = Told bs m

unpacked-below : (w n : ℕ) (l : List ℕ) → Below w (unpacked w n l)
unfolding unpacked
unpacked-below w n l = groups-below w n (joined 8 l / 2 ^ spare (w * n))

bare-clean : (w n at : ℕ) (s : List ℕ) → is_bare w n at s ≡ true → spare_bits w n (part at (bytes_for (w * n)) s) ≡ 0
unfolding is_bare
bare-clean w n at s h = eqb-true _ 0 (both (takes w n at (length s)) _ h).1

many : (w high n : ℕ) (l : List ℕ) → 1 ≤ n → n ≤ high → Many w high (unpacked w n l)
many w high n l a b =
    record { number = rw (unpacked-length w n l, le-leb 1 n a, le-leb n high b); fit = unpacked-below w n l }

module _ (bs : List ℕ) (below : Below 8 bs) (four : 4 ≤ length bs) (size : field 2 0 bs ≡ length bs) where
  short : length bs < 65536
  short = omega (arith, number_lt 0 bs 2 (omega arith), size)

  tail : length (drop 4 bs) ≡ length bs - 4
  tail = length-drop 4 bs

  framing : {t : ℕ} {body : List ℕ} → field 2 2 bs ≡ t → body ≡ drop 4 bs → framed t body ≡ bs
  framing e b = ap₂ framed (sym e) b ∙ framed-back bs below four size

  hashes : hashes_fit (length bs) ≡ true → (length bs ≡ 4 + 64 * (length bs / 64)) × (1 ≤ length bs / 64)
  hashes h =
      let h' = both _ _ h in
      let a = leb-true 68 (length bs) h'.0 in
      let b = eqb-true (length bs % 64) 4 h'.1 in
      (omega arith, omega arith)

  hash-bytes : hashes_fit (length bs) ≡ true → packed 512 (unpacked 512 (length bs / 64) (drop 4 bs)) ≡ drop 4 bs
  hash-bytes h = whole_back 64 (length bs / 64) (drop 4 bs) (omega (arith, (hashes h).0, tail)) (drop-below 8 4 bs below)

  offers : field 2 2 bs ≡ OFFER → hashes_fit (length bs) ≡ true → Told bs (Offer (length bs / 64))
  unfolding content layout head
  offers e h =
      record {
        good = many 512 1023 (length bs / 64) (drop 4 bs) (hashes h).1 (omega (arith, short));
        bytes = framing e (hash-bytes h);
        same = ap Offer (unpacked-length 512 (length bs / 64) (drop 4 bs));
      }

  demands : field 2 2 bs ≡ DEMAND → hashes_fit (length bs) ≡ true → Told bs (Demand (length bs / 64))
  unfolding content layout head
  demands e h =
      record {
        good = many 512 1023 (length bs / 64) (drop 4 bs) (hashes h).1 (omega (arith, short));
        bytes = framing e (hash-bytes h);
        same = ap Demand (unpacked-length 512 (length bs / 64) (drop 4 bs));
      }

  elements : field 2 2 bs ≡ ELEMENT → leb 5 (length bs) ≡ true → Told bs (Element (length bs - 4))
  unfolding content layout head
  elements e h =
      let h' = leb-true 5 (length bs) h in
      record {
        good = record { number = rw (tail, le-leb 1 (length bs - 4) (omega arith), le-leb (length bs - 4) 65531 (omega (arith, short))); fit = drop-below 8 4 bs below };
        bytes = framing e refl;
        same = ap Element tail;
      }

  dones : field 2 2 bs ≡ DONE → eqb (length bs) 68 ≡ true → Told bs Done
  unfolding content layout head
  dones e h =
      let h' = eqb-true (length bs) 68 h in
      let l : length (drop 4 bs) ≡ 64 = omega (arith, tail) in
      record {
        good = rw l at (joined_lt 8 (drop 4 bs));
        bytes = framing e (packed-cons 64 (joined 8 (drop 4 bs)) [] ∙ ap₂ (λ (a b : List ℕ). a ++ b) (rw l at (groups-joined 8 (drop 4 bs) (drop-below 8 4 bs below))) (packed-nil 64) ∙ append-nil (drop 4 bs));
        same = refl;
      }

  inquiries : field 2 2 bs ≡ INQUIRY → leb 16 (length bs) ≡ true → (eqb (length bs % 8) 0 && ltb (field 4 4 bs) 64) ≡ true → Told bs (Inquiry (field 4 4 bs) ((length bs - 8) / 8))
  unfolding content layout head
  inquiries e h g =
      let h' = leb-true 16 (length bs) h in
      let a = both _ _ g in
      let b = eqb-true (length bs % 8) 0 a.0 in
      let n = (length bs - 8) / 8 in
      let len : length (drop 8 bs) ≡ 8 * n = omega (arith, length-drop 8 bs) in
      record {
        good = (a.1, many 64 8190 n (drop 8 bs) (omega arith) (omega (arith, short)));
        bytes = framing e (ap₂ (λ (p q : List ℕ). p ++ q) (one-back 4 4 bs below (omega arith)) (whole_back 8 n (drop 8 bs) len (drop-below 8 8 bs below)) ∙ part-rest 4 4 bs);
        same = ap (Inquiry (field 4 4 bs)) (unpacked-length 64 n (drop 8 bs));
      }

  slices : (t : ℕ) → field 2 2 bs ≡ t
      → slice_fits t (field 4 4 bs) (field 4 8 bs) (field 2 12 bs) (field 2 14 bs) (length bs) ≡ true
      → is_bare (field 2 14 bs) (in_slice (field 4 4 bs) (field 4 8 bs)) (16 + 12 * in_slice (field 4 4 bs) (field 4 8 bs)) bs ≡ true
      → Told bs (slice_head t (field 4 4 bs) (field 4 8 bs) (field 2 12 bs) (field 2 14 bs))
  unfolding content layout head
  slices t e g z =
      choose (Told bs) (eqb t IBF_LAST)
      (λ q. record { good = good; bytes = bytes; same = same ∙ rw q })
      (λ q. record { good = good; bytes = bytes; same = same ∙ rw q })
    where
      size' : ℕ
      size' = field 4 4 bs

      offset : ℕ
      offset = field 4 8 bs

      salt : ℕ
      salt = field 2 12 bs

      width : ℕ
      width = field 2 14 bs

      n : ℕ
      n = in_slice size' offset

      xs : List ℕ
      xs = unpacked 64 n (part 16 (8 * n) bs)

      ys : List ℕ
      ys = unpacked 32 n (part (16 + 8 * n) (4 * n) bs)

      zs : List ℕ
      zs = counters_at width n (16 + 12 * n) bs

      f : Ranges t size' offset salt width (length bs)
      f = slice-ranges t size' offset salt width (length bs) g

      all : length bs ≡ 16 + 12 * n + bytes_for (width * n)
      all = f.all

      ids : packed 64 xs ≡ part 16 (8 * n) bs
      ids = whole_back 8 n (part 16 (8 * n) bs) (part_length 16 bs (8 * n) (omega (arith, all))) (part-below 16 (8 * n) bs below)

      hashes : packed 32 ys ≡ part (16 + 8 * n) (4 * n) bs
      hashes = whole_back 4 n (part (16 + 8 * n) (4 * n) bs) (part_length (16 + 8 * n) bs (4 * n) (omega (arith, all))) (part-below (16 + 8 * n) (4 * n) bs below)

      counts : packed width zs ≡ part (16 + 12 * n) (bytes_for (width * n)) bs
      counts =
          packed-unpacked width n (part (16 + 12 * n) (bytes_for (width * n)) bs) (part_length (16 + 12 * n) bs (bytes_for (width * n)) (omega (arith, all)))
          (part-below (16 + 12 * n) (bytes_for (width * n)) bs below) (bare-clean width n (16 + 12 * n) bs z)

      twelve : 16 + 12 * n ≡ 16 + 8 * n + 4 * n
      twelve = omega arith

      -- the counters are the end
      end : part (16 + 12 * n) (bytes_for (width * n)) bs ≡ drop (16 + 12 * n) bs
      end = take_all (bytes_for (width * n)) (drop (16 + 12 * n) bs) (omega (arith, length-drop (16 + 12 * n) bs, all))

      columns : packed 64 xs ++ (packed 32 ys ++ packed width zs) ≡ drop 16 bs
      columns =
          ap₂ (λ (a b : List ℕ). a ++ b) ids
          (ap₂ (λ (a b : List ℕ). a ++ b) hashes (counts ∙ end ∙ ap (λ (k : ℕ). drop k bs) twelve) ∙ part-rest (16 + 8 * n) (4 * n) bs)
          ∙ part-rest 16 (8 * n) bs

      good : GoodSlice size' offset salt width xs ys zs
      good =
          record {
            ranges = (both _ _ (both _ _ g).0).0;
            n-ids = unpacked-length 64 n (part 16 (8 * n) bs);
            n-hashes = unpacked-length 32 n (part (16 + 8 * n) (4 * n) bs);
            n-counts = unpacked-length width n (part (16 + 12 * n) (bytes_for (width * n)) bs);
            ids-fit = unpacked-below 64 n (part 16 (8 * n) bs);
            hashes-fit = unpacked-below 32 n (part (16 + 8 * n) (4 * n) bs);
            counts-fit = unpacked-below width n (part (16 + 12 * n) (bytes_for (width * n)) bs);
          }

      bytes : layout (slice size' offset salt width xs ys zs) ≡ bs
      bytes =
          framing (e ∙ f.kind)
          (ap (λ (q : List ℕ). packed 32 (size' ∷ offset ∷ []) ++ (packed 16 (salt ∷ width ∷ []) ++ q)) columns
          ∙ ap (λ (q : List ℕ). packed 32 (size' ∷ offset ∷ []) ++ q) (two_back 2 12 bs below (omega (arith, all)))
          ∙ two_back 4 4 bs below (omega (arith, all)))

      same : slice_head (slice_type size' offset) size' offset salt width ≡ slice_head t size' offset salt width
      same = ap (λ (k : ℕ). slice_head k size' offset salt width) (sym f.kind)

  body : (t : ℕ) → field 2 2 bs ≡ t → Sound bs (parse_body t bs)
  unfolding parse_slice parse_inquiry
  body t e =
      choose (Sound bs) (eqb t IBF || eqb t IBF_LAST)
      (λ a. choose (Sound bs) (leb 16 (length bs))
      (λ h. choose (Sound bs) (slice_fits t (field 4 4 bs) (field 4 8 bs) (field 2 12 bs) (field 2 14 bs) (length bs))
      (λ g. choose (Sound bs) (is_bare (field 2 14 bs) (in_slice (field 4 4 bs) (field 4 8 bs)) (16 + 12 * in_slice (field 4 4 bs) (field 4 8 bs)) bs)
      (λ z. slices t e g z) (λ z. tt))
      (λ g. tt))
      (λ h. tt))
      (λ a. choose (Sound bs) (eqb t INQUIRY)
      (λ b. choose (Sound bs) (leb 16 (length bs))
      (λ h. choose (Sound bs) (eqb (length bs % 8) 0 && ltb (field 4 4 bs) 64) (λ g. inquiries (e ∙ eqb-true t INQUIRY b) h g) (λ g. tt))
      (λ h. tt))
      (λ b. choose (Sound bs) (eqb t OFFER)
      (λ b. choose (Sound bs) (hashes_fit (length bs)) (λ h. offers (e ∙ eqb-true t OFFER b) h) (λ h. tt))
      (λ b. choose (Sound bs) (eqb t DEMAND)
      (λ b. choose (Sound bs) (hashes_fit (length bs)) (λ h. demands (e ∙ eqb-true t DEMAND b) h) (λ h. tt))
      (λ b. choose (Sound bs) (eqb t ELEMENT)
      (λ b. choose (Sound bs) (leb 5 (length bs)) (λ h. elements (e ∙ eqb-true t ELEMENT b) h) (λ h. tt))
      (λ b. choose (Sound bs) (eqb t DONE)
      (λ b. choose (Sound bs) (eqb (length bs) 68) (λ h. dones (e ∙ eqb-true t DONE b) h) (λ h. tt))
      (λ b. tt))))))

-- bytes are no message, or the layout of what they say
pub sound : (bs : List ℕ) → Below 8 bs → Sound bs (parse bs)
unfolding parse
sound bs below =
    choose (Sound bs) (leb 4 (length bs) && eqb (field 2 0 bs) (length bs))
    (λ h. let h' = both _ _ h in body bs below (leb-true 4 (length bs) h'.0) (eqb-true (field 2 0 bs) (length bs) h'.1) (field 2 2 bs) refl)
    (λ h. tt)

-- what is read is in its ranges
pub read-good : (bs : List ℕ) → Below 8 bs → {m : Message} → parse bs ≡ Some m → Good (content m bs)
read-good bs below e = (subst (Sound bs) e (sound bs below)).good
