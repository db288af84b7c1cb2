-- The slices of a filter: their bytes in the order in which they are written, how many there are, and that their counts can be packed. Assumes nothing.
use mathlib.Core.Path.{◌≡◌, refl, sym, ap, ap₂, ◌∙◌}
use mathlib.Core.Bool.{Bool, true, false, and-eq-true_iff}
use mathlib.Core.List.{List, [], ◌∷◌, ◌++◌, append_assoc, append-nil}
use Prim.Native.Nat.{ℕ, zero, suc, ◌+◌, ◌-◌, ◌*◌, ◌^◌, ◌≤◌, ◌<◌}
use native.Mathlib.Nat.{add-sub_cancel_left, mul-le-mul}
use native.Mathlib.Omega.{arith}
use borrow.Author.Tests.{le-leb, lt-ltb, le-ltb, ltb-true, ltb-false}
use lib.Dec.{ltb}
use lib.IntN.{ℤ}
use lib.ListN.{length, take, drop, length-append, length-map}
use lib.Seq.{take-take}
use Rattle.bucket.specs.Columns.{Columns}
use Rattle.bucket.specs.Digits.{bytes_for, packed, Below}
use Rattle.bucket.specs.Lists.{over, part}
use Rattle.bucket.specs.Packing.{number, numbers, has_bits, fits_in, takes, packs, pack_into, pack_end}
use Rattle.bucket.proofs.OverLaws.{then_over, part_length}
use Rattle.bucket.proofs.PackedLaws.{packed-length}
use Rattle.bucket.proofs.RoomLaws.{takes-rest}
use Rattle.bucket.proofs.TestLaws.{and_holds, cond-made}
use Rattle.message.specs.declared.kinds.Slice.{Slice}
use Rattle.message.specs.Layout.{slice, layout, framed, in_slice, slice_type, slice_bytes}
use Rattle.message.specs.Writing.{layouts, slice_at, slices_of}
use Rattle.message.specs.Putting.{head_of, filter_bytes, SlicePut, FilterPut}
use Rattle.message.proofs.WholeLaws.{take_below, drop-below, whole_length}
use Rattle.message.proofs.FrameLaws.{framed-length}

-- ---- the bytes of one slice

head-length : (s : Slice) → length (head_of s) ≡ 16
unfolding head_of
head-length s =
    simp length-append
    (ap₂ ◌+◌ (whole_length 2 (slice_bytes s.width s.count ∷ slice_type s.size s.offset ∷ []))
    (ap₂ ◌+◌ (whole_length 4 (s.size ∷ s.offset ∷ [])) (whole_length 2 (s.salt ∷ s.width ∷ []))))

module _ (size offset salt width n : ℕ) (ids hashes counts : List ℕ) (li : length ids ≡ n) (lh : length hashes ≡ n) (lc : length counts ≡ n) where
  body_length : length (packed 32 (size ∷ offset ∷ []) ++ (packed 16 (salt ∷ width ∷ []) ++ (packed 64 ids ++ (packed 32 hashes ++ packed width counts))))
      ≡ 12 + 12 * n + bytes_for (width * n)
  body_length =
      simp length-append
      (ap₂ ◌+◌ (whole_length 4 (size ∷ offset ∷ []))
      (ap₂ ◌+◌ (whole_length 2 (salt ∷ width ∷ []))
      (ap₂ ◌+◌ (whole_length 8 ids ∙ ap (λ (k : ℕ). 8 * k) li)
      (ap₂ ◌+◌ (whole_length 4 hashes ∙ ap (λ (k : ℕ). 4 * k) lh) (packed-length width counts ∙ ap (λ (k : ℕ). bytes_for (width * k)) lc))))
      ∙ omega arith)

  pub slice-size : length (layout (slice size offset salt width ids hashes counts)) ≡ slice_bytes width n
  unfolding layout
  slice-size = framed-length (slice_type size offset) _ ∙ omega (arith, body_length)

  -- in the order in which they are written
  pub slice-bytes : ((head_of (record { size = size; offset = offset; salt = salt; width = width; count = n }) ++ packed 64 ids) ++ packed 32 hashes) ++ packed width counts
      ≡ layout (slice size offset salt width ids hashes counts)
  unfolding layout framed head_of
  slice-bytes =
      ap (λ (k : ℕ). ((packed 16 (k ∷ slice_type size offset ∷ []) ++ (packed 32 (size ∷ offset ∷ []) ++ packed 16 (salt ∷ width ∷ [])) ++ packed 64 ids) ++ packed 32 hashes) ++ packed width counts) total
      ∙ simp append_assoc
    where
      total : slice_bytes width n ≡ 4 + length (packed 32 (size ∷ offset ∷ []) ++ (packed 16 (salt ∷ width ∷ []) ++ (packed 64 ids ++ (packed 32 hashes ++ packed width counts))))
      total = omega (arith, body_length)

-- so few bits that no sum of theirs wraps, whatever the width
pub slice-bits : {width n : ℕ} → width ≤ 2 ^ 32 → n ≤ 2520 → width * n ≤ 2 ^ 32 * 2520
slice-bits h l = mul-le-mul h l

-- ---- a part of the first n

part-take : {A : Type 0} (at k n : ℕ) (l : List A) → at + k ≤ n → part at k (take n l) ≡ part at k l
part-take zero k n l h = take-take k n l (omega arith)
part-take (suc at) k zero l h = absurd (omega arith)
part-take (suc at) k (suc n) [] h = refl
part-take (suc at) k (suc n) (x ∷ l) h = part-take at k n l (omega arith)

fits-take : (w k : ℕ) (cs : List ℤ) → fits_in w cs ≡ true → fits_in w (take k cs) ≡ true
unfolding fits_in
fits-take w zero cs h = refl
fits-take w (suc k) [] h = refl
fits-take w (suc k) (c ∷ cs) h =
    let t = (and-eq-true_iff (has_bits w c) (fits_in w cs)).0 h in
    and_holds t.0 (fits-take w k cs t.1)

fits-drop : (w k : ℕ) (cs : List ℤ) → fits_in w cs ≡ true → fits_in w (drop k cs) ≡ true
unfolding fits_in
fits-drop w zero cs h = h
fits-drop w (suc k) [] h = refl
fits-drop w (suc k) (c ∷ cs) h = fits-drop w k cs ((and-eq-true_iff (has_bits w c) (fits_in w cs)).0 h).1

module _ (w at k n : ℕ) (inside : at + k ≤ n) where
  pub fits-part : (cs : List ℤ) → fits_in w (take n cs) ≡ true → fits_in w (part at k cs) ≡ true
  fits-part cs h = rw (part-take at k n cs inside) at (fits-take w k (drop at (take n cs)) (fits-drop w at (take n cs) h))

  pub below-part : (xs : List ℕ) → Below w (take n xs) → Below w (part at k xs)
  below-part xs h = rw (part-take at k n xs inside) at (take_below w k (drop at (take n xs)) (drop-below w at (take n xs) h))

-- ---- one slice put into a buffer

module _ (s : Slice) (at : ℕ) (c : Columns) (o₀ : List ℕ) (put : SlicePut s.size s.offset s.width c o₀ at) (en : s.count ≡ in_slice s.size s.offset) where
  few : s.count ≤ 2520
  few = omega (arith, en)

  pub slice-inside : s.offset + s.count ≤ s.size
  slice-inside = omega (arith, en, put.within)

  pub slice-ids : length (part s.offset s.count c.idsums) ≡ s.count
  slice-ids = part_length s.offset c.idsums s.count (omega (arith, slice-inside, put.ids-there))

  pub slice-hashes : length (part s.offset s.count c.hashsums) ≡ s.count
  slice-hashes = part_length s.offset c.hashsums s.count (omega (arith, slice-inside, put.hashes-there))

  counts-size : length (part s.offset s.count c.counts) ≡ s.count
  counts-size = part_length s.offset c.counts s.count (omega (arith, slice-inside, put.counts-there))

  numbers-size : length (numbers (part s.offset s.count c.counts)) ≡ s.count
  numbers-size = length-map (part s.offset s.count c.counts) number ∙ counts-size

  pub slice-room : at + slice_bytes s.width s.count ≤ length o₀
  slice-room = rw en put.room

  abbrev behind : ℕ
  behind = at + 16 + 12 * s.count

  -- the counts fit their width, and there is room for them
  slice-packs : (o : List ℕ) → length o ≡ length o₀ → packs s.width (part s.offset s.count c.counts) behind o ≡ true
  slice-packs o same =
      and_holds (fits-part s.width s.offset s.count s.size slice-inside c.counts put.counts-fit)
      (ap (λ (k : ℕ). takes s.width k behind (length o)) counts-size
      ∙ takes-rest s.width s.count behind (length o) put.some put.most (omega (arith, few))
      ∙ le-leb (behind + bytes_for (s.width * s.count)) (length o) (omega (arith, slice-room, same)))

  -- four writes, one behind the other, the last from p on; cs is the part that was packed, and r where it ends
  pub slice_writes : {p r : ℕ} {o₁ o₂ o₃ o₄ : List ℕ} {cs : List ℤ} → cs ≡ part s.offset s.count c.counts → length o₃ ≡ length o₀
      → o₁ ≡ over at (head_of s) o₀
      → o₂ ≡ over (at + 16) (packed 64 (part s.offset s.count c.idsums)) o₁
      → o₃ ≡ over (at + 16 + 8 * s.count) (packed 32 (part s.offset s.count c.hashsums)) o₂
      → p ≡ behind
      → (r ≡ pack_end s.width cs p o₃) × (o₄ ≡ pack_into s.width cs p o₃)
      → (r ≡ at + slice_bytes s.width (in_slice s.size s.offset)) × (o₄ ≡ over at (layout (slice_at s.size s.offset s.salt s.width c)) o₀)
  unfolding pack_end pack_into
  slice_writes {p} {r} {o₁} {o₂} {o₃} {o₄} {cs} cut same w1 w2 w3 ep w4 = (
    w4.0
        ∙ sym (cond-made (p + bytes_for (s.width * length cs)) p ready)
        ∙ ap (λ (m : ℕ). p + bytes_for (s.width * m)) (ap length cut ∙ counts-size)
        ∙ ap (λ (q : ℕ). q + bytes_for (s.width * s.count)) ep
        ∙ ap (λ (m : ℕ). at + 16 + 12 * m + bytes_for (s.width * m)) en
        ∙ omega arith,
    then_over at o₀ ((head_of s ++ i) ++ h) k three
        (w4.1 ∙ sym (cond-made (over p (packed s.width (numbers cs)) o₃) o₃ ready) ∙ ap (λ (l : List ℤ). over p (packed s.width (numbers l)) o₃) cut)
        (omega (arith, head-length s, li, lh, ep, length-append (head_of s ++ i) h, length-append (head_of s) i)) (omega (arith, lk, slice-room, ep))
        ∙ ap (λ (q : List ℕ). over at q o₀)
        (slice-bytes s.size s.offset s.salt s.width s.count (part s.offset s.count c.idsums) (part s.offset s.count c.hashsums) (numbers (part s.offset s.count c.counts)) slice-ids slice-hashes numbers-size
        ∙ ap (λ (m : ℕ). layout (slice s.size s.offset s.salt s.width (part s.offset m c.idsums) (part s.offset m c.hashsums) (numbers (part s.offset m c.counts)))) en),
  )
    where
      ready : packs s.width cs p o₃ ≡ true
      ready = ap₂ (λ (l : List ℤ) (q : ℕ). packs s.width l q o₃) cut ep ∙ slice-packs o₃ same

      i : List ℕ
      i = packed 64 (part s.offset s.count c.idsums)

      h : List ℕ
      h = packed 32 (part s.offset s.count c.hashsums)

      k : List ℕ
      k = packed s.width (numbers (part s.offset s.count c.counts))

      li : length i ≡ 8 * s.count
      li = whole_length 8 (part s.offset s.count c.idsums) ∙ ap (λ (m : ℕ). 8 * m) slice-ids

      lh : length h ≡ 4 * s.count
      lh = whole_length 4 (part s.offset s.count c.hashsums) ∙ ap (λ (m : ℕ). 4 * m) slice-hashes

      lk : length k ≡ bytes_for (s.width * s.count)
      lk = packed-length s.width (numbers (part s.offset s.count c.counts)) ∙ ap (λ (m : ℕ). bytes_for (s.width * m)) numbers-size

      two : o₂ ≡ over at (head_of s ++ i) o₀
      two = then_over at o₀ (head_of s) i w1 w2 (omega (arith, head-length s)) (omega (arith, li, slice-room))

      three : o₃ ≡ over at ((head_of s ++ i) ++ h) o₀
      three = then_over at o₀ (head_of s ++ i) h two w3 (omega (arith, head-length s, li, length-append (head_of s) i)) (omega (arith, lh, slice-room))

-- the code's own form of a part
pub part_between : {A : Type 0} (at k : ℕ) (l : List A) → take (at + k - at) (drop at l) ≡ part at k l
part_between {A} at k l = ap (λ (m : ℕ). take m (drop at l)) (add-sub_cancel_left at k)

-- ---- a whole filter

module _ (size width : ℕ) where
  pub filter_bytes_large : 2520 < size → filter_bytes width size ≡ slice_bytes width (in_slice size 0) + slice_bytes width (in_slice size 2520)
  filter_bytes_large h = rw (lt-ltb 2520 size h)

  pub filter_bytes-small : size ≤ 2520 → filter_bytes width size ≡ slice_bytes width (in_slice size 0)
  filter_bytes-small h = rw (le-ltb 2520 size h) (omega arith)

module _ (size salt width : ℕ) (c : Columns) where
  layouts_large : 2520 < size → layouts (slices_of size salt width c) ≡ layout (slice_at size 0 salt width c) ++ layout (slice_at size 2520 salt width c)
  unfolding layouts slices_of
  layouts_large h = rw (lt-ltb 2520 size h, append-nil)

  layouts-small : size ≤ 2520 → layouts (slices_of size salt width c) ≡ layout (slice_at size 0 salt width c)
  unfolding layouts slices_of
  layouts-small h = rw (le-ltb 2520 size h, append-nil)

  module _ (ki : size ≤ length c.idsums) (kh : size ≤ length c.hashsums) (kc : size ≤ length c.counts) where
    pub slice-length : (offset : ℕ) → offset ≤ size → length (layout (slice_at size offset salt width c)) ≡ slice_bytes width (in_slice size offset)
    slice-length offset h =
        slice-size size offset salt width n (part offset n c.idsums) (part offset n c.hashsums) (numbers (part offset n c.counts))
        (part_length offset c.idsums n (omega arith)) (part_length offset c.hashsums n (omega arith))
        (length-map (part offset n c.counts) number ∙ part_length offset c.counts n (omega arith))
      where
        n : ℕ
        n = in_slice size offset

    pub filter_length : length (layouts (slices_of size salt width c)) ≡ filter_bytes width size
    filter_length = go (ltb 2520 size) refl
      where
        go : (t : Bool) → ltb 2520 size ≡ t → length (layouts (slices_of size salt width c)) ≡ filter_bytes width size
        go true e =
            let h = ltb-true 2520 size e in
            ap length (layouts_large h)
            ∙ length-append (layout (slice_at size 0 salt width c)) (layout (slice_at size 2520 salt width c))
            ∙ ap₂ ◌+◌ (slice-length 0 (omega arith)) (slice-length 2520 (omega arith))
            ∙ sym (filter_bytes_large size width h)
        go false e =
            let h = ltb-false 2520 size e in
            ap length (layouts-small h) ∙ slice-length 0 (omega arith) ∙ sym (filter_bytes-small size width h)

-- one slice or two put into a buffer
module _ (size salt width at : ℕ) (c : Columns) (o₀ : List ℕ) (put : FilterPut size width c o₀ at) {p : ℕ} {o₁ : List ℕ} (ep : p ≡ at + slice_bytes width (in_slice size 0)) where
  pub second_put : 2520 < size → length o₁ ≡ length o₀ → SlicePut size 2520 width c o₁ p
  second_put h same = record {
    some = put.some;
    most = put.most;
    high = put.high;
    within = omega arith;
    ids-there = put.ids-there;
    hashes-there = put.hashes-there;
    counts-there = put.counts-there;
    counts-fit = put.counts-fit;
    room = omega (arith, put.room, filter_bytes_large size width h, same, ep);
  }

  module _ (w1 : o₁ ≡ over at (layout (slice_at size 0 salt width c)) o₀) where
    pub one-slice : size ≤ 2520 → (p ≡ at + filter_bytes width size) × (o₁ ≡ over at (layouts (slices_of size salt width c)) o₀)
    one-slice h = (
      ep ∙ ap (λ (n : ℕ). at + n) (sym (filter_bytes-small size width h)),
      w1 ∙ ap (λ (l : List ℕ). over at l o₀) (sym (layouts-small size salt width c h)),
    )

    pub two_slices : {q : ℕ} {o₂ : List ℕ} → 2520 < size → q ≡ p + slice_bytes width (in_slice size 2520)
        → o₂ ≡ over p (layout (slice_at size 2520 salt width c)) o₁
        → (q ≡ at + filter_bytes width size) × (o₂ ≡ over at (layouts (slices_of size salt width c)) o₀)
    two_slices h eq w2 = (
      omega (arith, bytes),
      then_over at o₀ first second w1 w2 (omega (arith, l1)) (omega (arith, l2, bytes, put.room)) ∙ ap (λ (l : List ℕ). over at l o₀) (sym (layouts_large size salt width c h)),
    )
      where
        first : List ℕ
        first = layout (slice_at size 0 salt width c)

        second : List ℕ
        second = layout (slice_at size 2520 salt width c)

        bytes : filter_bytes width size ≡ slice_bytes width (in_slice size 0) + slice_bytes width (in_slice size 2520)
        bytes = filter_bytes_large size width h

        l1 : length first ≡ slice_bytes width (in_slice size 0)
        l1 = slice-length size salt width c put.ids-there put.hashes-there put.counts-there 0 (omega arith)

        l2 : length second ≡ slice_bytes width (in_slice size 2520)
        l2 = slice-length size salt width c put.ids-there put.hashes-there put.counts-there 2520 (omega arith)
