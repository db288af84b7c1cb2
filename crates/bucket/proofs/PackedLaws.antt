-- The laws of packed numbers: packing and unpacking undo each other, and where each bit stands. Assumes nothing.
use mathlib.Core.Path.{◌≡◌, refl, sym, ap, ap₂, ◌∙◌}
use mathlib.Core.Bool.{Bool, true, false}
use mathlib.Core.List.{List}
use Prim.Native.Nat.{ℕ, zero, ◌+◌, ◌-◌, ◌*◌, ◌/◌, ◌%◌, ◌^◌, ◌≤◌, ◌<◌}
use native.Mathlib.Nat.{mod-lt, mod-eq_of_lt, zero-div, add-zero, mul-mod_left}
use native.Mathlib.Omega.{arith}
use lib.Dec.{ltb}
use lib.ListN.{length, get_or}
use lib.Pow.{pow_pos, split, shr-shr, shl-shr, shl_lt, shr_mod}
use borrow.Author.Tests.{ltb-true, ltb-false}
use Rattle.bucket.specs.Digits.{joined, groups, bytes_for, spare, packed, unpacked, spare_bits, bit_at, Below}
use Rattle.bucket.proofs.BitLaws.{Read, Written, same_number, same_bits, bit-place}
use Rattle.bucket.proofs.DigitLaws.{joined_lt, groups-length, groups-below, groups-joined, groups-joined-at, joined-groups, joined-bit, part-mod}
use Rattle.bucket.proofs.RoomLaws.{bits_ahead}

module _ (w : ℕ) where
  -- the bytes hold the bits
  pub room : (n : ℕ) → n + spare n ≡ 8 * bytes_for n
  room n = omega arith

  -- the bytes of packed numbers, as one number
  pub packed-joined : (xs : List ℕ) → joined 8 (packed w xs) ≡ joined w xs * 2 ^ spare (w * length xs)
  unfolding packed
  packed-joined xs =
      joined-groups 8 (bytes_for (w * length xs)) (joined w xs * 2 ^ spare (w * length xs))
      ∙ mod-eq_of_lt (rw (room (w * length xs)) at (shl_lt (w * length xs) (spare (w * length xs)) (joined_lt w xs)))

  pub packed-length : (xs : List ℕ) → length (packed w xs) ≡ bytes_for (w * length xs)
  unfolding packed
  packed-length xs = groups-length 8 (bytes_for (w * length xs)) (joined w xs * 2 ^ spare (w * length xs))

  pub packed-below : (xs : List ℕ) → Below 8 (packed w xs)
  unfolding packed
  packed-below xs = groups-below 8 (bytes_for (w * length xs)) (joined w xs * 2 ^ spare (w * length xs))

  -- read back what was written
  pub unpacked-packed : (xs : List ℕ) → Below w xs → unpacked w (length xs) (packed w xs) ≡ xs
  unfolding unpacked
  unpacked-packed xs h = rw (packed-joined xs, shl-shr) (groups-joined w xs h)

  pub packed-spare : (xs : List ℕ) → spare_bits w (length xs) (packed w xs) ≡ 0
  unfolding spare_bits
  packed-spare xs = rw (packed-joined xs) (mul-mod_left (joined w xs) (2 ^ spare (w * length xs)))

  pub unpacked-length : (n : ℕ) (bs : List ℕ) → length (unpacked w n bs) ≡ n
  unfolding unpacked
  unpacked-length n bs = groups-length w n (joined 8 bs / 2 ^ spare (w * n))

  -- write again what was read: any bytes of the right number with nothing in the spare bits
  pub packed-unpacked : (n : ℕ) (bs : List ℕ) → length bs ≡ bytes_for (w * n) → Below 8 bs → spare_bits w n bs ≡ 0 → packed w (unpacked w n bs) ≡ bs
  unfolding packed unpacked spare_bits
  packed-unpacked n bs l h z =
      let v = joined 8 bs in
      let s = spare (w * n) in
      let lt : v < 2 ^ (w * n + s) = rw (room (w * n), ← l) (joined_lt 8 bs) in
      let back : v / 2 ^ s % 2 ^ (w * n) * 2 ^ s ≡ v =
      ap (λ (q : ℕ). q * 2 ^ s) (shr_mod (w * n) s lt) ∙ sym (add-zero (v / 2 ^ s * 2 ^ s)) ∙ ap (λ (q : ℕ). v / 2 ^ s * 2 ^ s + q) (sym z) ∙ split v s in
      rw (groups-length w n (v / 2 ^ s), joined-groups w n (v / 2 ^ s), back, ← l) (groups-joined 8 bs h)

-- ---- where each bit stands (document 02, Req 03)

module _ (w n : ℕ) (bs : List ℕ) (l : length bs ≡ bytes_for (w * n)) where
  -- a bit of the bytes, in the one number that they make
  byte_bit : (j : ℕ) → j < 8 * length bs → bit_at 8 bs j ≡ joined 8 bs / 2 ^ (8 * bytes_for (w * n) - 1 - j) % 2
  byte_bit j lt = joined-bit 8 bs j (omega arith) lt ∙ ap (λ (m : ℕ). joined 8 bs / 2 ^ (8 * m - 1 - j) % 2) l

  -- packed bit j is bit j mod w, both counted from the highest from 0, of counter j / w rounded down: of the counters read
  pub unpacked-bit : (j : ℕ) → zero < w → j < w * n → bit_at w (unpacked w n bs) j ≡ bit_at 8 bs j
  unfolding unpacked
  unpacked-bit j pos lt =
      joined-bit w (unpacked w n bs) j pos (rw (unpacked-length w n bs) lt)
      ∙ ap₂ (λ (v m : ℕ). v / 2 ^ (w * m - 1 - j) % 2) (joined-groups w n y) (unpacked-length w n bs)
      ∙ part-mod y (w * n - 1 - j) 1 (w * n) (omega arith)
      ∙ ap (λ (q : ℕ). q % 2) (shr-shr (joined 8 bs) (spare (w * n)) (w * n - 1 - j))
      ∙ ap (λ (e : ℕ). joined 8 bs / 2 ^ e % 2) (omega (arith, room w (w * n)))
      ∙ sym (byte_bit j (omega (arith, l)))
    where
      y : ℕ
      y = joined 8 bs / 2 ^ spare (w * n)

  -- no other number is counter i
  pub read-unpacked : (i x : ℕ) → i < n → Read (λ k. bit_at 8 bs (w * i + k)) w x → x ≡ get_or (unpacked w n bs) i 0
  unfolding unpacked
  read-unpacked i x h r =
      same_number w r.below (groups-below w n _ i)
      (λ k q. r.bits k q ∙ sym (unpacked-bit (w * i + k) (omega arith) (omega (arith, bits_ahead w n i h))) ∙ bit-place w (unpacked w n bs) i k q)

  -- the bits behind the counters are those of `spare_bits`
  spare-bit : (j : ℕ) → w * n ≤ j → j < 8 * length bs → spare_bits w n bs / 2 ^ (8 * bytes_for (w * n) - 1 - j) % 2 ≡ bit_at 8 bs j
  unfolding spare_bits
  spare-bit j le lt = part-mod (joined 8 bs) (8 * bytes_for (w * n) - 1 - j) 1 (spare (w * n)) (omega (arith, l)) ∙ sym (byte_bit j lt)

  -- they are zero exactly where each of them is
  pub spare_zero : spare_bits w n bs ≡ 0 → (j : ℕ) → w * n ≤ j → j < 8 * length bs → bit_at 8 bs j ≡ 0
  spare_zero z j le lt = sym (spare-bit j le lt) ∙ ap (λ (q : ℕ). q / 2 ^ (8 * bytes_for (w * n) - 1 - j) % 2) z ∙ ap (λ (q : ℕ). q % 2) (zero-div (2 ^ (8 * bytes_for (w * n) - 1 - j)))

  pub spare-none : ((j : ℕ) → w * n ≤ j → j < 8 * length bs → bit_at 8 bs j ≡ 0) → spare_bits w n bs ≡ 0
  unfolding spare_bits
  spare-none z = same_number (spare (w * n)) (mod-lt (joined 8 bs) (pow_pos (spare (w * n)))) (pow_pos (spare (w * n))) each
    where
      each : (k : ℕ) → k < spare (w * n) → spare_bits w n bs / 2 ^ (spare (w * n) - 1 - k) % 2 ≡ 0 / 2 ^ (spare (w * n) - 1 - k) % 2
      each k q =
          let same : spare (w * n) - 1 - k ≡ 8 * bytes_for (w * n) - 1 - (w * n + k) = omega arith in
          ap (λ (e : ℕ). spare_bits w n bs / 2 ^ e % 2) same ∙ spare-bit (w * n + k) (omega arith) (omega (arith, l)) ∙ z (w * n + k) (omega arith) (omega (arith, l))
          ∙ ap (λ (v : ℕ). v % 2) (sym (zero-div (2 ^ (spare (w * n) - 1 - k))))

module _ (w : ℕ) (xs : List ℕ) where
  -- packed bit j is bit j mod w, both counted from the highest from 0, of counter j / w rounded down: of the bytes written
  pub packed-bit : (j : ℕ) → zero < w → j < w * length xs → bit_at 8 (packed w xs) j ≡ bit_at w xs j
  unfolding unpacked
  packed-bit j pos lt =
      sym (unpacked-bit w (length xs) (packed w xs) (packed-length w xs) j pos lt)
      ∙ ap (λ (v : ℕ). bit_at w (groups w (length xs) v) j) (ap (λ (q : ℕ). q / 2 ^ spare (w * length xs)) (packed-joined w xs) ∙ shl-shr (joined w xs) (spare (w * length xs)))
      ∙ ap (λ (q : ℕ). q / 2 ^ (w - 1 - j % w) % 2) (groups-joined-at w xs (j / w))
      ∙ part-mod (get_or xs (j / w) 0) (w - 1 - j % w) 1 w (omega (arith, mod-lt j pos))

  -- spare bits are zero
  pub packed-rest : (j : ℕ) → w * length xs ≤ j → j < 8 * length (packed w xs) → bit_at 8 (packed w xs) j ≡ 0
  packed-rest = spare_zero w (length xs) (packed w xs) (packed-length w xs) (packed-spare w xs)

  -- no other bytes are the counters'
  pub written-packed : (bs : List ℕ) → zero < w → length bs ≡ bytes_for (w * length xs) → Written (bit_at w xs) (w * length xs) bs → bs ≡ packed w xs
  written-packed bs pos l f = same_bits 8 bs (packed w xs) f.below (packed-below w xs) (l ∙ sym (packed-length w xs)) (λ j lt. go j lt (ltb j (w * length xs)) refl)
    where
      go : (j : ℕ) → j < 8 * length bs → (t : Bool) → ltb j (w * length xs) ≡ t → bit_at 8 bs j ≡ bit_at 8 (packed w xs) j
      go j lt true e = let h = ltb-true j (w * length xs) e in f.done j h ∙ sym (packed-bit j pos h)
      go j lt false e = let h = ltb-false j (w * length xs) e in f.rest j h ∙ sym (packed-rest j h (rw (packed-length w xs, ← l) lt))
