-- Where each bit stands in memory that was packed, and that what was packed is read back: the counts, and zeros behind them. Assumes nothing.
use mathlib.Core.Path.{◌≡◌, refl, sym, ap, ap₂, ◌∙◌}
use mathlib.Core.Bool.{true, and-eq-true_iff}
use mathlib.Core.List.{List, [], ◌∷◌, map}
use Prim.Native.Nat.{ℕ, zero, suc, ◌+◌, ◌*◌, ◌≤◌, ◌<◌}
use native.Mathlib.Omega.{arith}
use borrow.Author.Tests.{eq-eqb, leb-true}
use lib.Dec.{leb}
use lib.IntN.{ℤ, pos}
use lib.ListN.{length, length-map}
use lib.Pow.{pow_pos}
use Rattle.bucket.specs.Digits.{bytes_for, packed, unpacked, spare_bits, bit_at, Below}
use Rattle.bucket.specs.Lists.{over, part}
use Rattle.bucket.specs.Packing.{number, numbers, has_bits, fits_in, takes, packs, pack_into, counters_at, is_bare, unpacks, unpack_into}
use Rattle.bucket.proofs.BitLaws.{part-bit}
use Rattle.bucket.proofs.NumberLaws.{number-below, counts-length}
use Rattle.bucket.proofs.OverLaws.{part-over, part_length, over-length}
use Rattle.bucket.proofs.PackedLaws.{packed-length, packed-spare, unpacked-packed, packed-bit, packed-rest, unpacked-bit}
use Rattle.bucket.proofs.RoomLaws.{Room, takes-room}
use Rattle.bucket.proofs.TestLaws.{and_holds, cond-made}

-- counts that fit are numbers of w bits
pub numbers-below : (w : ℕ) (cs : List ℤ) → fits_in w cs ≡ true → Below w (numbers cs)
unfolding fits_in
numbers-below w [] h i = pow_pos w
numbers-below w (c ∷ cs) h zero = number-below w c ((and-eq-true_iff (has_bits w c) (fits_in w cs)).0 h).0
numbers-below w (c ∷ cs) h (suc i) = numbers-below w cs ((and-eq-true_iff (has_bits w c) (fits_in w cs)).0 h).1 i

module _ (w at : ℕ) (cs : List ℤ) (s : List ℕ) (h : packs w cs at s ≡ true) where
  tests : (fits_in w cs ≡ true) × (takes w (length cs) at (length s) ≡ true)
  tests = (and-eq-true_iff (fits_in w cs) (takes w (length cs) at (length s))).0 h

  room : Room w (length cs) at (length s)
  room = takes-room w (length cs) at (length s) tests.1

  written : pack_into w cs at s ≡ over at (packed w (numbers cs)) s
  unfolding pack_into
  written = sym (cond-made (over at (packed w (numbers cs)) s) s h)

  bytes : length (packed w (numbers cs)) ≡ bytes_for (w * length cs)
  bytes = packed-length w (numbers cs) ∙ ap (λ (n : ℕ). bytes_for (w * n)) (length-map cs number)

  -- the bytes that were written
  there : part at (bytes_for (w * length cs)) (pack_into w cs at s) ≡ packed w (numbers cs)
  there =
      ap₂ (λ (n : ℕ) (l : List ℕ). part at n l) (sym bytes) written
      ∙ part-over at s (packed w (numbers cs)) (let r = room.inside in omega arith)

  pub packed-back : counters_at w (length cs) at (pack_into w cs at s) ≡ numbers cs
  packed-back =
      ap (unpacked w (length cs)) there
      ∙ ap (λ (n : ℕ). unpacked w n (packed w (numbers cs))) (sym (length-map cs number))
      ∙ unpacked-packed w (numbers cs) (numbers-below w cs tests.0)

  there-bit : (j : ℕ) → j < 8 * bytes_for (w * length cs) → bit_at 8 (pack_into w cs at s) (8 * at + j) ≡ bit_at 8 (packed w (numbers cs)) j
  there-bit j lt = sym (part-bit at (bytes_for (w * length cs)) (pack_into w cs at s) j lt) ∙ ap (λ (bs : List ℕ). bit_at 8 bs j) there

  -- packed bit j of the bytes written is bit j mod w, both counted from the highest from 0, of counter j / w rounded down (document 02, Req 03)
  pub bit-written : (j : ℕ) → j < w * length cs → bit_at 8 (pack_into w cs at s) (8 * at + j) ≡ bit_at w (numbers cs) j
  bit-written j lt = there-bit j (omega arith) ∙ packed-bit w (numbers cs) j room.some (rw (length-map cs number) lt)

  -- and the spare bits written are zero
  pub spare-written : (j : ℕ) → w * length cs ≤ j → j < 8 * bytes_for (w * length cs) → bit_at 8 (pack_into w cs at s) (8 * at + j) ≡ 0
  spare-written j le lt = there-bit j lt ∙ packed-rest w (numbers cs) j (rw (length-map cs number) le) (rw bytes lt)

  pub packed-bare : is_bare w (length cs) at (pack_into w cs at s) ≡ true
  unfolding is_bare
  packed-bare =
      and_holds (ap (takes w (length cs) at) kept ∙ tests.1)
      (eq-eqb (spare_bits w (length cs) (part at (bytes_for (w * length cs)) (pack_into w cs at s))) 0 none)
    where
      kept : length (pack_into w cs at s) ≡ length s
      kept = ap length written ∙ over-length at s (packed w (numbers cs)) (let r = room.inside in omega (arith, bytes))

      none : spare_bits w (length cs) (part at (bytes_for (w * length cs)) (pack_into w cs at s)) ≡ 0
      none =
          ap (spare_bits w (length cs)) there
          ∙ ap (λ (n : ℕ). spare_bits w n (packed w (numbers cs))) (sym (length-map cs number))
          ∙ packed-spare w (numbers cs)

numbers_pos : (xs : List ℕ) → numbers (map pos xs) ≡ xs
numbers_pos [] = refl
numbers_pos (x ∷ xs) = ap (λ (l : List ℕ). x ∷ l) (numbers_pos xs)

-- bit j mod w of counter j / w of the counters read is packed bit j
pub bit-read : (w n at : ℕ) (s : List ℕ) (from : ℕ) (cs : List ℤ) → unpacks w n at s from cs ≡ true → (j : ℕ) → j < w * n
    → bit_at w (numbers (part from n (unpack_into w n at s from cs))) j ≡ bit_at 8 s (8 * at + j)
unfolding unpack_into
bit-read w n at s from cs h j lt =
    let tests = (and-eq-true_iff (takes w n at (length s)) (leb (from + n) (length cs))).0 h in
    let room = takes-room w n at (length s) tests.0 in
    let xs = counters_at w n at s in
    let bytes = bytes_for (w * n) in
    ap (λ (l : List ℤ). bit_at w (numbers (part from n l)) j) (sym (cond-made (over from (map pos xs) cs) cs h))
    ∙ ap (λ (l : List ℤ). bit_at w (numbers l) j) (rw (counts-length w n (part at bytes s)) at (part-over from cs (map pos xs) (omega (arith, leb-true (from + n) (length cs) tests.1))))
    ∙ ap (λ (l : List ℕ). bit_at w l j) (numbers_pos xs)
    ∙ unpacked-bit w n (part at bytes s) (part_length at s bytes room.inside) j room.some lt ∙ part-bit at bytes s j (omega arith)
