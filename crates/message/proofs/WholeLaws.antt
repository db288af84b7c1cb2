-- Numbers of whole bytes: packed, each is its own bytes; a field of bytes is read and written back; an item is read by its number.
-- Assumes nothing.
use mathlib.Core.Path.{◌≡◌, sym, ap, ap₂, ◌∙◌}
use mathlib.Core.List.{List, [], ◌∷◌, ◌++◌, append_assoc, append-nil}
use Prim.Native.Nat.{ℕ, zero, suc, ◌+◌, ◌-◌, ◌*◌, ◌/◌, ◌%◌, ◌^◌, ◌≤◌, ◌<◌}
use native.Mathlib.Nat.{mod-eq_of_lt, mod-one, mul-one, mul-suc, mul_assoc, add_comm, mul-zero}
use native.Mathlib.Omega.{arith}
use lib.ListN.{length, take, drop, get_or, take-append-drop}
use lib.Seq.{take_at, drop_at, drop-drop}
use lib.Pow.{pow_pos, high}
use Rattle.bucket.specs.Digits.{joined, groups, bytes_for, spare, packed, unpacked, spare_bits, bit_at, Below}
use Rattle.bucket.specs.Lists.{part}
use Rattle.bucket.proofs.BitLaws.{part-bit}
use Rattle.bucket.proofs.DigitLaws.{joined_lt, joined-bit, joined-groups, groups-append, groups-mod, groups-low, groups-joined, groups-length}
use Rattle.bucket.proofs.PackedLaws.{packed-unpacked, packed-length, read-unpacked}
use Rattle.bucket.proofs.OverLaws.{part_length, number_lt, part-part}
use Rattle.bucket.proofs.RoomLaws.{bits_ahead}
use Rattle.message.specs.Reading.{field}

pub whole : (k n : ℕ) → bytes_for (8 * k * n) ≡ k * n
whole k n = let e = mul_assoc 8 k n in omega arith

pub none-spare : (k n : ℕ) → spare (8 * k * n) ≡ 0
none-spare k n = let e = mul_assoc 8 k n in omega arith

-- packed numbers of whole bytes
pub packed-whole : (k : ℕ) (xs : List ℕ) → packed (8 * k) xs ≡ groups 8 (k * length xs) (joined (8 * k) xs)
unfolding packed
packed-whole k xs =
    ap₂ (λ (m s : ℕ). groups 8 m (joined (8 * k) xs * 2 ^ s)) (whole k (length xs)) (none-spare k (length xs))
    ∙ ap (groups 8 (k * length xs)) (mul-one (joined (8 * k) xs))

pub packed-nil : (k : ℕ) → packed (8 * k) [] ≡ []
unfolding groups
packed-nil k = packed-whole k [] ∙ ap (λ (m : ℕ). groups 8 m (joined (8 * k) [])) (mul-zero k)

pub packed-cons : (k x : ℕ) (xs : List ℕ) → packed (8 * k) (x ∷ xs) ≡ groups 8 k x ++ packed (8 * k) xs
unfolding joined
packed-cons k x xs =
    packed-whole k (x ∷ xs)
    ∙ ap (λ (m : ℕ). groups 8 m v) (mul-suc k n ∙ add_comm (k * n) k)
    ∙ groups-append 8 k (k * n) v
    ∙ ap₂ (λ (a b : List ℕ). a ++ b) front back
    ∙ ap (λ (l : List ℕ). groups 8 k x ++ l) (sym (packed-whole k xs))
  where
    n : ℕ
    n = length xs

    v : ℕ
    v = x % 2 ^ (8 * k) * 2 ^ (8 * k * n) + joined (8 * k) xs

    e : 8 * k * n ≡ 8 * (k * n)
    e = mul_assoc 8 k n

    rest : joined (8 * k) xs < 2 ^ (8 * (k * n))
    rest = rw e at (joined_lt (8 * k) xs)

    v' : v ≡ x % 2 ^ (8 * k) * 2 ^ (8 * (k * n)) + joined (8 * k) xs
    v' = ap (λ (q : ℕ). x % 2 ^ (8 * k) * 2 ^ q + joined (8 * k) xs) e

    front : groups 8 k (v / 2 ^ (8 * (k * n))) ≡ groups 8 k x
    front =
        ap (λ (q : ℕ). groups 8 k (q / 2 ^ (8 * (k * n)))) v'
        ∙ ap (groups 8 k) (high (x % 2 ^ (8 * k)) (8 * (k * n)) rest)
        ∙ groups-mod 8 k x (8 * k) (omega arith)

    back : groups 8 (k * n) v ≡ groups 8 (k * n) (joined (8 * k) xs)
    back = ap (groups 8 (k * n)) v' ∙ groups-low 8 (k * n) (x % 2 ^ (8 * k)) rest

-- a field before the rest
module _ (k x : ℕ) (rest : List ℕ) where
  pub field-here : x < 2 ^ (8 * k) → field k 0 (groups 8 k x ++ rest) ≡ x
  field-here h =
      ap (joined 8) (take_at (groups 8 k x) rest k (groups-length 8 k x)) ∙ joined-groups 8 k x ∙ mod-eq_of_lt h

  pub drop-field : (at : ℕ) → drop (k + at) (groups 8 k x ++ rest) ≡ drop at rest
  drop-field at = sym (drop-drop at k (groups 8 k x ++ rest)) ∙ ap (drop at) (drop_at (groups 8 k x) rest k (groups-length 8 k x))

  pub field-there : (m at : ℕ) → field m (k + at) (groups 8 k x ++ rest) ≡ field m at rest
  field-there m at = ap (λ (l : List ℕ). joined 8 (take m l)) (drop-field at)

-- bytes as the field that they hold
pub take_below : (w k : ℕ) (l : List ℕ) → Below w l → Below w (take k l)
take_below w zero l h i = pow_pos w
take_below w (suc k) [] h i = pow_pos w
take_below w (suc k) (x ∷ l) h zero = h 0
take_below w (suc k) (x ∷ l) h (suc i) = take_below w k l (λ j. h (suc j)) i

pub drop-below : (w k : ℕ) (l : List ℕ) → Below w l → Below w (drop k l)
drop-below w zero l h = h
drop-below w (suc k) [] h = h
drop-below w (suc k) (x ∷ l) h = drop-below w k l (λ j. h (suc j))

pub part-below : (at k : ℕ) (bs : List ℕ) → Below 8 bs → Below 8 (part at k bs)
part-below at k bs h = take_below 8 k (drop at bs) (drop-below 8 at bs h)

pub field_back : (k at : ℕ) (bs : List ℕ) → Below 8 bs → at + k ≤ length bs → groups 8 k (field k at bs) ≡ part at k bs
field_back k at bs h l =
    ap (λ (m : ℕ). groups 8 m (field k at bs)) (sym (part_length at bs k l)) ∙ groups-joined 8 (part at k bs) (part-below at k bs h)

pub part-rest : (at k : ℕ) (bs : List ℕ) → part at k bs ++ drop (at + k) bs ≡ drop at bs
part-rest at k bs = ap (λ (l : List ℕ). part at k bs ++ l) (sym (drop-drop k at bs)) ∙ take-append-drop k (drop at bs)

-- numbers of k bytes, read and written again
module _ (k n : ℕ) (l : List ℕ) (len : length l ≡ k * n) (below : Below 8 l) where
  pub whole_back : packed (8 * k) (unpacked (8 * k) n l) ≡ l
  unfolding spare_bits
  whole_back = packed-unpacked (8 * k) n l (len ∙ sym (whole k n)) below (ap (λ (s : ℕ). joined 8 l % 2 ^ s) (none-spare k n) ∙ mod-one (joined 8 l))

pub one-back : (k at : ℕ) (bs : List ℕ) → Below 8 bs → at + k ≤ length bs → packed (8 * k) (field k at bs ∷ []) ≡ part at k bs
one-back k at bs h l = packed-cons k (field k at bs) [] ∙ ap₂ (λ (a b : List ℕ). a ++ b) (field_back k at bs h l) (packed-nil k) ∙ append-nil (part at k bs)

pub two_back : (k at : ℕ) (bs : List ℕ) → Below 8 bs → at + k + k ≤ length bs → packed (8 * k) (field k at bs ∷ field k (at + k) bs ∷ []) ++ drop (at + k + k) bs ≡ drop at bs
two_back k at bs h l =
    ap (λ (q : List ℕ). q ++ drop (at + k + k) bs)
    (packed-cons k (field k at bs) (field k (at + k) bs ∷ []) ∙ ap₂ (λ (a b : List ℕ). a ++ b) (field_back k at bs h (omega arith)) (one-back k (at + k) bs h l))
    ∙ append_assoc (part at k bs) (part (at + k) k bs) (drop (at + k + k) bs)
    ∙ ap (λ (q : List ℕ). part at k bs ++ q) (part-rest (at + k) k bs)
    ∙ part-rest at k bs

pub packed-one : (k x : ℕ) (rest : List ℕ) → packed (8 * k) (x ∷ []) ++ rest ≡ groups 8 k x ++ rest
packed-one k x rest = ap (λ (l : List ℕ). l ++ rest) (packed-cons k x [] ∙ ap (λ (l : List ℕ). groups 8 k x ++ l) (packed-nil k) ∙ append-nil (groups 8 k x))

pub packed_two : (k x y : ℕ) (rest : List ℕ) → packed (8 * k) (x ∷ y ∷ []) ++ rest ≡ groups 8 k x ++ (groups 8 k y ++ rest)
packed_two k x y rest =
    ap (λ (l : List ℕ). l ++ rest) (packed-cons k x (y ∷ [])) ∙ append_assoc (groups 8 k x) (packed (8 * k) (y ∷ [])) rest
    ∙ ap (λ (l : List ℕ). groups 8 k x ++ l) (packed-one k y rest)

pub packed-append : (k : ℕ) (xs ys : List ℕ) → packed (8 * k) (xs ++ ys) ≡ packed (8 * k) xs ++ packed (8 * k) ys
packed-append k [] ys = ap (λ (l : List ℕ). l ++ packed (8 * k) ys) (sym (packed-nil k))
packed-append k (x ∷ xs) ys =
    packed-cons k x (xs ++ ys)
    ∙ ap (λ (l : List ℕ). groups 8 k x ++ l) (packed-append k xs ys)
    ∙ sym (append_assoc (groups 8 k x) (packed (8 * k) xs) (packed (8 * k) ys))
    ∙ ap (λ (l : List ℕ). l ++ packed (8 * k) ys) (sym (packed-cons k x xs))

pub packed_snoc : (k : ℕ) (xs : List ℕ) (x : ℕ) → packed (8 * k) (xs ++ x ∷ []) ≡ packed (8 * k) xs ++ groups 8 k x
packed_snoc k xs x =
    packed-append k xs (x ∷ [])
    ∙ ap (λ (l : List ℕ). packed (8 * k) xs ++ l) (packed-cons k x [] ∙ ap (λ (l : List ℕ). groups 8 k x ++ l) (packed-nil k) ∙ append-nil (groups 8 k x))

pub whole_length : (k : ℕ) (xs : List ℕ) → length (packed (8 * k) xs) ≡ k * length xs
whole_length k xs = packed-length (8 * k) xs ∙ whole k (length xs)

-- item i of numbers of k bytes each: the number that has the bits of its bytes
pub item : (k n : ℕ) (l : List ℕ) (i : ℕ) → i < n → length l ≡ k * n → get_or (unpacked (8 * k) n l) i 0 ≡ field k (k * i) l
item k n l i h len = sym (read-unpacked (8 * k) n l (len ∙ sym (whole k n)) i (field k (k * i) l) h (record { below = number_lt (k * i) l k inside; bits = each }))
  where
    inside : k * i + k ≤ length l
    inside = omega (arith, bits_ahead k n i h, len)

    each : (j : ℕ) → j < 8 * k → field k (k * i) l / 2 ^ (8 * k - 1 - j) % 2 ≡ bit_at 8 l (8 * k * i + j)
    each j q =
        let long = part_length (k * i) l k inside in
        sym (joined-bit 8 (part (k * i) k l) j (omega arith) (omega (arith, long)) ∙ ap (λ (m : ℕ). field k (k * i) l / 2 ^ (8 * m - 1 - j) % 2) long)
        ∙ part-bit (k * i) k l j q ∙ ap (λ (m : ℕ). bit_at 8 l (m + j)) (sym (mul_assoc 8 k i))

-- number i of n of k bytes each, which stand in bs from a position on
pub item_there : (k n at : ℕ) (bs : List ℕ) → at + k * n ≤ length bs → (i : ℕ) → i < n → get_or (unpacked (8 * k) n (part at (k * n) bs)) i 0 ≡ field k (at + k * i) bs
item_there k n at bs there i h =
    item k n (part at (k * n) bs) i h (part_length at bs (k * n) there) ∙ ap (joined 8) (part-part bs at (k * n) (k * i) k (bits_ahead k n i h))
