-- Bytes taken a chunk at a time, from the front: each is the first item of those that are left; and a part that is lent. Assumes nothing.
use mathlib.Core.Path.{◌≡◌, refl, sym, ap, subst, ◌∙◌}
use mathlib.Core.List.{List, [], ◌∷◌, ◌++◌}
use Prim.Native.Nat.{ℕ, zero, suc, ◌+◌, ◌-◌, ◌*◌, ◌/◌, ◌%◌, ◌≤◌, ◌<◌}
use native.Mathlib.Nat.{mul-suc, add_comm}
use native.Mathlib.Omega.{arith}
use lib.ListN.{length, take, drop, get_or, length-append}
use lib.Seq.{ext_get_or, take_all, take_at, drop_at, drop-drop}
use Rattle.bucket.specs.Digits.{joined, groups, unpacked, Below}
use borrow.Rule.Slice.PartMut.{put_mid}
use Rattle.bucket.specs.Lists.{over, part}
use Rattle.bucket.specs.Crc.{tabulated}
use Rattle.bucket.proofs.OverLaws.{over-part, part_length}
use Rattle.bucket.proofs.PackedLaws.{unpacked-length}
use Rattle.filter.specs.Table.{hash_at, hashes_of}
use Rattle.filter.proofs.TableLaws.{hashes-length, hash_at_lem}
use Rattle.message.proofs.WholeLaws.{item, take_below, drop-below}

module _ (k : ℕ) (x rest : List ℕ) (size : length x ≡ k) where
  part_front : part (k * 0) k (x ++ rest) ≡ x
  part_front = ap (λ (n : ℕ). part n k (x ++ rest)) none ∙ take_at x rest k size
    where
      none : k * 0 ≡ 0
      none = omega arith

  part_behind : (i : ℕ) → part (k * suc i) k (x ++ rest) ≡ part (k * i) k rest
  part_behind i =
      ap (λ (n : ℕ). part n k (x ++ rest)) (mul-suc k i ∙ add_comm (k * i) k)
      ∙ ap (take k) (sym (drop-drop (k * i) k (x ++ rest)) ∙ ap (drop (k * i)) (drop_at x rest k size))

-- the numbers of k bytes each
pub items-cons : (k n : ℕ) (x rest : List ℕ) → length x ≡ k → length rest ≡ k * n → unpacked (8 * k) (n + 1) (x ++ rest) ≡ joined 8 x ∷ unpacked (8 * k) n rest
items-cons k n x rest size whole =
    ext_get_or 0 (unpacked (8 * k) (n + 1) (x ++ rest)) (joined 8 x ∷ unpacked (8 * k) n rest)
    (unpacked-length (8 * k) (n + 1) (x ++ rest) ∙ omega (arith, unpacked-length (8 * k) n rest))
    each
  where
    long : length (x ++ rest) ≡ k * (n + 1)
    long = omega (arith, length-append x rest, size, whole)

    each : (i : ℕ) → i < length (unpacked (8 * k) (n + 1) (x ++ rest)) → get_or (unpacked (8 * k) (n + 1) (x ++ rest)) i 0 ≡ get_or (joined 8 x ∷ unpacked (8 * k) n rest) i 0
    each zero h = item k (n + 1) (x ++ rest) 0 (omega arith) long ∙ ap (joined 8) (part_front k x rest size)
    each (suc i) h =
        let l : i < n = omega (arith, unpacked-length (8 * k) (n + 1) (x ++ rest)) in
        item k (n + 1) (x ++ rest) (suc i) (omega arith) long ∙ ap (joined 8) (part_behind k x rest size i) ∙ sym (item k n rest i l whole)

-- bytes that are numbers of eight bits
module _ (x rest : List ℕ) {bytes : List ℕ} (e : bytes ≡ x ++ rest) (below : Below 8 bytes) where
  pub front-below : Below 8 x
  front-below = subst (Below 8) (ap (take (length x)) e ∙ take_at x rest (length x) refl) (take_below 8 (length x) bytes below)

  pub rest-below : Below 8 rest
  rest-below = subst (Below 8) (ap (drop (length x)) e ∙ drop_at x rest (length x) refl) (drop-below 8 (length x) bytes below)

-- hashes
pub hashes-cons : (x rest : List ℕ) {bytes : List ℕ} → bytes ≡ x ++ rest → length x ≡ 64 → hashes_of bytes ≡ joined 8 x ∷ hashes_of rest
hashes-cons x rest e size =
    ap hashes_of e
    ∙ ext_get_or 0 (hashes_of (x ++ rest)) (joined 8 x ∷ hashes_of rest) (hashes-length (x ++ rest) ∙ omega (arith, count, hashes-length rest)) each
  where
    count : length (x ++ rest) / 64 ≡ length rest / 64 + 1
    count = omega (arith, length-append x rest, size)

    each : (i : ℕ) → i < length (hashes_of (x ++ rest)) → get_or (hashes_of (x ++ rest)) i 0 ≡ get_or (joined 8 x ∷ hashes_of rest) i 0
    each zero h = hash_at_lem (x ++ rest) 0 (omega (arith, count)) ∙ ap (joined 8) (part_front 64 x rest size)
    each (suc i) h =
        let l : i < length rest / 64 = omega (arith, hashes-length (x ++ rest), count) in
        hash_at_lem (x ++ rest) (suc i) (omega (arith, count)) ∙ ap (joined 8) (part_behind 64 x rest size i) ∙ sym (hash_at_lem rest i l)

pub hashes_none : (rest : List ℕ) → length rest < 64 → hashes_of rest ≡ []
unfolding hashes_of tabulated
hashes_none rest short =
    let none : length rest / 64 ≡ 0 = omega arith in
    ap (λ (n : ℕ). tabulated (hash_at rest) 0 n) none

-- whole hashes that are lent as a part of a message
pub hashes_whole : (n : ℕ) (bytes : List ℕ) → length bytes ≡ 64 * n → hashes_of bytes ≡ unpacked 512 n bytes
hashes_whole n bytes whole =
    ext_get_or 0 (hashes_of bytes) (unpacked 512 n bytes) (hashes-length bytes ∙ omega (arith, unpacked-length 512 n bytes))
    (λ i h. let l = rw (hashes-length bytes) at h in hash_at_lem bytes i l ∙ sym (item 64 n bytes i (omega arith) whole))

-- ---- IDs of eight bytes, as they stand in an INQUIRY

abbrev pub ids_in : List ℕ → List ℕ
ids_in bytes = unpacked 64 (length bytes / 8) bytes

pub ids-cons : (x rest : List ℕ) {bytes : List ℕ} {id : ℕ} → bytes ≡ x ++ rest → length x ≡ 8 → length bytes % 8 ≡ 0 → id ≡ joined 8 (part 0 8 x)
    → ids_in bytes ≡ id ∷ ids_in rest
ids-cons x rest {bytes} {id} e size whole read =
    ap ids_in e
    ∙ ap (λ (n : ℕ). unpacked 64 n (x ++ rest)) count
    ∙ items-cons 8 (length rest / 8) x rest size (omega (arith, long, size, whole))
    ∙ ap (λ (n : ℕ). n ∷ ids_in rest) (sym (read ∙ ap (joined 8) (take_all 8 x (omega arith))))
  where
    long : length bytes ≡ length x + length rest
    long = ap length e ∙ length-append x rest

    count : length (x ++ rest) / 8 ≡ length rest / 8 + 1
    count = omega (arith, length-append x rest, size)

pub ids_none : (bytes : List ℕ) → length bytes < 8 → ids_in bytes ≡ []
unfolding unpacked groups
ids_none bytes short =
    let none : length bytes / 8 ≡ 0 = omega arith in
    ap (λ (n : ℕ). unpacked 64 n bytes) none

pub ids_whole : (n : ℕ) (bytes : List ℕ) → length bytes ≡ 8 * n → ids_in bytes ≡ unpacked 64 n bytes
ids_whole n bytes whole = let count : length bytes / 8 ≡ n = omega arith in ap (λ (m : ℕ). unpacked 64 m bytes) count

-- ---- a part lent

module _ {A : Type 0} (at k : ℕ) (l : List A) where
  pub lent : take (at + k - at) (drop at l) ≡ part at k l
  lent = let size : at + k - at ≡ k = omega arith in ap (λ (n : ℕ). take n (drop at l)) size

  pub lent-length : at + k ≤ length l → length (take (at + k - at) (drop at l)) ≡ k
  lent-length room = ap length lent ∙ part_length at l k room

  -- and written over
  pub lent_over : (xs : List A) → length xs ≡ k → put_mid at (at + k - at) l xs ≡ over at xs l
  lent_over xs size = over-part at (at + k) xs l (ap (λ (n : ℕ). at + n) size)

-- the items of a message
pub ids_lent : (n : ℕ) (message : List ℕ) → 8 + 8 * n ≤ length message → ids_in (take (8 + 8 * n - 8) (drop 8 message)) ≡ unpacked 64 n (part 8 (8 * n) message)
ids_lent n message room = ap ids_in (lent 8 (8 * n) message) ∙ ids_whole n (part 8 (8 * n) message) (part_length 8 message (8 * n) room)

pub hashes_lent : (n : ℕ) (message : List ℕ) → 4 + 64 * n ≤ length message → hashes_of (take (4 + 64 * n - 4) (drop 4 message)) ≡ unpacked 512 n (part 4 (64 * n) message)
hashes_lent n message room = ap hashes_of (lent 4 (64 * n) message) ∙ hashes_whole n (part 4 (64 * n) message) (part_length 4 message (64 * n) room)
