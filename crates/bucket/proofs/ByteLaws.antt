-- Bytes as the library gives and takes them: a number in its eight bytes, the last of them, and a number made up byte by byte. Assumes nothing.
use mathlib.Core.Path.{◌≡◌, refl, sym, ap, ◌∙◌}
use mathlib.Core.List.{List, [], ◌∷◌}
use Prim.Native.Nat.{ℕ, zero, suc, ◌+◌, ◌-◌, ◌*◌, ◌/◌, ◌%◌, ◌^◌, ◌≤◌, ◌<◌}
use native.Mathlib.Nat.{div-one, mod-eq_of_lt, zero-add, suc-add}
use native.Mathlib.Omega.{arith}
use lib.Bits.{bit_or, or_shifted}
use lib.ListN.{length, take, drop}
use lib.Pow.{pow-add, shl_exact}
use lib.Seq.{take_all}
use Rattle.std.specs.Int.{w64, to_be_bytes}
use Rattle.std.specs.List.{fold}
use Rattle.bucket.specs.Digits.{joined, groups, Below}
use Rattle.bucket.proofs.DigitLaws.{groups-length}

-- the bytes of a number
pub be-bytes : (x : ℕ) → to_be_bytes w64 x ≡ groups 8 8 x
unfolding groups
be-bytes x = ap (λ (q : ℕ). x / 2 ^ 56 % 256 ∷ x / 2 ^ 48 % 256 ∷ x / 2 ^ 40 % 256 ∷ x / 2 ^ 32 % 256 ∷ x / 2 ^ 24 % 256 ∷ x / 2 ^ 16 % 256 ∷ x / 2 ^ 8 % 256 ∷ q % 256 ∷ []) (sym (div-one x))

groups-drop : (w j k x : ℕ) → drop j (groups w (j + k) x) ≡ groups w k x
unfolding groups
groups-drop w zero k x = rw zero-add refl
groups-drop w (suc j) k x = rw suc-add (groups-drop w j k x)

-- the last k of them, lent
pub last-bytes : (k x : ℕ) → k ≤ 8 → take (8 - (8 - k)) (drop (8 - k) (to_be_bytes w64 x)) ≡ groups 8 k x
last-bytes k x h =
    let all : 8 ≡ 8 - k + k = omega arith in
    ap (λ (bs : List ℕ). take (8 - (8 - k)) (drop (8 - k) bs)) (be-bytes x ∙ ap (λ (n : ℕ). groups 8 n x) all)
    ∙ ap (take (8 - (8 - k))) (groups-drop 8 (8 - k) k x)
    ∙ take_all (8 - (8 - k)) (groups 8 k x) (omega (arith, groups-length 8 k x))

-- one more byte behind a number
abbrev pub byte_behind : ℕ → ℕ → ℕ
byte_behind v b = bit_or (v * 2 ^ 8 % 2 ^ 64) b

made_up : (bs : List ℕ) (k a : ℕ) → k + length bs ≤ 8 → a < 2 ^ (8 * k) → Below 8 bs → fold byte_behind a bs ≡ a * 2 ^ (8 * length bs) + joined 8 bs
unfolding joined
made_up [] k a l h small = omega arith
made_up (b ∷ bs) k a l h small =
    made_up bs (k + 1) (byte_behind a b) (omega arith) (rw (next, more) (omega (arith, small 0))) (λ i. small (suc i))
    ∙ rw (next, longer, mod-eq_of_lt (small 0)) (omega arith)
  where
    longer : 2 ^ (8 * suc (length bs)) ≡ 256 * 2 ^ (8 * length bs)
    longer = ap (λ (n : ℕ). 2 ^ n) (omega arith) ∙ pow-add 2 8 (8 * length bs)

    more : 2 ^ (8 * (k + 1)) ≡ 2 ^ (8 * k) * 256
    more = ap (λ (n : ℕ). 2 ^ n) (omega arith) ∙ pow-add 2 (8 * k) 8

    next : byte_behind a b ≡ a * 2 ^ 8 + b
    next = rw (shl_exact (8 * k) 8 64 h (omega arith)) (or_shifted a 8 b (small 0))

pub fold-joined : (bs : List ℕ) → length bs ≤ 8 → Below 8 bs → fold byte_behind 0 bs ≡ joined 8 bs
fold-joined bs l small = made_up bs 0 0 (omega arith) (omega arith) small ∙ omega arith
