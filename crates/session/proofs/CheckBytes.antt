-- A checksum as a number of 64 bytes: XORed hashes are one, and its bytes are those packed. Assumes nothing.
use mathlib.Core.Path.{◌≡◌, sym, ap, ◌∙◌}
use mathlib.Core.Bool.{Bool, true, false, cond}
use mathlib.Core.List.{List, [], ◌∷◌, foldr}
use Prim.Native.Nat.{ℕ, ◌*◌, ◌^◌, ◌<◌}
use native.Mathlib.Omega.{arith}
use lib.Bits.{bit_xor, xor_lt}
use lib.ListN.{length, take}
use lib.Pow.{pow_pos}
use lib.Seq.{take_all}
use Rattle.bucket.specs.Digits.{joined, packed, Below}
use Rattle.bucket.specs.Lists.{part}
use Rattle.bucket.proofs.ListLaws.{elem-head, elem_tail}
use Rattle.bucket.proofs.PackedLaws.{packed-below}
use Rattle.filter.specs.Table.{hashes_of}
use Rattle.message.proofs.WholeLaws.{packed-cons, field-here, whole_length}
use Rattle.ledger.specs.Memory.{is_met, marked}
use Rattle.ledger.proofs.BelowLaws.{Fit, hashes-fit, xor_fit}
use Rattle.session.specs.Moves.{check_of}
use Rattle.session.specs.Ready.{Sum}
use Rattle.session.proofs.PlaceLaws.{same_bytes}
use Rattle.std.specs.Cmp.Lexicographic.{pointwise}
use lib.Dec.{eqb}

met-short : (K fs : List ℕ) → Fit 512 K → foldr bit_xor 0 (marked is_met K fs) < 2 ^ 512
unfolding marked
met-short [] fs short = pow_pos 512
met-short (h ∷ K) [] short = pow_pos 512
met-short (h ∷ K) (m ∷ fs) short = go (is_met m) (met-short K fs (λ x e. short x (elem_tail x h K e)))
  where
    go : (b : Bool) → foldr bit_xor 0 (marked is_met K fs) < 2 ^ 512 → foldr bit_xor 0 (cond b (h ∷ marked is_met K fs) (marked is_met K fs)) < 2 ^ 512
    go true e = xor_lt 512 h (foldr bit_xor 0 (marked is_met K fs)) (short h (elem-head h K)) e
    go false e = e

pub check-short : (table known fs : List ℕ) → check_of (hashes_of table) (hashes_of known) fs < 2 ^ 512
unfolding check_of
check-short table known fs =
    xor_lt 512 (foldr bit_xor 0 (hashes_of table)) (foldr bit_xor 0 (marked is_met (hashes_of known) fs))
    (xor_fit 512 (hashes_of table) (hashes-fit table)) (met-short (hashes_of known) fs (hashes-fit known))

-- a number's bytes
pub bytes-sum : (x : ℕ) (acc : List ℕ) → acc ≡ packed 512 (x ∷ []) → x < 2 ^ 512 → Sum x acc
bytes-sum x acc e short = rw e record { sum = number; size = whole_length 64 (x ∷ []); fit = packed-below 512 (x ∷ []) }
  where
    number : joined 8 (packed 512 (x ∷ [])) ≡ x
    number =
        ap (joined 8) (sym (take_all 64 (packed 512 (x ∷ [])) (omega (arith, whole_length 64 (x ∷ [])))))
        ∙ ap (λ (l : List ℕ). joined 8 (part 0 64 l)) (packed-cons 64 x [])
        ∙ field-here 64 x (packed 512 []) short

-- and the number of them
pub sum_number : (x : ℕ) (acc : List ℕ) → Sum x acc → joined 8 (part 0 64 acc) ≡ x
sum_number x acc s = ap (joined 8) (take_all 64 acc (omega (arith, s.size))) ∙ s.sum

-- compared with bytes that came
pub sum_same : (far : List ℕ) (x : ℕ) (acc : List ℕ) → length far ≡ 64 → Below 8 far → Sum x acc → pointwise eqb far acc ≡ eqb (joined 8 far) (joined 8 (take 64 acc))
sum_same far x acc size below s =
    same_bytes far acc size s.size below s.fit ∙ ap (λ (l : List ℕ). eqb (joined 8 far) (joined 8 l)) (sym (take_all 64 acc (omega (arith, s.size))))

-- the checksum of the table and of the met ones of the first n hashes of records
abbrev pub check_in : List ℕ → ℕ → List ℕ → List ℕ → ℕ
check_in table n records M = let known = hashes_of (take (64 * n) records) in check_of (hashes_of table) known (part 4096 (length known) M)

pub check-made : (table : List ℕ) (n : ℕ) (records M acc : List ℕ) → acc ≡ packed 512 (check_in table n records M ∷ []) → Sum (check_in table n records M) acc
check-made table n records M acc e =
    let known = take (64 * n) records in
    bytes-sum (check_in table n records M) acc e (check-short table known (part 4096 (length (hashes_of known)) M))
