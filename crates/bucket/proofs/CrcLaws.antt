-- The CRC's steps pass through XOR, so the CRC of eight bytes is affine: a linear part and a constant. Assumes nothing.
use mathlib.Core.Path.{◌≡◌, refl, sym, ap, ap₂, ◌∙◌}
use mathlib.Core.List.{List, [], ◌∷◌, ◌++◌}
use Prim.Native.Nat.{ℕ, zero, suc, ◌+◌, ◌*◌, ◌/◌, ◌%◌, ◌^◌, ◌<◌}
use native.Mathlib.Nat.{zero-add, suc-add}
use native.Mathlib.Omega.{arith}
use lib.Bits.{bit_xor, xor_shr, xor_mod, xor_comm, xor_zero_l, xor_zero_r, xor_lt}
use lib.Dec.{lit<}
use lib.ListN.{length}
use Rattle.std.specs.List as Folds
use Rattle.bucket.specs.Digits.{groups}
use Rattle.bucket.specs.Crc.{fold, step, steps, feed, crc32, crc_of, crc_of_zero}
use Rattle.bucket.proofs.DigitLaws.{groups-length}
use Rattle.bucket.proofs.XorLaws.{xor_assoc, xor_cross}

fold_xor : (p q a b : ℕ) → p < 2 → q < 2 → fold (bit_xor p q) (bit_xor a b) ≡ bit_xor (fold p a) (fold q b)
fold_xor zero zero a b hp hq = refl
fold_xor zero (suc zero) a b hp hq = xor_assoc a b 0xEDB88320
fold_xor (suc zero) zero a b hp hq = xor_assoc a b 0xEDB88320 ∙ ap (bit_xor a) (xor_comm b 0xEDB88320) ∙ sym (xor_assoc a 0xEDB88320 b)
fold_xor (suc zero) (suc zero) a b hp hq = sym (xor_cross a 0xEDB88320 b 0xEDB88320 ∙ xor_zero_r (bit_xor a b))
fold_xor (suc (suc p)) q a b hp hq = absurd (omega arith)
fold_xor zero (suc (suc q)) a b hp hq = absurd (omega arith)
fold_xor (suc zero) (suc (suc q)) a b hp hq = absurd (omega arith)

step_xor : (a b : ℕ) → step (bit_xor a b) ≡ bit_xor (step a) (step b)
step_xor a b = ap₂ fold (xor_mod a b 1) (xor_shr a b 1) ∙ fold_xor (a % 2) (b % 2) (a / 2) (b / 2) (omega arith) (omega arith)

pub steps_xor : (n a b : ℕ) → steps n (bit_xor a b) ≡ bit_xor (steps n a) (steps n b)
unfolding steps
steps_xor zero a b = refl
steps_xor (suc n) a b = ap (steps n) (step_xor a b) ∙ steps_xor n (step a) (step b)

pub steps_zero : (n : ℕ) → steps n 0 ≡ 0
unfolding steps
steps_zero zero = refl
steps_zero (suc n) = steps_zero n

pub steps-add : (m n a : ℕ) → steps (m + n) a ≡ steps n (steps m a)
unfolding steps
steps-add zero n a = ap (λ (k : ℕ). steps k a) (zero-add n)
steps-add (suc m) n a = ap (λ (k : ℕ). steps k a) (suc-add m n) ∙ steps-add m n (step a)

-- what is there at the start goes through as many steps as the bytes have bits, beside the bytes
pub feed-start : (a : ℕ) (bs : List ℕ) → feed a bs ≡ bit_xor (steps (8 * length bs) a) (feed 0 bs)
unfolding feed steps
feed-start a [] = sym (xor_zero_r a)
feed-start a (b ∷ bs) =
    feed-start (steps 8 (bit_xor a b)) bs
    ∙ ap (λ (x : ℕ). bit_xor x (feed 0 bs)) (ap (steps n) (steps_xor 8 a b) ∙ steps_xor n (steps 8 a) (steps 8 b))
    ∙ xor_assoc (steps n (steps 8 a)) (steps n (steps 8 b)) (feed 0 bs)
    ∙ ap₂ bit_xor (sym (steps-add 8 n a) ∙ ap (λ (k : ℕ). steps k a) more) (sym (feed-start (steps 8 b) bs))
  where
    n : ℕ
    n = 8 * length bs

    more : 8 + 8 * length bs ≡ 8 * suc (length bs)
    more = omega arith

-- bytes taken in by a fold
abbrev pub taken_in : ℕ → ℕ → ℕ
taken_in c b = steps 8 (bit_xor c b)

pub fold-feed : (c : ℕ) (bs : List ℕ) → Folds.fold taken_in c bs ≡ feed c bs
unfolding feed
fold-feed c [] = refl
fold-feed c (b ∷ bs) = fold-feed (taken_in c b) bs

pub feed-append : (a : ℕ) (bs cs : List ℕ) → feed a (bs ++ cs) ≡ feed (feed a bs) cs
unfolding feed
feed-append a [] cs = refl
feed-append a (b ∷ bs) cs = feed-append (steps 8 (bit_xor a b)) bs cs

-- the linear part: the bytes of an XOR
feed_xor : (k a b : ℕ) → feed 0 (groups 8 k (bit_xor a b)) ≡ bit_xor (feed 0 (groups 8 k a)) (feed 0 (groups 8 k b))
unfolding feed groups
feed_xor zero a b = refl
feed_xor (suc k) a b =
    apart (bit_xor a b)
    ∙ ap₂ bit_xor
    (ap (λ (v : ℕ). steps (8 * k) (steps 8 v)) (ap (λ (v : ℕ). v % 2 ^ 8) (xor_shr a b (8 * k)) ∙ xor_mod (a / 2 ^ (8 * k)) (b / 2 ^ (8 * k)) 8)
    ∙ ap (steps (8 * k)) (steps_xor 8 (byte a) (byte b)) ∙ steps_xor (8 * k) (steps 8 (byte a)) (steps 8 (byte b)))
    (feed_xor k a b)
    ∙ xor_cross (steps (8 * k) (steps 8 (byte a))) (steps (8 * k) (steps 8 (byte b))) (feed 0 (groups 8 k a)) (feed 0 (groups 8 k b))
    ∙ sym (ap₂ bit_xor (apart a) (apart b))
  where
    byte : ℕ → ℕ
    byte v = v / 2 ^ (8 * k) % 2 ^ 8

    -- the first byte, and those after it
    apart : (v : ℕ) → feed (steps 8 (v / 2 ^ (8 * k) % 2 ^ 8)) (groups 8 k v) ≡ bit_xor (steps (8 * k) (steps 8 (v / 2 ^ (8 * k) % 2 ^ 8))) (feed 0 (groups 8 k v))
    apart v =
        feed-start (steps 8 (v / 2 ^ (8 * k) % 2 ^ 8)) (groups 8 k v)
        ∙ ap (λ (n : ℕ). bit_xor (steps (8 * n) (steps 8 (v / 2 ^ (8 * k) % 2 ^ 8))) (feed 0 (groups 8 k v))) (groups-length 8 k v)

-- the ones at the start and at the end, gone through the eight bytes, are one constant
pub crc_split : (x : ℕ) → crc_of x ≡ bit_xor crc_of_zero (feed 0 (groups 8 8 x))
unfolding crc_of crc32 groups steps
crc_split x =
    sym (xor_assoc 0xFFFFFFFF 2598183062 (feed 0 (groups 8 8 x)) ∙ ap (bit_xor 0xFFFFFFFF) (sym (feed-start 0xFFFFFFFF (groups 8 8 x)))
    ∙ xor_comm 0xFFFFFFFF (feed 0xFFFFFFFF (groups 8 8 x)))

-- linear up to a constant
pub crc_affine : (a b : ℕ) → crc_of (bit_xor a b) ≡ bit_xor (bit_xor (crc_of a) (crc_of b)) crc_of_zero
crc_affine a b =
    crc_split (bit_xor a b)
    ∙ ap (bit_xor crc_of_zero) (feed_xor 8 a b)
    ∙ sym (ap (λ (x : ℕ). bit_xor x crc_of_zero) (ap₂ bit_xor (crc_split a) (crc_split b) ∙ xor_cross crc_of_zero (feed 0 (groups 8 8 a)) crc_of_zero (feed 0 (groups 8 8 b)) ∙ xor_zero_l (bit_xor (feed 0 (groups 8 8 a)) (feed 0 (groups 8 8 b))))
    ∙ xor_comm (bit_xor (feed 0 (groups 8 8 a)) (feed 0 (groups 8 8 b))) crc_of_zero)

-- the XOR of three CRCs is the CRC of the XOR: why a bucket's HASHSUM alone does not show that it is pure
pub crc_xor3 : (a b c : ℕ) → crc_of (bit_xor a (bit_xor b c)) ≡ bit_xor (crc_of a) (bit_xor (crc_of b) (crc_of c))
crc_xor3 a b c =
    crc_affine a (bit_xor b c)
    ∙ ap (λ (x : ℕ). bit_xor (bit_xor (crc_of a) x) crc_of_zero) (crc_affine b c)
    ∙ xor_assoc (crc_of a) (bit_xor (bit_xor (crc_of b) (crc_of c)) crc_of_zero) crc_of_zero
    ∙ ap (bit_xor (crc_of a)) (xor_assoc (bit_xor (crc_of b) (crc_of c)) crc_of_zero crc_of_zero ∙ xor_zero_r (bit_xor (crc_of b) (crc_of c)))

-- ---- bounds

fold_lt : (b h : ℕ) → h < 2 ^ 31 → fold b h < 2 ^ 32
fold_lt zero h l = omega arith
fold_lt (suc b) h l = xor_lt 32 h 0xEDB88320 (omega arith) (lit< tt)

pub steps_lt : (n c : ℕ) → c < 2 ^ 32 → steps n c < 2 ^ 32
unfolding steps
steps_lt zero c l = l
steps_lt (suc n) c l = steps_lt n (step c) (fold_lt (c % 2) (c / 2) (omega arith))

feed_lt : (k c x : ℕ) → c < 2 ^ 32 → feed c (groups 8 k x) < 2 ^ 32
unfolding feed groups
feed_lt zero c x l = l
feed_lt (suc k) c x l =
    let b = x / 2 ^ (8 * k) % 2 ^ 8 in
    feed_lt k (steps 8 (bit_xor c b)) x (steps_lt 8 (bit_xor c b) (xor_lt 32 c b l (omega arith)))

pub crc_lt : (x : ℕ) → crc_of x < 2 ^ 32
unfolding crc_of crc32
crc_lt x = xor_lt 32 (feed 0xFFFFFFFF (groups 8 8 x)) 0xFFFFFFFF (feed_lt 8 0xFFFFFFFF x (lit< tt)) (lit< tt)
