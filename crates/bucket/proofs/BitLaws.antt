-- Bits by their places, counted from the highest from 0: numbers with the same bits are the same; a number of which one bit after another is read, and
-- bytes in which one bit after another is set. Assumes nothing.
use mathlib.Core.Path.{◌≡◌, refl, sym, ap, ap₂, subst, ◌∙◌}
use mathlib.Core.Logic.{◌≢◌}
use mathlib.Core.Bool.{Bool, true, false}
use mathlib.Core.List.{List}
use Prim.Native.Nat.{ℕ, zero, suc, ◌+◌, ◌-◌, ◌*◌, ◌/◌, ◌%◌, ◌^◌, ◌≤◌, ◌<◌}
use native.Mathlib.Nat.{mod-eq_of_lt, div-one, div-eq_of_lt, mul-add-div, mul-add-mod_self_left, mul_assoc, add-zero, lt_of_lt_of_le}
use native.Mathlib.Omega.{arith}
use lib.Bits.{bit_or, or_shr, or_mod, or_lt, or_zero_l, or_zero_r, shifted_even}
use lib.Dec.{ltb}
use lib.ListN.{length, drop, get_or, set}
use lib.Pow.{pow-add, pow_mono, shl_exact, shl_lt, shl-shr, shr-shr, shr_lt}
use lib.Seq.{ext_get_or, get_or-take, get_or-drop}
use borrow.Author.Tests.{ltb-true, ltb-false}
use Rattle.bucket.specs.Digits.{bit_at, Below}
use Rattle.bucket.specs.Lists.{part}
use Rattle.bucket.proofs.OverLaws.{set_cases}
use Rattle.bucket.proofs.RoomLaws.{bits_ahead}
use borrow.Author.Count.{below_more}

-- ---- the same bits

-- the bits of a number of one bit more: those of its half, and behind them its last
half_bit : (w v z k : ℕ) → w ≡ v + 1 → k < v → z / 2 ^ (w - 1 - k) % 2 ≡ z / 2 / 2 ^ (v - 1 - k) % 2
half_bit w v z k e h =
    let above : w - 1 - k ≡ 1 + (v - 1 - k) = omega arith in
    ap (λ (n : ℕ). z / 2 ^ n % 2) above ∙ ap (λ (q : ℕ). q % 2) (sym (shr-shr z 1 (v - 1 - k)))

last_bit : (w v z : ℕ) → w ≡ v + 1 → z / 2 ^ (w - 1 - v) % 2 ≡ z % 2
last_bit w v z e = let none : w - 1 - v ≡ 0 = omega arith in ap (λ (n : ℕ). z / 2 ^ n % 2) none ∙ ap (λ (q : ℕ). q % 2) (div-one z)

pub same_number : (v : ℕ) {x y : ℕ} → x < 2 ^ v → y < 2 ^ v → ((k : ℕ) → k < v → x / 2 ^ (v - 1 - k) % 2 ≡ y / 2 ^ (v - 1 - k) % 2) → x ≡ y
same_number zero hx hy e = omega arith
same_number (suc v) {x} {y} hx hy e =
    let more : suc v ≡ v + 1 = omega arith in
    let last : x % 2 ≡ y % 2 = sym (last_bit (suc v) v x more) ∙ e v (omega arith) ∙ last_bit (suc v) v y more in
    let others : x / 2 ≡ y / 2 = same_number v (half hx) (half hy) (λ k h. sym (half_bit (suc v) v x k more h) ∙ e k (omega arith) ∙ half_bit (suc v) v y k more h) in
    omega arith
  where
    half : {z : ℕ} → z < 2 ^ suc v → z / 2 < 2 ^ v
    half {z} h = shr_lt v 1 (subst (λ (n : ℕ). z < 2 ^ n) (omega arith) h)

-- bit k of number i is bit v × i + k of them all
pub bit-place : (v : ℕ) (xs : List ℕ) (i k : ℕ) → k < v → bit_at v xs (v * i + k) ≡ get_or xs i 0 / 2 ^ (v - 1 - k) % 2
bit-place v xs i k h =
    ap₂ (λ (a b : ℕ). get_or xs a 0 / 2 ^ (v - 1 - b) % 2)
    (mul-add-div (omega arith) i k ∙ ap (λ (q : ℕ). i + q) (div-eq_of_lt h) ∙ add-zero i) (mul-add-mod_self_left v i k ∙ mod-eq_of_lt h)

pub same_bits : (v : ℕ) (xs ys : List ℕ) → Below v xs → Below v ys → length xs ≡ length ys → ((j : ℕ) → j < v * length xs → bit_at v xs j ≡ bit_at v ys j) → xs ≡ ys
same_bits v xs ys hx hy l e =
    ext_get_or 0 xs ys l (λ i h. same_number v (hx i) (hy i)
    (λ k q. sym (bit-place v xs i k q) ∙ e (v * i + k) (omega (arith, bits_ahead v (length xs) i h)) ∙ bit-place v ys i k q))

-- the bits of a part of bytes
pub part-bit : (at k : ℕ) (l : List ℕ) (j : ℕ) → j < 8 * k → bit_at 8 (part at k l) j ≡ bit_at 8 l (8 * at + j)
part-bit at k l j h =
    ap (λ (x : ℕ). x / 2 ^ (7 - j % 8) % 2) (get_or-take k (drop at l) (j / 8) 0 (omega arith) ∙ get_or-drop at l (j / 8) 0)
    ∙ ap₂ (λ (a b : ℕ). get_or l a 0 / 2 ^ (7 - b) % 2) (omega arith) (omega arith)

-- ---- a number, read

-- the number of k bits that are those asked for
pub record Read (bit : ℕ → ℕ) (k x : ℕ) : Type 0 where
  pub below : x < 2 ^ k
  pub bits : (m : ℕ) → m < k → x / 2 ^ (k - 1 - m) % 2 ≡ bit m

pub read_next : {bit : ℕ → ℕ} {k x : ℕ} → Read bit k x → (b : ℕ) → b < 2 → b ≡ bit k → Read bit (k + 1) (2 * x + b)
read_next {bit = bit} {k = k} {x = x} r b small e =
    let half : (2 * x + b) / 2 ≡ x = omega arith in
    let last : (2 * x + b) % 2 ≡ b = omega arith in
    record {
      below = omega (arith, r.below, pow-add 2 k 1);
      bits = below_more (λ (m : ℕ). (2 * x + b) / 2 ^ (k + 1 - 1 - m) % 2 ≡ bit m) k
          (λ m h. half_bit (k + 1) k (2 * x + b) m refl h ∙ ap (λ (q : ℕ). q / 2 ^ (k - 1 - m) % 2) half ∙ r.bits m h)
          (last_bit (k + 1) k (2 * x + b) refl ∙ last ∙ e);
    }

-- ---- bytes, written

or_bit : (a b q : ℕ) → bit_or a b / 2 ^ q % 2 ≡ bit_or (a / 2 ^ q % 2) (b / 2 ^ q % 2)
or_bit a b q = ap (λ (n : ℕ). n % 2) (or_shr a b q) ∙ or_mod (a / 2 ^ q) (b / 2 ^ q) 1

-- a bit is at its place alone
pub elsewhere : (b p q : ℕ) → b < 2 → q ≢ p → b * 2 ^ p / 2 ^ q % 2 ≡ 0
elsewhere b p q h ne = go (ltb q p) refl
  where
    go : (t : Bool) → ltb q p ≡ t → b * 2 ^ p / 2 ^ q % 2 ≡ 0
    go true e =
        let l : q < p = ltb-true q p e in
        let d = p - 1 - q in
        let s : p ≡ suc d + q = omega arith in
        ap (λ (n : ℕ). b * 2 ^ n / 2 ^ q % 2) s ∙ ap (λ (n : ℕ). b * n / 2 ^ q % 2) (pow-add 2 (suc d) q)
        ∙ ap (λ (n : ℕ). n / 2 ^ q % 2) (sym (mul_assoc b (2 ^ suc d) (2 ^ q))) ∙ ap (λ (n : ℕ). n % 2) (shl-shr (b * 2 ^ suc d) q) ∙ shifted_even b d
    go false e = ap (λ (n : ℕ). n % 2) (div-eq_of_lt (lt_of_lt_of_le (shl_lt 1 p h) (pow_mono {i = 1 + p} {j = q} (above (ltb-false q p e) ne))))
      where
        above : p ≤ q → q ≢ p → 1 + p ≤ q
        above le apart = omega arith

-- bytes whose first j bits are those asked for, and whose others are zero
pub record Written (bit : ℕ → ℕ) (j : ℕ) (bs : List ℕ) : Type 0 where
  pub below : Below 8 bs
  pub done : (k : ℕ) → k < j → bit_at 8 bs k ≡ bit k
  pub rest : (k : ℕ) → j ≤ k → bit_at 8 bs k ≡ 0

module _ {bit : ℕ → ℕ} {j : ℕ} {bs : List ℕ} (f : Written bit j bs) (inside : j < 8 * length bs) (b : ℕ) (small : b < 2) where
  place : ℕ
  place = 7 - j % 8

  -- byte j / 8 with b at bit j mod 8
  byte : ℕ
  byte = bit_or (get_or bs (j / 8) 0) (b * 2 ^ place)

  pub written_next : b ≡ bit j → Written bit (j + 1) (set bs (j / 8) (bit_or (get_or bs (j / 8) 0) (b * 2 ^ (7 - j % 8) % 2 ^ 8)))
  unfolding place byte
  written_next e =
      rw (shl_exact 1 place 8 small (omega arith)) (record {
        below = small_bytes;
        done = below_more (λ (k : ℕ). bit_at 8 bs' k ≡ bit k) j (λ k h. others k (λ q. omega arith) ∙ f.done k h) (new ∙ e);
        rest = λ k h. others k (λ q. omega arith) ∙ f.rest k (omega arith);
      })
    where
      bs' : List ℕ
      bs' = set bs (j / 8) byte

      small_bytes : Below 8 bs'
      small_bytes i =
          set_cases bs i (j / 8) byte 0 (λ (z : ℕ). z < 2 ^ 8) (omega arith)
          (λ same. or_lt 8 _ _ (f.below (j / 8)) (lt_of_lt_of_le (shl_lt 1 place small) (pow_mono {i = 1 + place} {j = 8} (omega arith)))) (λ ne. f.below i)

      others : (k : ℕ) → k ≢ j → bit_at 8 bs' k ≡ bit_at 8 bs k
      others k ne =
          set_cases bs (k / 8) (j / 8) byte 0 (λ (z : ℕ). z / 2 ^ (7 - k % 8) % 2 ≡ bit_at 8 bs k) (omega arith)
          (λ same. or_bit (get_or bs (j / 8) 0) (b * 2 ^ place) (7 - k % 8)
          ∙ ap (bit_or (get_or bs (j / 8) 0 / 2 ^ (7 - k % 8) % 2)) (elsewhere b place (7 - k % 8) small (λ q. ne (here same q))) ∙ or_zero_r _
          ∙ ap (λ (i : ℕ). get_or bs i 0 / 2 ^ (7 - k % 8) % 2) (sym same)) (λ ne. refl)
        where
          here : k / 8 ≡ j / 8 → 7 - k % 8 ≡ 7 - j % 8 → k ≡ j
          here same q = omega arith

      new : bit_at 8 bs' j ≡ b
      new =
          set_cases bs (j / 8) (j / 8) byte 0 (λ (z : ℕ). z / 2 ^ place % 2 ≡ b) (omega arith)
          (λ same. or_bit (get_or bs (j / 8) 0) (b * 2 ^ place) place
          ∙ ap₂ bit_or (f.rest j (omega arith)) (ap (λ (n : ℕ). n % 2) (shl-shr b place) ∙ mod-eq_of_lt small) ∙ or_zero_l b) (λ ne. absurd (ne refl))
