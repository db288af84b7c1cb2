-- A stratum is the number of zero bits at the end, up to 31, and a width is the least that holds the number. Assumes nothing.
use mathlib.Core.Path.{◌≡◌, refl, sym, ap, ap₂, ◌∙◌}
use Prim.Native.Nat.{ℕ, zero, suc, ◌+◌, ◌-◌, ◌*◌, ◌/◌, ◌%◌, ◌^◌, ◌≤◌, ◌<◌, min}
use native.Mathlib.Nat.{lt_of_lt_of_le, lt_of_not-le, le_of_suc-le-suc, pow-suc, mod-one, zero-mod}
use native.Mathlib.Numerals.{add-one}
use native.Mathlib.Omega.{arith}
use lib.Count.{under, count_leading_zeros, leading_length, count_trailing_zeros}
use lib.Pow.{pow_mono, mod-pow-add, mod-mod-pow, shr-shr}
use Rattle.bucket.specs.Counts.{stratum_of, width_of}

pub stratum_le : (x : ℕ) → stratum_of x ≤ 31
unfolding stratum_of
stratum_le x = omega arith

-- the bits below are zero, and where they are not all that were asked for, the next is one
pub record Trails (n k t : ℕ) : Type 0 where
  pub zeros : n % 2 ^ t ≡ 0
  pub next : t < k → n / 2 ^ t % 2 ≡ 1

-- one digit more
trails_digit : (n k t d : ℕ) → n % 2 ≡ d → Trails (n / 2) k t → Trails n (suc k) (under d t)
trails_digit n k t zero e h = record {
  zeros = ap (λ (j : ℕ). n % 2 ^ j) (sym (add-one t)) ∙ mod-pow-add n t 1 ∙ ap₂ (λ (a b : ℕ). a * 2 + b) h.zeros e;
  next = λ l. ap (λ (a : ℕ). a % 2) (ap (λ (j : ℕ). n / 2 ^ j) (omega arith) ∙ sym (shr-shr n 1 t)) ∙ h.next (le_of_suc-le-suc l);
}
trails_digit n k t (suc d) e h = record { zeros = mod-one n; next = λ l. omega arith }

pub trails : (k n : ℕ) → Trails n k (count_trailing_zeros k n)
unfolding count_trailing_zeros
trails zero n = record { zeros = mod-one n; next = λ h. absurd (omega arith) }
trails (suc k) n = trails_digit n k (count_trailing_zeros k (n / 2)) (n % 2) refl (trails k (n / 2))

pub stratum-zeros : (x : ℕ) → x % 2 ^ stratum_of x ≡ 0
unfolding stratum_of
stratum-zeros x =
    let t = count_trailing_zeros 64 x in
    let s = min 31 t in
    let whole : (t - s) + s ≡ t = omega arith in
    sym (mod-mod-pow x (t - s) s) ∙ ap (λ (a : ℕ). a % 2 ^ s) (ap (λ (j : ℕ). x % 2 ^ j) whole ∙ (trails 64 x).zeros) ∙ zero-mod (2 ^ s)

pub stratum-next : (x : ℕ) → stratum_of x < 31 → x / 2 ^ stratum_of x % 2 ≡ 1
unfolding stratum_of
stratum-next x h =
    let same : min 31 (count_trailing_zeros 64 x) ≡ count_trailing_zeros 64 x = omega arith in
    ap (λ (j : ℕ). x / 2 ^ j % 2) same ∙ (trails 64 x).next (omega arith)

pub record Least (n w : ℕ) : Type 0 where
  pub some : 1 ≤ w
  pub holds : n < 2 ^ w
  pub least : (v : ℕ) → 1 ≤ v → n < 2 ^ v → w ≤ v

pub width-least : (n : ℕ) → n < 2 ^ 32 → Least n (width_of n)
unfolding width_of
width-least n h =
    let t = leading_length 32 n h in
    let same : 32 - count_leading_zeros 32 n ≡ t.0 = omega arith in
    rw same
    (record {
      some = omega arith;
      holds = lt_of_lt_of_le t.2 (pow_mono (omega arith));
      least = λ v some fits.
          let longest : t.0 ≤ v =
          le_of_suc-le-suc (lt_of_not-le (λ (g : suc v ≤ t.0).
          let more : 2 ^ suc v ≤ 2 ^ t.0 = pow_mono g in
          let twice : 2 ^ suc v ≡ 2 ^ v * 2 = pow-suc 2 v in
          omega (arith, t.3))) in
          omega arith;
    })
