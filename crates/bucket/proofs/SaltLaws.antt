-- Salting is a rotation of 64 bits, and so is its inverse. Assumes nothing.
use mathlib.Core.Path.{◌≡◌, sym, ap, ap₂, subst, ◌∙◌}
use Prim.Native.Nat.{ℕ, zero, suc, ◌+◌, ◌-◌, ◌*◌, ◌/◌, ◌%◌, ◌^◌, ◌≤◌, ◌<◌}
use native.Mathlib.Nat.{mod-lt, div-one, add_comm, add-zero, zero-add, mul-one, mul-mod_left, div-eq_of_lt, mod-eq_of_lt, mod-add-div, add-mul-mod_self_left}
use native.Mathlib.Omega.{arith}
use lib.Arith.{digits_lt}
use lib.Bits.{bit_or, or_comm, or_self, or_shifted_r}
use lib.Pow.{pow-add, pow_pos, shr_lt, high, low, split, mod-pow-add, shl-shr}
use Rattle.bucket.specs.Salt.{rot, turn, salted, unsalted}

-- what a machine's shifts make: the j bits above the s low ones, and those s put above them
pub rotation : (j s x : ℕ) → x < 2 ^ (j + s) → bit_or (x / 2 ^ s) (x * 2 ^ j % 2 ^ (j + s)) ≡ x / 2 ^ s + x % 2 ^ s * 2 ^ j
rotation j s x h =
    ap (bit_or (x / 2 ^ s))
    (ap (λ (e : ℕ). x * 2 ^ j % 2 ^ e) (add_comm j s) ∙ mod-pow-add (x * 2 ^ j) s j
    ∙ ap₂ (λ (a b : ℕ). a % 2 ^ s * 2 ^ j + b) (shl-shr x j) (mul-mod_left x (2 ^ j)) ∙ add-zero (x % 2 ^ s * 2 ^ j))
    ∙ or_shifted_r (x % 2 ^ s) j (x / 2 ^ s) (shr_lt j s h)
    ∙ add_comm (x % 2 ^ s * 2 ^ j) (x / 2 ^ s)

module _ (s x : ℕ) (hs : s ≤ 64) (hx : x < 2 ^ 64) where
  whole : 64 ≡ (64 - s) + s
  whole = omega arith

  above : x / 2 ^ s < 2 ^ (64 - s)
  above = shr_lt (64 - s) s (subst (λ (n : ℕ). x < 2 ^ n) whole hx)

  swap : x / 2 ^ s + x % 2 ^ s * 2 ^ (64 - s) ≡ x % 2 ^ s * 2 ^ (64 - s) + x / 2 ^ s
  swap = add_comm (x / 2 ^ s) (x % 2 ^ s * 2 ^ (64 - s))

  pub rot_lt : rot s x < 2 ^ 64
  unfolding rot
  rot_lt =
      let joined-up : s + (64 - s) ≡ 64 = omega arith in
      let fits = subst (λ (n : ℕ). x % 2 ^ s * 2 ^ (64 - s) + x / 2 ^ s < n) (sym (pow-add 2 s (64 - s))) (digits_lt (mod-lt x (pow_pos s)) above) in
      subst (λ (n : ℕ). n < 2 ^ 64) (sym swap) (subst (λ (e : ℕ). x % 2 ^ s * 2 ^ (64 - s) + x / 2 ^ s < 2 ^ e) joined-up fits)

  -- rotated right by s and then by what is left of 64, a number is itself
  pub rot-back : rot (64 - s) (rot s x) ≡ x
  unfolding rot
  rot-back =
      ap₂ (λ (a b : ℕ). a + b * 2 ^ (64 - (64 - s))) (ap (λ (n : ℕ). n / 2 ^ (64 - s)) swap ∙ high (x % 2 ^ s) (64 - s) above)
      (ap (λ (n : ℕ). n % 2 ^ (64 - s)) swap ∙ low (x % 2 ^ s) (64 - s) above)
      ∙ ap (λ (n : ℕ). x % 2 ^ s + x / 2 ^ s * 2 ^ n) (omega arith)
      ∙ add_comm (x % 2 ^ s) (x / 2 ^ s * 2 ^ s)
      ∙ split x s

-- all of 64 bits round is nothing
pub rot-all : (x : ℕ) → x < 2 ^ 64 → rot 64 x ≡ x
unfolding rot
rot-all x h = ap₂ (λ (a b : ℕ). a + b * 1) (div-eq_of_lt h) (mod-eq_of_lt h) ∙ zero-add (x * 1) ∙ mul-one x

-- what the library's rotations are: each is of all bits where s is 0
module _ (x : ℕ) (hx : x < 2 ^ 64) where
  none : bit_or (x / 1) (x * 1 % 2 ^ 64) ≡ x
  none = rw (div-one, mul-one, mod-eq_of_lt hx) (or_self x)

  pub rot-right : (s : ℕ) → s < 64 → bit_or (x / 2 ^ s) (x * 2 ^ ((64 - s) % 64) % 2 ^ 64) ≡ rot s x
  unfolding rot
  rot-right zero h = none ∙ omega arith
  rot-right (suc s) h =
      let w : 64 - suc s + suc s ≡ 64 = omega arith in
      let e : (64 - suc s) % 64 ≡ 64 - suc s = omega arith in
      rw e (rw w at (rotation (64 - suc s) (suc s) x (rw w hx)))

  pub rot-left : (s : ℕ) → s < 64 → bit_or (x * 2 ^ s % 2 ^ 64) (x / 2 ^ ((64 - s) % 64)) ≡ rot (64 - s) x
  unfolding rot
  rot-left zero h = or_comm (x * 1 % 2 ^ 64) (x / 1) ∙ none ∙ sym (rot-all x hx)
  rot-left (suc s) h =
      let w : suc s + (64 - suc s) ≡ 64 = omega arith in
      let e : (64 - suc s) % 64 ≡ 64 - suc s = omega arith in
      let b : 64 - (64 - suc s) ≡ suc s = omega arith in
      rw (e, b) (or_comm (x * 2 ^ suc s % 2 ^ 64) (x / 2 ^ (64 - suc s)) ∙ rw w at (rotation (suc s) (64 - suc s) x (rw w hx)))

module _ (t x : ℕ) where
  pub salted_lt : x < 2 ^ 64 → salted t x < 2 ^ 64
  unfolding salted
  salted_lt h = rot_lt (turn t) x (omega arith) h

  pub unsalted_lt : x < 2 ^ 64 → unsalted t x < 2 ^ 64
  unfolding unsalted
  unsalted_lt h = rot_lt (64 - turn t) x (omega arith) h

  pub unsalted-salted : x < 2 ^ 64 → unsalted t (salted t x) ≡ x
  unfolding salted unsalted
  unsalted-salted h = rot-back (turn t) x (omega arith) h

  pub salted-unsalted : x < 2 ^ 64 → salted t (unsalted t x) ≡ x
  unfolding salted unsalted
  salted-unsalted h = ap (λ (s : ℕ). rot s (rot (64 - turn t) x)) (omega arith) ∙ rot-back (64 - turn t) x (omega arith) h

  -- a salt counts modulo 64
  same_turn : turn t ≡ turn (t % 64)
  same_turn =
      ap (λ (n : ℕ). n % 64) (sym (ap (λ (n : ℕ). n * 7) (mod-add-div t 64)) ∙ omega arith) ∙ add-mul-mod_self_left (t % 64 * 7) 64 (t / 64 * 7)

  pub salted-mod : rot (turn (t % 64)) x ≡ salted t x
  unfolding salted
  salted-mod = ap (λ (s : ℕ). rot s x) (sym same_turn)

  pub unsalted-mod : rot (64 - turn (t % 64)) x ≡ unsalted t x
  unfolding unsalted
  unsalted-mod = ap (λ (s : ℕ). rot (64 - s) x) (sym same_turn)
