-- The tests of widths, lengths and room as inequalities, and back. Assumes nothing.
use mathlib.Core.Path.{◌≡◌, ap₂}
use mathlib.Core.Bool.{Bool, true, ◌&&◌, and-eq-true_iff}
use Prim.Native.Nat.{ℕ, ◌+◌, ◌*◌, ◌≤◌, ◌<◌}
use native.Mathlib.Nat.{mul-le-mul, mul-le-mul_left, mul-suc}
use native.Mathlib.Omega.{arith}
use lib.Dec.{leb}
use borrow.Author.Tests.{leb-true, le-leb}
use Rattle.bucket.specs.Digits.{bytes_for}
use Rattle.bucket.specs.Packing.{is_width, takes}
use Rattle.bucket.proofs.TestLaws.{and_holds}

pub record Room (w n at room : ℕ) : Type 0 where
  pub some : 1 ≤ w
  pub most : w ≤ 32
  pub few : n ≤ 65536
  pub bits : w * n ≤ 2097152
  pub inside : at + bytes_for (w * n) ≤ room

-- so few bits that no sum of theirs wraps
pub bits-few : {w n : ℕ} → w ≤ 32 → n ≤ 65536 → w * n ≤ 2097152
bits-few h l = mul-le-mul h l

pub width-good : (w : ℕ) → 1 ≤ w → w ≤ 32 → is_width w ≡ true
width-good w h l = and_holds (le-leb 1 w h) (le-leb w 32 l)

module _ (w n at room : ℕ) where
  pub takes-width : takes w n at room ≡ true → is_width w ≡ true
  takes-width h = ((and-eq-true_iff (is_width w) (leb n 65536 && leb (at + bytes_for (w * n)) room)).0 h).0

  pub takes-room : takes w n at room ≡ true → Room w n at room
  takes-room h =
      let t = (and-eq-true_iff (leb 1 w) (leb w 32)).0 (takes-width h) in
      let u = (and-eq-true_iff (leb n 65536) (leb (at + bytes_for (w * n)) room)).0 ((and-eq-true_iff (is_width w) (leb n 65536 && leb (at + bytes_for (w * n)) room)).0 h).1 in
      let most = leb-true w 32 t.1 in
      let few = leb-true n 65536 u.0 in
      record { some = leb-true 1 w t.0; most = most; few = few; bits = bits-few most few; inside = leb-true (at + bytes_for (w * n)) room u.1 }

  pub takes-rest : 1 ≤ w → w ≤ 32 → n ≤ 65536 → takes w n at room ≡ leb (at + bytes_for (w * n)) room
  takes-rest h l f = ap₂ (λ (s t : Bool). s && (t && leb (at + bytes_for (w * n)) room)) (width-good w h l) (le-leb n 65536 f)

-- number i of n is within them
pub bits_ahead : (w n i : ℕ) → i < n → w * i + w ≤ w * n
bits_ahead w n i h = let one = mul-le-mul_left w h in omega (arith, rw mul-suc at one)
