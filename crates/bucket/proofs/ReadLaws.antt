-- Packed counters as they are read: what is answered where they are there, and the bits behind them, looked at one by one. Assumes nothing.
use mathlib.Core.Path.{◌≡◌, refl, sym, ap}
use mathlib.Core.Bool.{Bool, true, false, ◌&&◌}
use mathlib.Core.List.{List}
use Prim.Native.Nat.{ℕ, ◌+◌, ◌-◌, ◌*◌, ◌≤◌, ◌<◌}
use native.Mathlib.Omega.{arith}
use lib.Dec.{eqb}
use lib.ListN.{length, get_or, get_or-eq_default}
use borrow.Author.Tests.{eqb-true, eqb-false, eq-eqb}
use Rattle.std.specs.List.{list_all, range_with_len}
use Rattle.std.proofs.lemmas.List.FromFn.{length-range_with_len, get_or-range_with_len}
use Rattle.std.proofs.lemmas.List.Sums.{AllPass-from_list_all, list_all-from_AllPass}
use Rattle.bucket.specs.Digits.{bytes_for, unpacked, spare_bits, bit_at}
use Rattle.bucket.specs.Lists.{part}
use Rattle.bucket.specs.Packing.{takes, counter_at, is_bare}
use Rattle.bucket.proofs.PackedLaws.{unpacked-length, spare_zero, spare-none}
use Rattle.bucket.proofs.TestLaws.{cond-made}

-- past the last counter there is none
pub none-past : (w n : ℕ) (bs : List ℕ) (i : ℕ) → n ≤ i → get_or (unpacked w n bs) i 0 ≡ 0
none-past w n bs i h = get_or-eq_default (unpacked w n bs) 0 (rw unpacked-length h)

-- the bits behind the counters are zero exactly where each of them is
pub spare-tested : (w n : ℕ) (bs : List ℕ) → length bs ≡ bytes_for (w * n)
    → list_all (λ j. eqb (bit_at 8 bs j) 0) (range_with_len (w * n) (8 * length bs - w * n)) ≡ eqb (spare_bits w n bs) 0
spare-tested w n bs l = go (eqb (spare_bits w n bs) 0) refl (list_all test js) refl
  where
    test : ℕ → Bool
    test j = eqb (bit_at 8 bs j) 0

    js : List ℕ
    js = range_with_len (w * n) (8 * length bs - w * n)

    go : (t : Bool) → eqb (spare_bits w n bs) 0 ≡ t → (u : Bool) → list_all test js ≡ u → list_all test js ≡ t
    go true e u f =
        list_all-from_AllPass test js (λ k d h.
        let inside : k < 8 * length bs - w * n = omega (arith, h, length-range_with_len (w * n) (8 * length bs - w * n)) in
        rw (get_or-range_with_len (w * n) (8 * length bs - w * n) k d inside)
        (eq-eqb _ 0 (spare_zero w n bs l (eqb-true _ 0 e) (w * n + k) (omega arith) (omega arith))))
    go false e false f = f
    go false e true f = absurd (eqb-false _ 0 e (spare-none w n bs l (λ j le lt.
        let inside : j - w * n < 8 * length bs - w * n = omega arith in
        let here : w * n + (j - w * n) ≡ j = omega arith in
        eqb-true _ 0 (rw (get_or-range_with_len (w * n) (8 * length bs - w * n) (j - w * n) 0 inside, here) at
        (AllPass-from_list_all test js f (j - w * n) 0 (omega (arith, length-range_with_len (w * n) (8 * length bs - w * n))))))))

-- what is answered where they are there
module _ (s : List ℕ) (at n w : ℕ) where
  pub counter_here : (i : ℕ) → takes w n at (length s) ≡ true → get_or (unpacked w n (part at (bytes_for (w * n)) s)) i 0 ≡ counter_at w n at s i
  unfolding counter_at
  counter_here i e = cond-made (get_or (unpacked w n (part at (bytes_for (w * n)) s)) i 0) 0 e

  pub bare-here : takes w n at (length s) ≡ true → eqb (spare_bits w n (part at (bytes_for (w * n)) s)) 0 ≡ is_bare w n at s
  unfolding is_bare
  bare-here e = sym (ap (λ (t : Bool). t && eqb (spare_bits w n (part at (bytes_for (w * n)) s)) 0) e)
