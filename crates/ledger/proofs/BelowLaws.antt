-- Numbers of w bits in lists: by members and by places; lists joined and laid over one another; XOR sums; hashes in memory. Assumes nothing.
--
--   Fit w l         each member of l is below 2^w
--   below_of, fit_of, fit-part, fit_append, over_below, set_below, zeros-below, xor_fit
--   hashes-fit      the hashes that stand in bytes have 512 bits
--   hashes-back     hashes written as bytes are read again; hashes-written: at the start of a memory
use mathlib.Core.Path.{◌≡◌, refl, sym, ap, subst, ◌∙◌}
use mathlib.Core.Bool.{Bool, true, false}
use mathlib.Core.List.{List, [], ◌∷◌, ◌++◌, foldr}
use mathlib.Core.Logic.{◌⊎◌, inl, inr}
use Prim.Native.Nat.{ℕ, zero, suc, ◌+◌, ◌*◌, ◌/◌, ◌^◌, ◌≤◌, ◌<◌}
use native.Mathlib.Omega.{arith}
use borrow.Author.Tests.{ltb-true, ltb-false}
use lib.Bits.{bit_xor, xor_lt}
use lib.Dec.{ltb}
use lib.ListN.{length, get_or, set, take, drop, replicate, get_or-eq_default}
use lib.Pow.{pow_pos}
use lib.Seq.{ext_get_or}
use Rattle.bucket.specs.Digits.{packed, Below}
use Rattle.bucket.specs.Lists.{over}
use Rattle.bucket.proofs.ListLaws.{elem-head, elem_tail, elem_at, at_index}
use Rattle.bucket.proofs.OverLaws.{part-over}
use Rattle.bucket.proofs.PackedLaws.{unpacked-packed}
use Rattle.filter.specs.Table.{hashes_of}
use Rattle.filter.proofs.TableLaws.{hashes-length, hash_at_lem}
use Rattle.message.proofs.RoundLaws.{hashes-below}
use Rattle.message.proofs.WholeLaws.{take_below, drop-below, whole_length, item}
use Rattle.filter.proofs.SetLaws.{◌∈◌, ◌⊆◌, append_in}

abbrev pub Fit : ℕ → List ℕ → Type 0
Fit w l = (x : ℕ) → x ∈ l → x < 2 ^ w

module _ (w : ℕ) where
  pub below_of : (l : List ℕ) → Fit w l → Below w l
  below_of l h i = go (ltb i (length l)) refl
    where
      go : (t : Bool) → ltb i (length l) ≡ t → get_or l i 0 < 2 ^ w
      go true e = h (get_or l i 0) (elem_at l i (ltb-true i (length l) e))
      go false e = rw (get_or-eq_default l 0 (ltb-false i (length l) e)) (pow_pos w)

  pub fit_of : (l : List ℕ) → Below w l → Fit w l
  fit_of l b x e = let (i, less, is) = at_index x l e in subst (λ (n : ℕ). n < 2 ^ w) is (b i)

  pub fit-part : (l m : List ℕ) → l ⊆ m → Fit w m → Fit w l
  fit-part l m h f x e = f x (h x e)

  pub fit_append : (l m : List ℕ) → Fit w l → Fit w m → Fit w (l ++ m)
  fit_append l m f g x e = go (append_in x l m e)
    where
      go : (x ∈ l) ⊎ (x ∈ m) → x < 2 ^ w
      go (inl p) = f x p
      go (inr p) = g x p

  below-append : (l m : List ℕ) → Below w l → Below w m → Below w (l ++ m)
  below-append l m a b = below_of (l ++ m) (fit_append l m (fit_of l a) (fit_of m b))

  pub over_below : (at : ℕ) (xs l : List ℕ) → Below w xs → Below w l → Below w (over at xs l)
  unfolding over
  over_below at xs l a b =
      below-append (take at l) (xs ++ drop (at + length xs) l) (take_below w at l b)
      (below-append xs (drop (at + length xs) l) a (drop-below w (at + length xs) l b))

  pub set_below : (l : List ℕ) (i v : ℕ) → Below w l → v < 2 ^ w → Below w (set l i v)
  set_below [] i v b h j = b j
  set_below (x ∷ l) zero v b h zero = h
  set_below (x ∷ l) zero v b h (suc j) = b (suc j)
  set_below (x ∷ l) (suc i) v b h zero = b 0
  set_below (x ∷ l) (suc i) v b h (suc j) = set_below l i v (λ k. b (suc k)) h j

  pub zeros-below : (n : ℕ) → Below w (replicate n 0)
  zeros-below zero i = pow_pos w
  zeros-below (suc n) zero = pow_pos w
  zeros-below (suc n) (suc i) = zeros-below n i

  pub xor_fit : (l : List ℕ) → Fit w l → foldr bit_xor 0 l < 2 ^ w
  xor_fit [] f = pow_pos w
  xor_fit (a ∷ l) f = xor_lt w a (foldr bit_xor 0 l) (f a (elem-head a l)) (xor_fit l (λ x e. f x (elem_tail x a l e)))

-- ---- hashes in memory

pub hashes-fit : (bytes : List ℕ) → Fit 512 (hashes_of bytes)
hashes-fit bytes = fit_of 512 (hashes_of bytes) (hashes-below bytes)

pub hashes-back : (K : List ℕ) → Fit 512 K → hashes_of (packed 512 K) ≡ K
hashes-back K short =
    ext_get_or 0 (hashes_of (packed 512 K)) K (hashes-length (packed 512 K) ∙ count)
    (λ i h. let there : i < length (packed 512 K) / 64 = rw (hashes-length (packed 512 K)) at h in
    hash_at_lem (packed 512 K) i there
    ∙ sym (item 64 (length K) (packed 512 K) i (rw count at there) (whole_length 64 K))
    ∙ ap (λ (l : List ℕ). get_or l i 0) (unpacked-packed 512 K (below_of 512 K short)))
  where
    count : length (packed 512 K) / 64 ≡ length K
    count = omega (arith, whole_length 64 K)

pub hashes-written : (K R : List ℕ) → Fit 512 K → 64 * length K ≤ length R → hashes_of (take (64 * length K) (over 0 (packed 512 K) R)) ≡ K
hashes-written K R short room =
    ap (λ (n : ℕ). hashes_of (take n (over 0 (packed 512 K) R))) (sym (whole_length 64 K))
    ∙ ap hashes_of (part-over 0 R (packed 512 K) (omega arith))
    ∙ hashes-back K short
