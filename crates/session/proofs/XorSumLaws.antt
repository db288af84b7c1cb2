-- Hashes XORed one after another into 64 bytes: bytes XORed are numbers XORed, what was added so far, and the bytes of the sum. Assumes nothing.
use mathlib.Core.Path.{◌≡◌, refl, sym, ap, ap₂, subst, ◌∙◌}
use mathlib.Core.Logic.{◌⊎◌, inl, inr}
use mathlib.Core.Bool.{Bool, true, false, cond}
use mathlib.Core.List.{List, [], ◌∷◌, foldr, ◌++◌}
use Prim.Native.Nat.{ℕ, zero, suc, ◌+◌, ◌-◌, ◌*◌, ◌%◌, ◌^◌, ◌≤◌, ◌<◌, suc-le-suc, ◌/◌}
use native.Mathlib.Omega.{arith}
use native.Mathlib.Nat.{zero-mul}
use lib.Bits.{bit_xor, xor_lt, xor_mod, xor_block, xor_zero_r}
use lib.Dec.{eqb, ltb}
use lib.ListN.{length, get_or, set, drop, length-drop, length-set, get_or-eq_default, take, replicate}
use lib.Seq.{get_or-set_same, get_or-set_other, take_all}
use borrow.Author.Tests.{eqb-true, eqb-false, ltb-true, ltb-false}
use Rattle.bucket.specs.Digits.{joined, packed, Below}
use Rattle.bucket.specs.Lists.{part}
use Rattle.bucket.specs.Crc.{tabulated}
use Rattle.bucket.proofs.DigitLaws.{joined_lt}
use Rattle.bucket.proofs.XorLaws.{xor_assoc}
use Rattle.filter.specs.Table.{hash_at, hashes_of}
use Rattle.message.proofs.HashLaws.{hashes-packed}
use Rattle.ledger.proofs.BelowLaws.{zeros-below}
use Rattle.session.specs.Ready.{Sum, Adds}
use Rattle.ledger.specs.Memory.{is_met, marked}

-- ---- bytes

-- each byte of c is the XOR of those of a and b
pub joined_xor : (a b c : List ℕ) → length a ≡ length c → length b ≡ length c → ((i : ℕ) → i < length c → get_or c i 0 ≡ bit_xor (get_or a i 0) (get_or b i 0))
    → joined 8 c ≡ bit_xor (joined 8 a) (joined 8 b)
unfolding joined
joined_xor [] [] [] p q e = refl
joined_xor (x ∷ a) (y ∷ b) (z ∷ c) p q e =
    let la : length a ≡ length c = omega arith in
    let lb : length b ≡ length c = omega arith in
    ap₂ (λ (u v : ℕ). u * 2 ^ (8 * length c) + v) (ap (λ (u : ℕ). u % 256) (e 0 (omega arith)) ∙ xor_mod x y 8) (joined_xor a b c la lb (λ i h. e (suc i) (suc-le-suc h)))
    ∙ sym (xor_block (8 * length c) (x % 256) (y % 256) (joined 8 a) (joined 8 b)
    (subst (λ (n : ℕ). joined 8 a < 2 ^ (8 * n)) la (joined_lt 8 a)) (subst (λ (n : ℕ). joined 8 b < 2 ^ (8 * n)) lb (joined_lt 8 b)))
    ∙ ap₂ (λ (m n : ℕ). bit_xor (x % 256 * 2 ^ (8 * m) + joined 8 a) (y % 256 * 2 ^ (8 * n) + joined 8 b)) (sym la) (sym lb)
joined_xor [] [] (z ∷ c) p q e = absurd (omega arith)
joined_xor [] (y ∷ b) c p q e = absurd (omega arith)
joined_xor (x ∷ a) [] c p q e = absurd (omega arith)
joined_xor (x ∷ a) (y ∷ b) [] p q e = absurd (omega arith)

-- the first k bytes of 64 are XORed with those of a hash
pub record Mixing (acc₀ h acc : List ℕ) (k : ℕ) : Type 0 where
  pub size : length acc ≡ length acc₀
  pub done : (i : ℕ) → i < k → i < length acc → get_or acc i 0 ≡ bit_xor (get_or acc₀ i 0) (get_or h i 0)
  pub kept : (i : ℕ) → k ≤ i → get_or acc i 0 ≡ get_or acc₀ i 0

pub mixing_start : (acc h : List ℕ) → Mixing acc h acc 0
mixing_start acc h = record { size = refl; done = λ i l k. absurd (omega arith); kept = λ i l. refl }

pub mixing_next : (acc₀ h acc : List ℕ) (k : ℕ) → Mixing acc₀ h acc k → Mixing acc₀ h (set acc k (bit_xor (get_or acc k 0) (get_or h k 0))) (k + 1)
mixing_next acc₀ h acc k m = record {
  size = length-set acc k v ∙ m.size;
  done = λ i l r. go i l (rw (length-set acc k v) at r) (eqb i k) refl;
  kept = λ i l. get_or-set_other acc k i v 0 (λ q. omega arith) ∙ m.kept i (omega arith);
}
  where
    v : ℕ
    v = bit_xor (get_or acc k 0) (get_or h k 0)

    go : (i : ℕ) → i < k + 1 → i < length acc → (t : Bool) → eqb i k ≡ t → get_or (set acc k v) i 0 ≡ bit_xor (get_or acc₀ i 0) (get_or h i 0)
    go i l r true q =
        let same = eqb-true i k q in
        ap (λ (j : ℕ). get_or (set acc k v) j 0) same
        ∙ get_or-set_same acc k v 0 (rw same at r)
        ∙ ap (λ (u : ℕ). bit_xor u (get_or h k 0)) (m.kept k (omega arith))
        ∙ ap (λ (j : ℕ). bit_xor (get_or acc₀ j 0) (get_or h j 0)) (sym same)
    go i l r false q = get_or-set_other acc k i v 0 other ∙ m.done i less r
      where
        other : i ≡ k → ⊥
        other = eqb-false i k q

        less : i < k
        less = omega (arith, other)

pub mixing_end : (acc₀ h acc : List ℕ) (k : ℕ) → Mixing acc₀ h acc k → 64 ≤ k → length h ≡ 64 → Below 8 h → Adds acc₀ (joined 8 h) acc
mixing_end acc₀ h acc k m past long bytes x t = record {
  sum = joined_xor acc₀ h acc (sym m.size) (omega (arith, long, m.size, t.size)) each ∙ ap (λ (u : ℕ). bit_xor u (joined 8 h)) t.sum;
  size = m.size ∙ t.size;
  fit = λ i. below i (ltb i (length acc)) refl;
}
  where
    each : (i : ℕ) → i < length acc → get_or acc i 0 ≡ bit_xor (get_or acc₀ i 0) (get_or h i 0)
    each i l = m.done i (omega (arith, m.size, t.size)) l

    below : (i : ℕ) (b : Bool) → ltb i (length acc) ≡ b → get_or acc i 0 < 256
    below i true e = rw (each i (ltb-true i (length acc) e)) (xor_lt 8 (get_or acc₀ i 0) (get_or h i 0) (t.fit i) (bytes i))
    below i false e = rw (get_or-eq_default acc 0 {n = i} (ltb-false i (length acc) e)) (omega arith)

-- ---- sums of lists

pub xor_append : (l m : List ℕ) → foldr bit_xor 0 (l ++ m) ≡ bit_xor (foldr bit_xor 0 l) (foldr bit_xor 0 m)
xor_append [] m = refl
xor_append (a ∷ l) m = ap (bit_xor a) (xor_append l m) ∙ sym (xor_assoc a (foldr bit_xor 0 l) (foldr bit_xor 0 m))

-- ---- added to 64 bytes

pub adds_none : (a : List ℕ) → Adds a 0 a
adds_none a x t = record { sum = t.sum ∙ sym (xor_zero_r x); size = t.size; fit = t.fit }

pub adds_then : {a b c : List ℕ} (y z w : ℕ) → w ≡ bit_xor y z → Adds a y b → Adds b z c → Adds a w c
adds_then y z w e f g x t =
    let s = g (bit_xor x y) (f x t) in
    record { sum = s.sum ∙ xor_assoc x y z ∙ ap (bit_xor x) (sym e); size = s.size; fit = s.fit }

-- ---- hashes added one after the other

-- of a sum y₀, y is left to be added
pub record Left (acc₀ : List ℕ) (y₀ : ℕ) (acc : List ℕ) (y : ℕ) : Type 0 where
  pub adds : (a : List ℕ) → Adds acc y a → Adds acc₀ y₀ a

pub left_start : (acc : List ℕ) (y : ℕ) → Left acc y acc y
left_start acc y = record { adds = λ a f. f }

module _ {acc₀ acc : List ℕ} {y₀ y : ℕ} (s : Left acc₀ y₀ acc y) where
  pub left_next : {acc' : List ℕ} (x z : ℕ) → y ≡ bit_xor x z → Adds acc x acc' → Left acc₀ y₀ acc' z
  left_next x z e f = record { adds = λ a g. s.adds a (adds_then x z y e f g) }

  pub left_none : {z : ℕ} → y ≡ z → Left acc₀ y₀ acc z
  left_none e = record { adds = λ a g. s.adds a (rw e g) }

  pub left_end : y ≡ 0 → Adds acc₀ y₀ acc
  left_end e = s.adds acc (rw e (adds_none acc))

-- the sum of those that are met
abbrev pub met_sum : (hs marks : List ℕ) → ℕ
met_sum hs marks = foldr bit_xor 0 (marked is_met hs marks)

pub met_first : (h m : ℕ) (hs ms : List ℕ) → is_met m ≡ true → met_sum (h ∷ hs) (m ∷ ms) ≡ bit_xor h (met_sum hs ms)
unfolding marked
met_first h m hs ms e = ap (λ (b : Bool). foldr bit_xor 0 (cond b (h ∷ marked is_met hs ms) (marked is_met hs ms))) e

pub met_passed : (h m : ℕ) (hs ms : List ℕ) → is_met m ≡ false → met_sum (h ∷ hs) (m ∷ ms) ≡ met_sum hs ms
unfolding marked
met_passed h m hs ms e = ap (λ (b : Bool). foldr bit_xor 0 (cond b (h ∷ marked is_met hs ms) (marked is_met hs ms))) e

pub met_none : (hs ms : List ℕ) → (hs ≡ []) ⊎ (ms ≡ []) → met_sum hs ms ≡ 0
unfolding marked
met_none hs ms (inl e) = ap (λ (l : List ℕ). met_sum l ms) e
met_none [] ms (inr e) = refl
met_none (h ∷ hs) ms (inr e) = ap (met_sum (h ∷ hs)) e

-- marks of which there are more than hashes
pub marked-take : (hs ms : List ℕ) → marked is_met hs (take (length hs) ms) ≡ marked is_met hs ms
unfolding marked
marked-take [] ms = refl
marked-take (h ∷ hs) [] = refl
marked-take (h ∷ hs) (m ∷ ms) = ap (λ (l : List ℕ). cond (is_met m) (h ∷ l) l) (marked-take hs ms)

pub met_behind : (hs marks : List ℕ) → marked is_met hs (take (length marks - 4096) (drop 4096 marks)) ≡ marked is_met hs (part 4096 (length hs) marks)
met_behind hs marks =
    ap (marked is_met hs) (take_all (length marks - 4096) (drop 4096 marks) (omega (arith, length-drop 4096 marks))) ∙ sym (marked-take hs (drop 4096 marks))

-- ---- the whole sum

joined-zeros : (n : ℕ) → joined 8 (replicate n 0) ≡ 0
unfolding joined
joined-zeros zero = refl
joined-zeros (suc n) = ap₂ (λ (a b : ℕ). a + b) (zero-mul (2 ^ (8 * length (replicate n 0)))) (joined-zeros n)

pub sum-start : Sum 0 (replicate 64 0)
sum-start = record { sum = joined-zeros 64; size = refl; fit = zeros-below 8 64 }

one-hash : (acc : List ℕ) → length acc ≡ 64 → hashes_of acc ≡ joined 8 acc ∷ []
unfolding hashes_of hash_at tabulated
one-hash acc e = ap (λ (n : ℕ). tabulated (hash_at acc) 0 (n / 64)) e ∙ ap {B = List ℕ} (λ l. joined 8 l ∷ []) (take_all 64 acc (omega arith))

pub sum-bytes : (x : ℕ) (acc : List ℕ) → Sum x acc → acc ≡ packed 512 (x ∷ [])
sum-bytes x acc t =
    sym (hashes-packed acc t.fit (rw t.size refl)) ∙ ap (packed 512) (one-hash acc t.size ∙ ap {B = List ℕ} (λ v. v ∷ []) t.sum)
