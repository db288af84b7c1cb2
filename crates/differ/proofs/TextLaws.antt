-- Laws of the printed text: how long it is, that `io` writes the digits it is made of, and one text written behind another. Assumes nothing.
use mathlib.Core.Path.{◌≡◌, refl, sym, ap, ap₂, ◌∙◌, subst}
use mathlib.Core.Bool.{Bool, true, false, cond}
use mathlib.Core.List.{List, [], ◌∷◌, ◌++◌, append_assoc, append-nil}
use Prim.Native.Nat.{ℕ, zero, suc, ◌+◌, ◌-◌, ◌*◌, ◌/◌, ◌^◌, ◌≤◌, ◌<◌}
use native.Mathlib.Nat.{add_comm, zero-mul, suc-mul, mul-le-mul_right, pow-le-pow_right, div-lt_iff_lt-mul, le-div_iff_mul-le}
use native.Mathlib.Numerals.{add-one}
use native.Mathlib.Omega.{arith}
use lib.Dec.{ltb}
use lib.ListN.{length, take, get_or, length-append}
use lib.Seq.{take-suc, length-take-le}
use borrow.Author.Tests.{ltb-true, ltb-false}
use Rattle.io.specs.Digits.{last_digits, IsDigitCount}
use Rattle.bucket.proofs.OverLaws.{over-nil, then_over}
use Rattle.differ.specs.Text.{places_by, decimal, hex16, ours_label, theirs_label, line, lines, heading, listing, refusal, Writes}

-- the fewest digits
less_one : (k : ℕ) → suc k - 1 ≡ k
less_one k = omega arith

fewest_one : (n k : ℕ) → IsDigitCount 10 1 n k → n < 10 → k ≡ 1
fewest_one n zero f h = absurd (omega (arith, f.0))
fewest_one n (suc zero) f h = refl
fewest_one n (suc (suc k)) f h =
    absurd (omega (arith, rw (less_one (suc k)) at (f.2 (omega arith)), pow-le-pow_right {n = 10} (omega arith) {i = 1} {j = suc k} (omega arith)))

fewest_more : (n k : ℕ) → IsDigitCount 10 1 n (suc k) → 10 ≤ n → IsDigitCount 10 1 (n / 10) k
fewest_more n zero f h = absurd (omega (arith, f.1))
fewest_more n (suc k) f h = (
  omega arith,
  (div-lt_iff_lt-mul {k = 10} {x = n} {y = 10 ^ suc k} (omega arith)).1 (omega (arith, f.1)),
  λ more. rw (less_one k) ((le-div_iff_mul-le {k = 10} {x = 10 ^ k} {y = n} (omega arith)).1 (omega (arith, rw (less_one (suc k)) at (f.2 (omega arith))))),
)

places_fewest : (fuel n k : ℕ) → n ≤ fuel → IsDigitCount 10 1 n k → k ≡ places_by fuel n
unfolding places_by
places_fewest zero n k h f = fewest_one n k f (omega arith)
places_fewest (suc fuel) n zero h f = absurd (omega (arith, f.0))
places_fewest (suc fuel) n (suc k) h f = go (ltb n 10) refl (places_fewest fuel (n / 10) k)
  where
    go : (t : Bool) → ltb n 10 ≡ t → (n / 10 ≤ fuel → IsDigitCount 10 1 (n / 10) k → k ≡ places_by fuel (n / 10)) → suc k ≡ cond t 1 (suc (places_by fuel (n / 10)))
    go true e rest = fewest_one n (suc k) f (ltb-true n 10 e)
    go false e rest = ap suc (rest (omega (arith, ltb-false n 10 e)) (fewest_more n k f (ltb-false n 10 e)))

pub decimal_fewest : (n k : ℕ) → IsDigitCount 10 1 n k → last_digits 10 k n ≡ decimal n
unfolding decimal
decimal_fewest n k f = ap (λ (j : ℕ). last_digits 10 j n) (places_fewest n n k (omega arith) f)

pub hex_fewest : (x k : ℕ) → IsDigitCount 16 16 x k → x < 2 ^ 64 → k ≡ 16
hex_fewest x k f h = go (ltb 16 k) refl
  where
    go : (t : Bool) → ltb 16 k ≡ t → k ≡ 16
    go true e =
        let more : 16 < k = ltb-true 16 k e in
        absurd (omega (arith, f.2 more, pow-le-pow_right {n = 16} (omega arith) {i = 16} {j = k - 1} (omega arith)))
    go false e = omega (arith, f.0, ltb-false 16 k e)

-- a number below 10 ^ suc k takes no more digits than suc k
places_le : (fuel k n : ℕ) → n < 10 ^ suc k → places_by fuel n ≤ suc k
unfolding places_by
places_le zero k n h = omega arith
places_le (suc fuel) zero n h = go (ltb n 10) refl
  where
    go : (t : Bool) → ltb n 10 ≡ t → cond t 1 (suc (places_by fuel (n / 10))) ≤ 1
    go true e = omega arith
    go false e = absurd (omega (arith, ltb-false n 10 e))
places_le (suc fuel) (suc k) n h = go (ltb n 10) (places_le fuel k (n / 10) ((div-lt_iff_lt-mul {k = 10} {x = n} {y = 10 ^ suc k} (omega arith)).1 (omega arith)))
  where
    go : (t : Bool) → places_by fuel (n / 10) ≤ suc k → cond t 1 (suc (places_by fuel (n / 10))) ≤ suc (suc k)
    go true rest = omega arith
    go false rest = omega arith

-- lengths
pub digits_length : (b k n : ℕ) → length (last_digits b k n) ≡ k
digits_length b zero n = refl
digits_length b (suc k) n = simp (length-append, digits_length b k (n / b)) (omega arith)

pub decimal-length : (n : ℕ) → n < 2 ^ 32 → length (decimal n) ≤ 10
unfolding decimal
decimal-length n h = rw (digits_length 10 (places_by n n) n) (places_le n 9 n (omega arith))

pub hex_length : (x : ℕ) → length (hex16 x) ≡ 16
unfolding hex16
hex_length x = digits_length 16 16 x

pub line-length : (label : List ℕ) (x : ℕ) → length (line label x) ≡ length label + 17
unfolding line
line-length label x = simp (length-append, hex_length) (omega arith)

pub lines-length : (label xs : List ℕ) → length (lines label xs) ≡ length xs * (length label + 17)
unfolding lines
lines-length label [] = sym (zero-mul (length label + 17))
lines-length label (x ∷ xs) =
    length-append (line label x) (lines label xs)
    ∙ ap₂ (λ (m n : ℕ). m + n) (line-length label x) (lines-length label xs)
    ∙ sym (suc-mul (length xs) (length label + 17) ∙ add_comm (length xs * (length label + 17)) (length label + 17))

pub heading-length : (size whole : ℕ) → length (heading size whole) ≡ 23 + length (decimal size) + length (decimal whole)
unfolding heading
heading-length size whole = simp length-append (omega arith)

pub refusal-length : (n : ℕ) → length (refusal n) ≡ 9 + length (decimal n)
unfolding refusal
refusal-length n = simp length-append (omega arith)

pub listing-length : (size whole : ℕ) (ours theirs : List ℕ)
    → length (listing size whole ours theirs) ≡ length (heading size whole) + (length (lines ours_label ours) + length (lines theirs_label theirs))
unfolding listing
listing-length size whole ours theirs = simp length-append

-- one line more
lines-append : (label xs ys : List ℕ) → lines label (xs ++ ys) ≡ lines label xs ++ lines label ys
unfolding lines
lines-append label [] ys = refl
lines-append label (x ∷ xs) ys =
    ap (λ (l : List ℕ). line label x ++ l) (lines-append label xs ys) ∙ sym (append_assoc (line label x) (lines label xs) (lines label ys))

pub lines_next : (label ids : List ℕ) (i : ℕ) → i < length ids → lines label (take (i + 1) ids) ≡ lines label (take i ids) ++ line label (get_or ids i 0)
unfolding lines
lines_next label ids i h =
    ap (λ (n : ℕ). lines label (take n ids)) (add-one i)
    ∙ ap (lines label) (take-suc ids i 0 h)
    ∙ lines-append label (take i ids) (get_or ids i 0 ∷ [])
    ∙ ap (λ (l : List ℕ). lines label (take i ids) ++ l) (append-nil (line label (get_or ids i 0)))

-- the lines of the first i IDs and one more are no longer than those of all
pub lines-room : (label ids : List ℕ) (i : ℕ) → i < length ids
    → length (lines label (take i ids)) + length (line label (get_or ids i 0)) ≤ length (lines label ids)
lines-room label ids i k =
    rw (lines-length label (take i ids), lines-length label ids, line-length label (get_or ids i 0), length-take-le i ids (omega arith))
    (omega (arith, suc-mul i (length label + 17), mul-le-mul_right {m = suc i} {n = length ids} (length label + 17) (omega arith)))

-- no text, one text for another, and one behind another
pub writes_none : (at : ℕ) (l : List ℕ) → at ≤ length l → Writes at [] l at l
writes_none at l h = record { next = omega arith; within = h; same = refl; laid = sym (over-nil at l) }

pub writes_as : {at : ℕ} {a b l m : List ℕ} {r : ℕ} → a ≡ b → Writes at a l r m → Writes at b l r m
writes_as {at = at} {l = l} {m = m} {r = r} e f = subst (λ (t : List ℕ). Writes at t l r m) e f

pub writes_then : {at : ℕ} {l m₁ m₂ : List ℕ} {r₁ r₂ : ℕ} (a b : List ℕ) → Writes at a l r₁ m₁ → Writes r₁ b m₁ r₂ m₂ → at + length (a ++ b) ≤ length l → Writes at (a ++ b) l r₂ m₂
writes_then {at} {l} a b f g h =
    record {
      next = omega (arith, f.next, g.next, length-append a b);
      within = g.within;
      same = g.same ∙ f.same;
      laid = then_over at l a b f.laid g.laid (sym f.next) (omega (arith, f.next, length-append a b));
    }

pub writes_three : {at : ℕ} {l m₁ m₂ m₃ : List ℕ} {r₁ r₂ r₃ : ℕ} (a b d : List ℕ) → Writes at a l r₁ m₁ → Writes r₁ b m₁ r₂ m₂ → Writes r₂ d m₂ r₃ m₃
    → at + length (a ++ (b ++ d)) ≤ length l → Writes at (a ++ (b ++ d)) l r₃ m₃
writes_three {at} a b d f g k h =
    writes_then a (b ++ d) f (writes_then b d g k (omega (arith, f.next, f.same, length-append a (b ++ d)))) h
